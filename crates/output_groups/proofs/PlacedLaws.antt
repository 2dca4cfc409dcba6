-- Groups by their places in a list of coins: measured and sorted they are the groups that candidates form, and a row keeps
-- the same of them.
use Rattle.std.specs.Prelude.{◌≡◌, ℕ, ◌+◌, ◌<◌, ◌≤◌, ◌&&◌, ◌||◌, not, Bool, true, false, List, [], ◌∷◌, map, filter, All, length, drop, get_or, IsPermutation, IsSorted, IsSortedBy}
use Rattle.std.specs.Ordering.{int_cmp, is_lt, nat_cmp, ordering_then}
use Rattle.std.proofs.Common.{refl, sym, ap, subst, ◌∙◌, arith, inl, inr}
use Rattle.std.proofs.lemmas.Bool.{cases_Bool}
use Rattle.std.proofs.lemmas.List.{get_or-map, length-drop, length-map, length-take}
use Rattle.std.proofs.lemmas.Simd.{map-map}
use Rattle.std.proofs.lemmas.List.Elements.{All-filter, All-head, All-map, All-tail, All-weaker}
use Rattle.std.proofs.lemmas.List.Sorted.{All-permutation, IsPermutation-map, length_permutation}
use Rattle.coin_candidates.specs.Candidates.{AreCandidates}
use Rattle.fund_base.specs.Outpoints.{outpoint_cmp}
use Rattle.coin_candidates.specs.declared.candidate.Candidate.{Candidate}
use Rattle.fund_base.specs.declared.outpoint.OutPoint.{OutPoint}
use Rattle.pick_problem.specs.Pool.{AreItems, IsItem}
use Rattle.pick_problem.specs.declared.item.Item.{Item}
use Rattle.output_groups.specs.Formed.{AreFormed, IsFormed, IsMeasured, coins_at, keeps_formed, part_in}
use Rattle.output_groups.specs.Forming.{AreParts}
use Rattle.output_groups.specs.Ladder.{reaches}
use Rattle.output_groups.specs.Measures.{ancestors_of, cost_of, depth_of, descendants_of, is_safe, is_useful, least_of, value_of, weight_of}
use Rattle.output_groups.specs.Order.{formed_cmp, item_cmp}
use Rattle.output_groups.specs.Part.{Part}
use Rattle.output_groups.specs.Pool.{CountsKept, group_cmp, item_of, keeps}
use Rattle.output_groups.specs.PoolOf.{pool_of}
use Rattle.output_groups.specs.declared.formed.Formed.{Formed}
use Rattle.output_groups.specs.declared.rows.Row.{Row}
use Rattle.output_groups.proofs.CountLaws.{one_count}
use Rattle.output_groups.proofs.ItemLaws.{items_fit, then_left}
use Rattle.output_groups.proofs.SortLaws.{formed_one, is_pool, part_lt}

-- ---- their order

-- what is measured compares as the coins do
along : (rate long_term : ℕ) (a b : Formed) (g h : List Candidate) → IsMeasured rate long_term g a → IsMeasured rate long_term h b → group_cmp rate long_term g h ≡ formed_cmp a b
along rate long_term a b g h first second =
    let i = item_of rate long_term g in
    let j = item_of rate long_term h in
    then_left (nat_cmp (value_of rate h) (value_of rate g)) (nat_cmp (weight_of g) (weight_of h)) (int_cmp (cost_of rate long_term g) (cost_of rate long_term h)) (outpoint_cmp (least_of g) (least_of h))
    ∙ ap (λ (x : Item). ordering_then (item_cmp x j) (outpoint_cmp (least_of g) (least_of h))) (sym first.item)
    ∙ ap (λ (x : Item). ordering_then (item_cmp a.item x) (outpoint_cmp (least_of g) (least_of h))) (sym second.item)
    ∙ ap (λ (o : OutPoint). ordering_then (item_cmp a.item b.item) (outpoint_cmp o (least_of h))) (sym first.least)
    ∙ ap (λ (o : OutPoint). ordering_then (item_cmp a.item b.item) (outpoint_cmp a.least.coin o)) (sym second.least)

parts_sorted : (rate long_term : ℕ) (coins : List Candidate) (fs : List Formed) → All (IsFormed rate long_term coins) fs → IsSorted formed_cmp fs → IsSortedBy (part_lt rate long_term) (map (part_in coins) fs)
parts_sorted rate long_term coins [] each up k d low below = absurd (omega (arith, below))
parts_sorted rate long_term coins (x ∷ xs) each up k d low below =
    let part = part_in coins in
    let short : k + 1 < length (x ∷ xs) = omega (arith, below, length-map (x ∷ xs) part) in
    let a = get_or (x ∷ xs) k x in
    let b = get_or (x ∷ xs) (k + 1) x in
    rw (get_or-map part (x ∷ xs) k x d (omega arith), get_or-map part (x ∷ xs) (k + 1) x d short)
    (ap is_lt (along rate long_term b a (coins_at coins b) (coins_at coins a) (each (k + 1) x short).measures (each k x (omega arith)).measures) ∙ up k x (omega arith) short)

-- measured and sorted groups are those that the candidates form
pub formed_are : (group : Bool) (rate long_term : ℕ) (cs coins : List Candidate) (made now : List Formed) → AreCandidates cs → AreParts group (filter (is_useful rate) cs) (map (part_in coins) made) → All (IsFormed rate long_term coins) made → IsPermutation made now → IsSorted formed_cmp now → AreFormed group rate long_term cs coins now
formed_are group rate long_term cs coins made now are formed fine moved up =
    let each = All-permutation (IsFormed rate long_term coins) made now moved fine in
    record {
      candidates = are;
      each = each;
      parts =
          formed_one group rate long_term cs (map (part_in coins) made) (map (part_in coins) now) are formed (IsPermutation-map (part_in coins) made now moved)
          (parts_sorted rate long_term coins now each up);
    }

-- ---- what a row keeps of them

kept_alike : (row : Row) (rate long_term : ℕ) (coins : List Candidate) (f : Formed) → IsFormed rate long_term coins f → keeps row (part_in coins f) ≡ keeps_formed row f
kept_alike row rate long_term coins f is =
    let g = coins_at coins f in
    let m = is.measures in
    let front = not f.partial || row.partial in
    ap (λ (x : Bool). front && reaches row x (is_safe g) (depth_of g) (ancestors_of g) (descendants_of g)) (sym m.mine)
    ∙ ap (λ (x : Bool). front && reaches row f.mine x (depth_of g) (ancestors_of g) (descendants_of g)) (sym m.safe)
    ∙ ap (λ (x : ℕ). front && reaches row f.mine f.safe x (ancestors_of g) (descendants_of g)) (sym m.depth)
    ∙ ap (λ (x : ℕ). front && reaches row f.mine f.safe f.depth x (descendants_of g)) (sym m.ancestors)
    ∙ ap (λ (x : ℕ). front && reaches row f.mine f.safe f.depth f.ancestors x) (sym m.descendants)

-- a map over what is kept keeps what a test that agrees keeps
map_kept : {X Y : Type 0} (f : X → Y) (p : X → Bool) (q : Y → Bool) (xs : List X) → All (λ x. q (f x) ≡ p x) xs → filter q (map f xs) ≡ map f (filter p xs)
map_kept f p q [] same = refl
map_kept {X} {Y} f p q (x ∷ xs) same =
    let Same : X → Type 0 = λ z. q (f z) ≡ p z in
    let here : q (f x) ≡ p x = All-head Same x xs same in
    let rest = map_kept f p q xs (All-tail Same x xs same) in
    elim (cases_Bool (p x)) [
      | inl kept ↦ (let also : q (f x) ≡ true = here ∙ kept in simp (also, kept) (ap (λ (ys : List Y). f x ∷ ys) rest))
      | inr left ↦ (let also : q (f x) ≡ false = here ∙ left in simp (also, left) rest)
    ]

-- maps that agree on each element
map_same : {X Y : Type 0} (f g : X → Y) (xs : List X) → All (λ x. f x ≡ g x) xs → map f xs ≡ map g xs
map_same f g [] same = refl
map_same {X} {Y} f g (x ∷ xs) same =
    let Same : X → Type 0 = λ z. f z ≡ g z in
    ap (λ (y : Y). y ∷ map f xs) (All-head Same x xs same) ∙ ap (λ (ys : List Y). g x ∷ ys) (map_same f g xs (All-tail Same x xs same))

-- the coins of a row's pool
pub groups_seen : (group : Bool) (row : Row) (rate long_term : ℕ) (cs coins : List Candidate) (fs : List Formed) → AreFormed group rate long_term cs coins fs
    → map (coins_at coins) (filter (keeps_formed row) fs) ≡ (pool_of group row rate long_term cs).groups
unfolding pool_of
groups_seen group row rate long_term cs coins fs are =
    let coins_of : Part → List Candidate = λ p. p.coins in
    let agree : All (λ f. keeps row (part_in coins f) ≡ keeps_formed row f) fs =
    All-weaker (IsFormed rate long_term coins) (λ f. keeps row (part_in coins f) ≡ keeps_formed row f) (λ f is. kept_alike row rate long_term coins f is) fs are.each in
    sym (map-map coins_of (part_in coins) (filter (keeps_formed row) fs))
    ∙ ap (map coins_of) (sym (map_kept (part_in coins) (keeps_formed row) (keeps row) fs agree))
    ∙ ap (λ (ps : List Part). map coins_of (filter (keeps row) ps)) are.parts

-- their items
pub items_seen : (group : Bool) (row : Row) (rate long_term : ℕ) (cs coins : List Candidate) (fs : List Formed) → AreFormed group rate long_term cs coins fs
    → map (λ (f : Formed). f.item) (filter (keeps_formed row) fs) ≡ (pool_of group row rate long_term cs).items
items_seen group row rate long_term cs coins fs are =
    let kept = filter (keeps_formed row) fs in
    let item : Formed → Item = λ f. f.item in
    let each = All-filter (keeps_formed row) (IsFormed rate long_term coins) fs are.each in
    let same : All (λ f. item f ≡ item_of rate long_term (coins_at coins f)) kept =
    All-weaker (IsFormed rate long_term coins) (λ f. item f ≡ item_of rate long_term (coins_at coins f)) (λ f is. is.measures.item) kept each in
    map_same item (λ f. item_of rate long_term (coins_at coins f)) kept same
    ∙ sym (map-map (item_of rate long_term) (coins_at coins) kept)
    ∙ ap (map (item_of rate long_term)) (groups_seen group row rate long_term cs coins fs are)
    ∙ sym (is_pool group row rate long_term cs).items_are

sized : (rate long_term : ℕ) (coins : List Candidate) (f : Formed) → IsFormed rate long_term coins f → f.size ≡ length (coins_at coins f)
sized rate long_term coins f is = omega (arith, is.within, length-take f.size (drop f.start coins), length-drop f.start coins)

-- how many coins each has
pub sizes_seen : (group : Bool) (row : Row) (rate long_term : ℕ) (cs coins : List Candidate) (fs : List Formed) → AreFormed group rate long_term cs coins fs
    → map (λ (f : Formed). f.size) (filter (keeps_formed row) fs) ≡ map (λ (g : List Candidate). length g) (pool_of group row rate long_term cs).groups
sizes_seen group row rate long_term cs coins fs are =
    let kept = filter (keeps_formed row) fs in
    let size : Formed → ℕ = λ f. f.size in
    let long : List Candidate → ℕ = λ g. length g in
    let each = All-filter (keeps_formed row) (IsFormed rate long_term coins) fs are.each in
    let same : All (λ f. size f ≡ long (coins_at coins f)) kept =
    All-weaker (IsFormed rate long_term coins) (λ f. size f ≡ long (coins_at coins f)) (λ f is. sized rate long_term coins f is) kept each in
    map_same size (λ f. long (coins_at coins f)) kept same
    ∙ sym (map-map long (coins_at coins) kept)
    ∙ ap (map long) (groups_seen group row rate long_term cs coins fs are)

pub sizes_small : (group : Bool) (row : Row) (rate long_term : ℕ) (cs coins : List Candidate) (fs : List Formed) → AreFormed group rate long_term cs coins fs
    → All (λ n. n ≤ 100) (map (λ (f : Formed). f.size) (filter (keeps_formed row) fs))
sizes_small group row rate long_term cs coins fs are =
    let kept = filter (keeps_formed row) fs in
    let size : Formed → ℕ = λ f. f.size in
    let each = All-filter (keeps_formed row) (IsFormed rate long_term coins) fs are.each in
    All-map (λ n. n ≤ 100) size kept (All-weaker (IsFormed rate long_term coins) (λ f. size f ≤ 100) (λ f is. is.few) kept each)

-- ---- how many it keeps

pub counted : (group : Bool) (row : Row) (rate long_term : ℕ) (cs : List Candidate) → CountsKept group row rate cs (length (pool_of group row rate long_term cs).groups)
counted group row rate long_term cs =
    let is = is_pool group row rate long_term cs in
    record { kept = is.kept; are_kept = is.are_kept; count = sym (length_permutation is.kept (pool_of group row rate long_term cs).groups is.moved) }

pub count_seen : (group : Bool) (row : Row) (rate long_term : ℕ) (cs coins : List Candidate) (fs : List Formed) → AreFormed group rate long_term cs coins fs → length (filter (keeps_formed row) fs) ≡ length (pool_of group row rate long_term cs).groups
count_seen group row rate long_term cs coins fs are =
    sym (length-map (filter (keeps_formed row) fs) (coins_at coins)) ∙ ap length (groups_seen group row rate long_term cs coins fs are)

pub few_kept : (group : Bool) (row : Row) (rate long_term : ℕ) (cs : List Candidate) → length (pool_of group row rate long_term cs).groups ≤ 10_000 → (n : ℕ) → CountsKept group row rate cs n → n ≤ 10_000
few_kept group row rate long_term cs few n counts =
    let same = one_count group row rate cs (length (pool_of group row rate long_term cs).groups) n (counted group row rate long_term cs) counts in
    omega (arith, same, few)

-- the items of few groups are such as a problem takes
pub items_fit_formed : (group : Bool) (row : Row) (rate long_term : ℕ) (cs coins : List Candidate) (fs : List Formed) → AreFormed group rate long_term cs coins fs → length (pool_of group row rate long_term cs).groups ≤ 10_000
    → AreItems (pool_of group row rate long_term cs).items
items_fit_formed group row rate long_term cs coins fs are few =
    let pool = pool_of group row rate long_term cs in
    let is = is_pool group row rate long_term cs in
    let kept = filter (keeps_formed row) fs in
    let item : Formed → Item = λ f. f.item in
    let each : All IsItem (map item kept) =
    All-map IsItem item kept (All-weaker (IsFormed rate long_term coins) (λ f. IsItem (item f)) (λ f h. h.measures.fits) kept (All-filter (keeps_formed row) (IsFormed rate long_term coins) fs are.each)) in
    let whole : map item kept ≡ map (item_of rate long_term) pool.groups = items_seen group row rate long_term cs coins fs are ∙ is.items_are in
    subst AreItems (sym is.items_are) (items_fit rate long_term pool.groups few (subst (λ (xs : List Item). All IsItem xs) whole each) is.order)
