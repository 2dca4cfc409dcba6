-- The coins that are listed, in the order of their outpoints.
use Rattle.std.specs.Prelude.{ℕ, ◌≡◌, ◌≤◌, ◌+◌, ◌⊎◌, ◌&&◌, ◌||◌, not, List, [], ◌∷◌, ◌++◌, length, filter, map, fold, sum_by, All, Bool, true, false}
use Rattle.std.specs.List.{list_any}
use Rattle.std.specs.Ordering.{match_ordering, ordering_reverse}
use Rattle.std.specs.List.Sorted.{IsStrictlySortedBy}
use Rattle.std.specs.Map.{keys_of, values_of}
use Rattle.std.specs.BTreeMap.{insert_entry}
use Rattle.std.specs.declared.cmp.Ordering.{Ordering}
use Rattle.std.specs.declared.cmp.Ordering.TheVariants.{Less, Equal, Greater}
use Rattle.std.proofs.Common.{cond, refl, sym, ap, subst, ◌∙◌, inl, inr, arith, get_or}
use Rattle.std.proofs.lemmas.Bool.{cond_both, both_ways, or_left, or_right, or_cases}
use Rattle.std.proofs.lemmas.List.{append-nil, length-map, get_or-map}
use Rattle.std.proofs.lemmas.List.Elements.{All-nil, All-cons, All-head, All-tail, All-filter, All-from_recursion, recursion_from_All, All-weaker, filter-append}
use Rattle.std.proofs.lemmas.List.Sums.{fold_push, sum_by-cons}
use Rattle.std.proofs.lemmas.Map.Keys.{Less-from_sorted}
use Rattle.std.proofs.lemmas.Map.Views.{All-keys-insert_entry, All-values-insert_entry}
use Rattle.fund_base.proofs.OutpointLaws.{outpoint_total, outpoint_equal}
use Rattle.fund_base.specs.Outpoints.{outpoint_cmp, same_outpoint}
use Rattle.fund_base.specs.declared.outpoint.OutPoint.{OutPoint}
use Rattle.coin_candidates.specs.Candidates.{AreCandidates, IsCandidate}
use Rattle.coin_candidates.specs.declared.candidate.Candidate.{Candidate}
use Rattle.fund_steps.specs.Amounts.{AreWithin, value_of}
use Rattle.output_groups.proofs.PartLaws.{filter_all, filter_none}
use Rattle.request_text.specs.PlainRequest.{PlainRequest}
use Rattle.fund_steps.specs.Listed.{is_preset}
use Rattle.fund_steps.specs.Plan.{may_be_listed}
use Rattle.fund_steps.specs.Selection.{AreSorted, by_outpoint, in_order, is_listed, unlisted}

-- ---- the order of outpoints

-- ---- one more entry

abbrev Entries : Type 0
Entries = List (OutPoint × Candidate)

abbrev ins : Entries → Candidate → Entries
ins es c = insert_entry outpoint_cmp es c.coin c

by_cmp : {X : Type 0} (o : Ordering) (a b d : X) (P : X → Type 0) → (o ≡ Less → P a) → (o ≡ Equal → P b) → (o ≡ Greater → P d) → P (match_ordering o a b d)
by_cmp Less a b d P f g h = f refl
by_cmp Equal a b d P f g h = g refl
by_cmp Greater a b d P f g h = h refl

-- each entry is at the outpoint of its coin
abbrev IsKeyed : OutPoint × Candidate → Type 0
IsKeyed e = e.0 ≡ e.1.coin

keyed_more : (es : Entries) (c : Candidate) → All IsKeyed es → All IsKeyed (ins es c)
keyed_more [] c h = All-cons IsKeyed (c.coin, c) [] refl (All-nil IsKeyed)
keyed_more (e ∷ es) c h =
    by_cmp (outpoint_cmp c.coin e.0) ((c.coin, c) ∷ e ∷ es) ((e.0, c) ∷ es) (e ∷ ins es c) (All IsKeyed)
    (λ _. All-cons IsKeyed (c.coin, c) (e ∷ es) refl h)
    (λ q. All-cons IsKeyed (e.0, c) es (sym (outpoint_equal c.coin e.0 q)) (All-tail IsKeyed e es h))
    (λ _. All-cons IsKeyed e (ins es c) (All-head IsKeyed e es h) (keyed_more es c (All-tail IsKeyed e es h)))

abbrev Sorted : Entries → Type 0
Sorted es = IsStrictlySortedBy outpoint_cmp (keys_of es)

abbrev Above : OutPoint → OutPoint → Type 0
Above k q = outpoint_cmp k q ≡ Less

reverse_greater : (o : Ordering) → o ≡ Greater → ordering_reverse o ≡ Less
reverse_greater o e = ap ordering_reverse e

sorted_more : (es : Entries) (c : Candidate) → Sorted es → Sorted (ins es c)
unfolding IsStrictlySortedBy
sorted_more [] c h = (tt, tt)
sorted_more (e ∷ es) c h =
    let rest : All (Above e.0) (keys_of es) = All-from_recursion (Above e.0) (keys_of es) h.0 in
    by_cmp (outpoint_cmp c.coin e.0) ((c.coin, c) ∷ e ∷ es) ((e.0, c) ∷ es) (e ∷ ins es c) Sorted
    (λ less. (recursion_from_All (Above c.coin) (e.0 ∷ keys_of es) (All-cons (Above c.coin) e.0 (keys_of es) less (All-weaker (Above e.0) (Above c.coin) (λ q up. outpoint_total.trans c.coin e.0 q less up) (keys_of es) rest)), h))
    (λ _. h)
    (λ more.
    let below : Above e.0 c.coin = outpoint_total.antisymm e.0 c.coin ∙ reverse_greater (outpoint_cmp c.coin e.0) more in
    (recursion_from_All (Above e.0) (keys_of (ins es c)) (All-keys-insert_entry outpoint_cmp c.coin c (Above e.0) es rest below), sorted_more es c h.1))

-- a coin is at this outpoint
abbrev has_at : OutPoint → Entries → Bool
has_at p es = list_any (λ (c : Candidate). same_outpoint c.coin p) (values_of es)

has_new : (p : OutPoint) (es : Entries) (c : Candidate) → same_outpoint c.coin p ≡ true → has_at p (ins es c) ≡ true
has_new p [] c is = or_left (same_outpoint c.coin p) false is
has_new p (e ∷ es) c is =
    by_cmp (outpoint_cmp c.coin e.0) ((c.coin, c) ∷ e ∷ es) ((e.0, c) ∷ es) (e ∷ ins es c) (λ (x : Entries). has_at p x ≡ true)
    (λ _. or_left (same_outpoint c.coin p) (has_at p (e ∷ es)) is)
    (λ _. or_left (same_outpoint c.coin p) (has_at p es) is)
    (λ _. or_right (same_outpoint e.1.coin p) (has_at p (ins es c)) (has_new p es c is))

has_old : (p : OutPoint) (es : Entries) (c : Candidate) → All IsKeyed es → has_at p es ≡ true → has_at p (ins es c) ≡ true
has_old p [] c keyed has = absurd (both_ways false refl has)
has_old p (e ∷ es) c keyed has =
    by_cmp (outpoint_cmp c.coin e.0) ((c.coin, c) ∷ e ∷ es) ((e.0, c) ∷ es) (e ∷ ins es c) (λ (x : Entries). has_at p x ≡ true)
    (λ _. or_right (same_outpoint c.coin p) (has_at p (e ∷ es)) has)
    (λ q.
    let same : c.coin ≡ e.1.coin = outpoint_equal c.coin e.0 q ∙ All-head IsKeyed e es keyed in
    ap (λ (k : OutPoint). same_outpoint k p || has_at p es) same ∙ has)
    (λ _. by_or (or_cases (same_outpoint e.1.coin p) (has_at p es) has) (has_old p es c (All-tail IsKeyed e es keyed)))
  where
    by_or : (same_outpoint e.1.coin p ≡ true) ⊎ (has_at p es ≡ true) → (has_at p es ≡ true → has_at p (ins es c) ≡ true) → has_at p (e ∷ ins es c) ≡ true
    by_or (inl h) again = or_left (same_outpoint e.1.coin p) (has_at p (ins es c)) h
    by_or (inr h) again = or_right (same_outpoint e.1.coin p) (has_at p (ins es c)) (again h)

sum_more : (f : Candidate → ℕ) (es : Entries) (c : Candidate) → sum_by f (values_of (ins es c)) ≤ sum_by f (values_of es) + f c
sum_more f [] c = omega (arith, sum_by-cons f c [])
sum_more f (e ∷ es) c =
    let old = sum_by-cons f e.1 (values_of es) in
    by_cmp (outpoint_cmp c.coin e.0) ((c.coin, c) ∷ e ∷ es) ((e.0, c) ∷ es) (e ∷ ins es c) (λ (x : Entries). sum_by f (values_of x) ≤ sum_by f (values_of (e ∷ es)) + f c)
    (λ _. omega (arith, sum_by-cons f c (values_of (e ∷ es))))
    (λ _. omega (arith, sum_by-cons f c (values_of es)))
    (λ _. omega (arith, sum_by-cons f e.1 (values_of (ins es c)), sum_more f es c))

length_more : (es : Entries) (c : Candidate) → length (values_of (ins es c)) ≤ length (values_of es) + 1
length_more [] c = omega arith
length_more (e ∷ es) c =
    by_cmp (outpoint_cmp c.coin e.0) ((c.coin, c) ∷ e ∷ es) ((e.0, c) ∷ es) (e ∷ ins es c) (λ (x : Entries). length (values_of x) ≤ length (values_of (e ∷ es)) + 1)
    (λ _. omega arith)
    (λ _. omega arith)
    (λ _. omega (arith, length_more es c))

-- ---- all of them

pub record IsSelection (es : Entries) : Type 0 where
  pub keyed : All IsKeyed es
  pub sorted : Sorted es

none_selected : IsSelection []
unfolding IsStrictlySortedBy
none_selected = record { keyed = All-nil IsKeyed; sorted = tt }

abbrev all : Entries → List Candidate → Entries
all es coins = fold ins es coins

all_selected : (es : Entries) (coins : List Candidate) → IsSelection es → IsSelection (all es coins)
all_selected es [] h = h
all_selected es (c ∷ coins) h = all_selected (ins es c) coins (record { keyed = keyed_more es c h.keyed; sorted = sorted_more es c h.sorted })

all_keep : (P : Candidate → Type 0) (es : Entries) (coins : List Candidate) → All P (values_of es) → All P coins → All P (values_of (all es coins))
all_keep P es [] h new = h
all_keep P es (c ∷ coins) h new = all_keep P (ins es c) coins (All-values-insert_entry outpoint_cmp c.coin c P es h (All-head P c coins new)) (All-tail P c coins new)

stays : (p : OutPoint) (es : Entries) (coins : List Candidate) → All IsKeyed es → has_at p es ≡ true → has_at p (all es coins) ≡ true
stays p es [] keyed has = has
stays p es (c ∷ coins) keyed has = stays p (ins es c) coins (keyed_more es c keyed) (has_old p es c keyed has)

comes : (p : OutPoint) (es : Entries) (coins : List Candidate) → All IsKeyed es → list_any (λ (c : Candidate). same_outpoint c.coin p) coins ≡ true → has_at p (all es coins) ≡ true
comes p es [] keyed has = absurd (both_ways false refl has)
comes p es (c ∷ coins) keyed has = by_or (or_cases (same_outpoint c.coin p) (list_any (λ (d : Candidate). same_outpoint d.coin p) coins) has) (comes p (ins es c) coins (keyed_more es c keyed))
  where
    by_or : (same_outpoint c.coin p ≡ true) ⊎ (list_any (λ (d : Candidate). same_outpoint d.coin p) coins ≡ true) → (list_any (λ (d : Candidate). same_outpoint d.coin p) coins ≡ true → has_at p (all (ins es c) coins) ≡ true) → has_at p (all (ins es c) coins) ≡ true
    by_or (inl h) again = stays p (ins es c) coins (keyed_more es c keyed) (has_new p es c h)
    by_or (inr h) again = again h

all_sum : (f : Candidate → ℕ) (es : Entries) (coins : List Candidate) → sum_by f (values_of (all es coins)) ≤ sum_by f (values_of es) + sum_by f coins
all_sum f es [] = omega arith
all_sum f es (c ∷ coins) = omega (arith, all_sum f (ins es c) coins, sum_more f es c, sum_by-cons f c coins)

all_length : (es : Entries) (coins : List Candidate) → length (values_of (all es coins)) ≤ length (values_of es) + length coins
all_length es [] = omega arith
all_length es (c ∷ coins) = omega (arith, all_length (ins es c) coins, length_more es c)

-- ---- the coins that are listed

keys_are : (es : Entries) → All IsKeyed es → keys_of es ≡ map (λ (c : Candidate). c.coin) (values_of es)
keys_are [] h = refl
keys_are (e ∷ es) h =
    let first : e.0 ≡ e.1.coin = All-head IsKeyed e es h in
    let rest = keys_are es (All-tail IsKeyed e es h) in
    ap (λ (k : OutPoint). k ∷ keys_of es) first ∙ ap (λ (ks : List OutPoint). e.1.coin ∷ ks) rest

pairs_below : (coins : List Candidate) → IsStrictlySortedBy outpoint_cmp (map (λ (c : Candidate). c.coin) coins) → AreSorted coins
pairs_below coins h = λ i j d lt in'.
    let f : Candidate → OutPoint = λ c. c.coin in
    let len = length-map coins f in
    let less = Less-from_sorted outpoint_cmp (map f coins) i j d.coin h lt (omega arith) in
    let a : get_or (map f coins) i d.coin ≡ (get_or coins i d).coin = get_or-map f coins i d d.coin (omega arith) in
    let b : get_or (map f coins) j d.coin ≡ (get_or coins j d).coin = get_or-map f coins j d d.coin in' in
    ap (λ (x : OutPoint). outpoint_cmp x (get_or coins j d).coin) (sym a) ∙ ap (λ (y : OutPoint). outpoint_cmp (get_or (map f coins) i d.coin) y) (sym b) ∙ less

pub in_order_sorted : (coins : List Candidate) → AreSorted (in_order coins)
unfolding by_outpoint
in_order_sorted coins =
    let s = all_selected [] coins none_selected in
    pairs_below (values_of (all [] coins)) (subst (IsStrictlySortedBy outpoint_cmp) (keys_are (all [] coins) s.keyed) s.sorted)

pub in_order_keeps : (P : Candidate → Type 0) (coins : List Candidate) → All P coins → All P (in_order coins)
unfolding by_outpoint
in_order_keeps P coins h = all_keep P [] coins (All-nil P) h

pub in_order_has : (p : OutPoint) (coins : List Candidate) → list_any (λ (c : Candidate). same_outpoint c.coin p) coins ≡ true → list_any (λ (c : Candidate). same_outpoint c.coin p) (in_order coins) ≡ true
unfolding by_outpoint
in_order_has p coins has = comes p [] coins (All-nil IsKeyed) has

in_order_sum : (f : Candidate → ℕ) (coins : List Candidate) → sum_by f (in_order coins) ≤ sum_by f coins
unfolding by_outpoint
in_order_sum f coins = omega (arith, all_sum f [] coins)

in_order_length : (coins : List Candidate) → length (in_order coins) ≤ length coins
unfolding by_outpoint
in_order_length coins = omega (arith, all_length [] coins)

-- a filter takes no more
filter_sum : (f : Candidate → ℕ) (p : Candidate → Bool) (coins : List Candidate) → sum_by f (filter p coins) ≤ sum_by f coins
filter_sum f p [] = omega arith
filter_sum f p (c ∷ coins) =
    let old = sum_by-cons f c coins in
    let again = filter_sum f p coins in
    cond_both (p c) (c ∷ filter p coins) (filter p coins) (λ (x : List Candidate). sum_by f x ≤ sum_by f (c ∷ coins))
    (λ _. omega (arith, sum_by-cons f c (filter p coins)))
    (λ _. omega arith)

pub filter_length : (p : Candidate → Bool) (coins : List Candidate) → length (filter p coins) ≤ length coins
filter_length p [] = omega arith
filter_length p (c ∷ coins) =
    let again = filter_length p coins in
    cond_both (p c) (c ∷ filter p coins) (filter p coins) (λ (x : List Candidate). length x ≤ length (c ∷ coins)) (λ _. omega arith) (λ _. omega arith)

-- candidates that some are taken of are within their bounds
pub taken_within : (p : Candidate → Bool) (coins : List Candidate) → AreCandidates coins → value_of coins ≤ 2_100_000_000_000_000 → AreWithin (in_order (filter p coins))
taken_within p coins h within =
    let f : Candidate → ℕ = λ c. c.value in
    let few = h.count in
    record {
      each = in_order_keeps IsCandidate (filter p coins) (All-filter p IsCandidate coins h.each);
      count = omega (arith, in_order_length (filter p coins), filter_length p coins);
      value = omega (arith, in_order_sum f (filter p coins), filter_sum f p coins);
    }

-- the same of candidates that are put in order
pub ordered_within : (coins : List Candidate) → AreCandidates coins → value_of coins ≤ 2_100_000_000_000_000 → AreWithin (in_order coins)
ordered_within coins h within =
    let few = h.count in
    record {
      each = in_order_keeps IsCandidate coins h.each;
      count = omega (arith, in_order_length coins);
      value = omega (arith, in_order_sum (λ (c : Candidate). c.value) coins);
    }

-- ---- one coin more

pub kept_more : (p : Candidate → Bool) (coins : List Candidate) (c : Candidate) (old new : List Candidate) → p c ≡ true → new ≡ old ++ c ∷ [] → old ≡ filter p coins → new ≡ filter p (coins ++ c ∷ [])
kept_more p coins c old new passes put was =
    put
    ∙ ap (λ (l : List Candidate). l ++ c ∷ []) was
    ∙ ap (λ (b : Bool). filter p coins ++ cond b (c ∷ []) []) (sym passes)
    ∙ sym (filter-append p coins (c ∷ []))

pub kept_same : (p : Candidate → Bool) (coins : List Candidate) (c : Candidate) (old : List Candidate) → p c ≡ false → old ≡ filter p coins → old ≡ filter p (coins ++ c ∷ [])
kept_same p coins c old fails was =
    was
    ∙ sym (append-nil (filter p coins))
    ∙ ap (λ (b : Bool). filter p coins ++ cond b (c ∷ []) []) (sym fails)
    ∙ sym (filter-append p coins (c ∷ []))

pub order_more : (p : Candidate → Bool) (coins : List Candidate) (c : Candidate) (old new : Entries) → p c ≡ true → new ≡ ins old c → old ≡ by_outpoint (filter p coins) → new ≡ by_outpoint (filter p (coins ++ c ∷ []))
unfolding by_outpoint
order_more p coins c old new passes put was =
    put
    ∙ ap (λ (es : Entries). ins es c) was
    ∙ sym (fold_push ins [] (filter p coins) c)
    ∙ ap (λ (l : List Candidate). fold ins [] (filter p coins ++ l)) (ap (λ (b : Bool). cond b (c ∷ []) []) (sym passes))
    ∙ ap (fold ins []) (sym (filter-append p coins (c ∷ [])))

pub order_next : (coins : List Candidate) (c : Candidate) (old new : Entries) → new ≡ ins old c → old ≡ by_outpoint coins → new ≡ by_outpoint (coins ++ c ∷ [])
unfolding by_outpoint
order_next coins c old new put was = put ∙ ap (λ (es : Entries). ins es c) was ∙ sym (fold_push ins [] coins c)

pub order_same : (p : Candidate → Bool) (coins : List Candidate) (c : Candidate) (old : Entries) → p c ≡ false → old ≡ by_outpoint (filter p coins) → old ≡ by_outpoint (filter p (coins ++ c ∷ []))
unfolding by_outpoint
order_same p coins c old not was =
    was
    ∙ ap (fold ins []) (sym (append-nil (filter p coins)) ∙ ap (λ (l : List Candidate). filter p coins ++ l) (ap (λ (b : Bool). cond b (c ∷ []) []) (sym not)) ∙ sym (filter-append p coins (c ∷ [])))

-- ---- where nothing is listed

pub all_unlisted : (points : List OutPoint) (coins : List Candidate) → points ≡ [] → coins ≡ unlisted points coins
all_unlisted points coins none =
    sym (filter_all (λ (c : Candidate). not (is_listed points c.coin)) coins (λ k d _. ap (λ (ps : List OutPoint). not (is_listed ps (get_or coins k d).coin)) none))

pub none_listed : (r : PlainRequest) (coins : List Candidate) → r.coins ≡ [] → [] ≡ in_order (filter (is_preset r) coins)
unfolding by_outpoint
none_listed r coins none =
    sym (ap in_order (filter_none (is_preset r) coins (λ k d _. ap (λ (ps : List OutPoint). is_listed ps (get_or coins k d).coin && may_be_listed r (get_or coins k d)) none)))
