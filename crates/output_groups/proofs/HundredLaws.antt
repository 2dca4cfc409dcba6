-- The hundreds of a list are its coins in groups, and there is one such list of groups.
use Rattle.std.specs.Prelude.{◌≡◌, ℕ, zero, suc, ◌+◌, ◌*◌, ◌<◌, ◌≤◌, ◌↔◌, Bool, true, false, List, [], ◌∷◌, ◌++◌, map, filter, take, drop, min, All, AllPairs, IsTrue, length, get_or, nat_lt, nat_le}
use Rattle.std.specs.List.{flat_map, range_with_len}
use Rattle.std.specs.Int.{div_ceil}
use Rattle.std.proofs.Common.{refl, sym, subst, ap, ◌∙◌, arith, append-nil, inl, inr}
use Rattle.std.proofs.Math.Seq.{take-add, take-append_seam}
use Rattle.std.proofs.lemmas.Bool.{and_parts, and_from, leb-true, le-leb, ltb-true, lt-ltb}
use Rattle.std.proofs.lemmas.Grind.{flat_map-append}
use Rattle.std.proofs.lemmas.List.{append_cancel_left, length-append, length-take, length-drop, take_all}
use Rattle.std.proofs.lemmas.List.Elements.{All-head, All-tail, All-weaker}
use Rattle.std.proofs.lemmas.List.FromFn.{get_or-map-range_with_len, length-map-range_with_len, map-range_with_len_more}
use Rattle.fund_base.proofs.Lists.{in_tail, cons_cases}
use Rattle.coin_candidates.specs.declared.candidate.Candidate.{Candidate}
use Rattle.output_groups.specs.Forming.{IsGrouping, hundred, of_script, part_at, parts_of, starts_with}
use Rattle.output_groups.specs.Hundreds.{AreHundreds, HasFull}
use Rattle.output_groups.specs.Part.{Part}
use Rattle.output_groups.proofs.Members.{head_in, none_in}
use Rattle.output_groups.proofs.PartLaws.{IsFull, all_places, parts_full, place_within}
use Rattle.output_groups.proofs.PlaceLaws.{place_of}

abbrev coins_of : Part → List Candidate
coins_of p = p.coins

-- the first hundreds are the front of the list
front_more : (cs : List Candidate) (n : ℕ) → flat_map coins_of (map (part_at cs) (range_with_len 0 n)) ≡ take (100 * n) cs → flat_map coins_of (map (part_at cs) (range_with_len 0 (n + 1))) ≡ take (100 * (n + 1)) cs
front_more cs n front =
    let parts : List Part = map (part_at cs) (range_with_len 0 n) in
    let next : 100 * n + 100 ≡ 100 * (n + 1) = omega arith in
    ap (flat_map coins_of) (map-range_with_len_more (part_at cs) 0 n n (omega arith))
    ∙ flat_map-append coins_of parts (part_at cs n ∷ [])
    ∙ ap (λ (xs : List Candidate). xs ++ (hundred cs n ++ [])) front
    ∙ ap (λ (xs : List Candidate). take (100 * n) cs ++ xs) (append-nil (hundred cs n))
    ∙ sym (take-add (100 * n) 100 cs)
    ∙ ap (λ (m : ℕ). take m cs) next

front_of : (cs : List Candidate) (n : ℕ) → flat_map coins_of (map (part_at cs) (range_with_len 0 n)) ≡ take (100 * n) cs
front_of cs zero = refl
front_of cs (suc n) =
    let P : ℕ → Type 0 = λ m. flat_map coins_of (map (part_at cs) (range_with_len 0 m)) ≡ take (100 * m) cs in
    subst P (omega arith) (front_more cs n (front_of cs n))

whole_of : (cs : List Candidate) → flat_map coins_of (parts_of cs) ≡ cs
unfolding parts_of
whole_of cs =
    let enough : length cs ≤ 100 * div_ceil (length cs) 100 = grind arith in
    front_of cs (div_ceil (length cs) 100) ∙ take_all (100 * div_ceil (length cs) 100) cs enough

full_at : (cs : List Candidate) (i j : ℕ) → i < j → 100 * j < length cs → length (hundred cs i) ≡ 100
full_at cs i j before within = omega (arith, length-take 100 (drop (100 * i) cs), length-drop (100 * i) cs, before, within)

full_before : (cs : List Candidate) → AllPairs (λ (p q : Part). length p.coins ≡ 100) (parts_of cs)
unfolding parts_of
full_before cs i j d before below =
    let n = div_ceil (length cs) 100 in
    let within : j < n = omega (arith, below, length-map-range_with_len (part_at cs) 0 n) in
    let there : get_or (map (part_at cs) (range_with_len 0 n)) i d ≡ part_at cs i = get_or-map-range_with_len (part_at cs) 0 n i i d (omega arith) (omega arith) in
    subst (λ (p : Part). length p.coins ≡ 100) (sym there) (full_at cs i j before (place_within (length cs) j within))

-- there is a full group exactly where there are 100 coins
full_some : (cs : List Candidate) → HasFull (parts_of cs) → 100 ≤ length cs
full_some cs full =
    let at = place_of cs full.0 full.1 in
    let size : length (hundred cs at.0) ≡ 100 = ap (λ (p : Part). length p.coins) at.1 ∙ full.2 in
    omega (arith, size, length-take 100 (drop (100 * at.0) cs), length-drop (100 * at.0) cs)

some_full : (cs : List Candidate) → 100 ≤ length cs → HasFull (parts_of cs)
unfolding parts_of
some_full cs enough =
    let n = div_ceil (length cs) 100 in
    let first : 0 < n = grind arith in
    let p = part_at cs 0 in
    let there : get_or (map (part_at cs) (range_with_len 0 n)) 0 p ≡ p = get_or-map-range_with_len (part_at cs) 0 n 0 0 p first (omega arith) in
    (p, (0, omega (arith, first, length-map-range_with_len (part_at cs) 0 n), there), omega (arith, enough, length-take 100 (drop (100 * 0) cs), length-drop (100 * 0) cs))

partial_at : (cs : List Candidate) (k : ℕ) → IsTrue (part_at cs k).partial ↔ ((length (hundred cs k) < 100) × HasFull (parts_of cs))
partial_at cs k = (
  λ h. let both = and_parts (nat_lt (length (hundred cs k)) 100) (nat_le 100 (length cs)) h in (ltb-true (length (hundred cs k)) 100 both.0, some_full cs (leb-true 100 (length cs) both.1)),
  λ h. and_from (nat_lt (length (hundred cs k)) 100) (nat_le 100 (length cs)) (lt-ltb (length (hundred cs k)) 100 h.0) (le-leb 100 (length cs) (full_some cs h.1)),
)

partial_each : (cs : List Candidate) → All (λ (p : Part). IsTrue p.partial ↔ ((length p.coins < 100) × HasFull (parts_of cs))) (parts_of cs)
unfolding parts_of
partial_each cs = all_places (λ (p : Part). IsTrue p.partial ↔ ((length p.coins < 100) × HasFull (parts_of cs))) (part_at cs) (div_ceil (length cs) 100) (λ k below. partial_at cs k)

pub are_hundreds : (cs : List Candidate) → AreHundreds cs (parts_of cs)
are_hundreds cs =
    let Any_coin : Candidate → Type 0 = λ _. Unit {0} in
    let fine = parts_full Any_coin cs (λ k d h. tt) in
    record {
      whole = whole_of cs;
      some = All-weaker (λ (p : Part). IsFull Any_coin p.coins) (λ (p : Part). 0 < length p.coins) (λ p full. full.some) (parts_of cs) fine;
      few = All-weaker (λ (p : Part). IsFull Any_coin p.coins) (λ (p : Part). length p.coins ≤ 100) (λ p full. full.few) (parts_of cs) fine;
      full = full_before cs;
      partial = partial_each cs;
    }

pub scripts_in_hundreds : (cs : List Candidate) (parts : List Part) (script : List ℕ) → IsGrouping cs parts → AreHundreds (of_script script cs) (filter (λ (p : Part). starts_with script p.coins) parts)
scripts_in_hundreds cs parts script grouping = subst (AreHundreds (of_script script cs)) (sym (grouping.each script)) (are_hundreds (of_script script cs))

-- ---- the groups of a list are told by these words

-- a group of 1 to 100 coins that is full where another stands behind it has as many coins as there are, up to 100
first_size : (p : Part) (ps : List Part) → length p.coins ≤ 100 → AllPairs (λ (q r : Part). length q.coins ≡ 100) (p ∷ ps) → length p.coins ≡ min 100 (length (flat_map coins_of (p ∷ ps)))
first_size p [] few full = omega (arith, few, length-append p.coins [])
first_size p (r ∷ rs) few full =
    let hundred : length p.coins ≡ 100 = full 0 1 p (omega arith) (omega arith) in
    omega (arith, hundred, length-append p.coins (flat_map coins_of (r ∷ rs)))

rest_full : (p : Part) (ps : List Part) → AllPairs (λ (q r : Part). length q.coins ≡ 100) (p ∷ ps) → AllPairs (λ (q r : Part). length q.coins ≡ 100) ps
rest_full p ps full = λ i j d before within. full (suc i) (suc j) d (omega (arith, before)) (omega (arith, within))

-- lists with fronts of one length are the same part by part
fronts : (a b x y : List Candidate) → length a ≡ length b → a ++ x ≡ b ++ y → (a ≡ b) × (x ≡ y)
fronts a b x y same e =
    let front : a ≡ b = sym (take-append_seam a x) ∙ ap (λ (n : ℕ). take n (a ++ x)) same ∙ ap (take (length b)) e ∙ take-append_seam b y in
    (front, append_cancel_left b x y (ap (λ (r : List Candidate). r ++ x) (sym front) ∙ e))

same_coins : (ps qs : List Part) → flat_map coins_of ps ≡ flat_map coins_of qs → All (λ (p : Part). 0 < length p.coins) ps → All (λ (p : Part). 0 < length p.coins) qs → All (λ (p : Part). length p.coins ≤ 100) ps → All (λ (p : Part). length p.coins ≤ 100) qs
    → AllPairs (λ (p q : Part). length p.coins ≡ 100) ps → AllPairs (λ (p q : Part). length p.coins ≡ 100) qs → map coins_of ps ≡ map coins_of qs
same_coins [] [] e some some_too few few_too full full_too = refl
same_coins [] (q ∷ qs) e some some_too few few_too full full_too =
    let here : 0 < length q.coins = All-head (λ (p : Part). 0 < length p.coins) q qs some_too in
    absurd (omega (arith, here, ap length e, length-append q.coins (flat_map coins_of qs)))
same_coins (p ∷ ps) [] e some some_too few few_too full full_too =
    let here : 0 < length p.coins = All-head (λ (q : Part). 0 < length q.coins) p ps some in
    absurd (omega (arith, here, ap length e, length-append p.coins (flat_map coins_of ps)))
same_coins (p ∷ ps) (q ∷ qs) e some some_too few few_too full full_too =
    let Some : Part → Type 0 = λ r. 0 < length r.coins in
    let Few : Part → Type 0 = λ r. length r.coins ≤ 100 in
    let first = first_size p ps (All-head Few p ps few) full in
    let second = first_size q qs (All-head Few q qs few_too) full_too in
    let size : length p.coins ≡ length q.coins = first ∙ ap (λ (cs : List Candidate). min 100 (length cs)) e ∙ sym second in
    let both = fronts p.coins q.coins (flat_map coins_of ps) (flat_map coins_of qs) size e in
    let rest = same_coins ps qs both.1 (All-tail Some p ps some) (All-tail Some q qs some_too) (All-tail Few p ps few) (All-tail Few q qs few_too) (rest_full p ps full) (rest_full q qs full_too) in
    ap (λ (g : List Candidate). g ∷ map coins_of ps) both.0 ∙ ap (λ (gs : List (List Candidate)). q.coins ∷ gs) rest

full_moves : (ps qs : List Part) → map coins_of ps ≡ map coins_of qs → HasFull ps → HasFull qs
full_moves [] qs e has = absurd (none_in has.0 has.1)
full_moves (p ∷ ps) [] e has = absurd cc
full_moves (p ∷ ps) (q ∷ qs) e has =
    let head : p.coins ≡ q.coins = cc in
    let tail : map coins_of ps ≡ map coins_of qs = cc in
    elim (cons_cases p ps has.0 has.1) [
      | inl same ↦ (q, head_in q qs, ap length (sym head) ∙ ap (λ (r : Part). length r.coins) same ∙ has.2)
      | inr behind ↦ (let found = full_moves ps qs tail (has.0, behind, has.2) in (found.0, in_tail q qs found.0 found.1, found.2))
    ]

same_bool : (a b : Bool) → (a ≡ true → b ≡ true) → (b ≡ true → a ≡ true) → a ≡ b
same_bool true b to from = sym (to refl)
same_bool false true to from = from refl
same_bool false false to from = refl

part_is : (p q : Part) → p.coins ≡ q.coins → p.partial ≡ q.partial → p ≡ q
part_is p q coins partial =
    let made : List Candidate → Bool → Part = λ g b. record { coins = g; partial = b } in
    ap (λ (g : List Candidate). made g p.partial) coins ∙ ap (λ (b : Bool). made q.coins b) partial

same_groups : (F G : Type 0) (ps qs : List Part) → (F → G) → (G → F) → map coins_of ps ≡ map coins_of qs → All (λ (p : Part). IsTrue p.partial ↔ ((length p.coins < 100) × F)) ps → All (λ (q : Part). IsTrue q.partial ↔ ((length q.coins < 100) × G)) qs → ps ≡ qs
same_groups F G [] [] to from e each each_too = refl
same_groups F G [] (q ∷ qs) to from e each each_too = absurd cc
same_groups F G (p ∷ ps) [] to from e each each_too = absurd cc
same_groups F G (p ∷ ps) (q ∷ qs) to from e each each_too =
    let P : Part → Type 0 = λ r. IsTrue r.partial ↔ ((length r.coins < 100) × F) in
    let Q : Part → Type 0 = λ r. IsTrue r.partial ↔ ((length r.coins < 100) × G) in
    let head : p.coins ≡ q.coins = cc in
    let size : length p.coins ≡ length q.coins = ap length head in
    let here : P p = All-head P p ps each in
    let there : Q q = All-head Q q qs each_too in
    let partial : p.partial ≡ q.partial = same_bool p.partial q.partial
    (λ h. there.1 (omega (arith, size, (here.0 h).0), to (here.0 h).1))
    (λ h. here.1 (omega (arith, size, (there.0 h).0), from (there.0 h).1)) in
    let tail : map coins_of ps ≡ map coins_of qs = cc in
    let rest = same_groups F G ps qs to from tail (All-tail P p ps each) (All-tail Q q qs each_too) in
    ap (λ (r : Part). r ∷ ps) (part_is p q head partial) ∙ ap (λ (rs : List Part). q ∷ rs) rest

pub one_in_hundreds : (cs : List Candidate) (parts others : List Part) → AreHundreds cs parts → AreHundreds cs others → parts ≡ others
one_in_hundreds cs parts others are are_too =
    let coins = same_coins parts others (are.whole ∙ sym are_too.whole) are.some are_too.some are.few are_too.few are.full are_too.full in
    same_groups (HasFull parts) (HasFull others) parts others (full_moves parts others coins) (full_moves others parts (sym coins)) coins are.partial are_too.partial
