-- Which coins can be spent.
use Rattle.std.specs.Prelude.{ℕ, ◌≡◌, ◌≢◌, ◌<◌, ◌⊎◌, ◌==◌, ◌&&◌, ◌||◌, List, [], ◌∷◌, All, AllPairs, Contains, Bool, true, false, not, Option, Some, None, IsTrue, bytes_eq, find, nat_le, if◌then◌else◌}
use Rattle.std.specs.List.{list_any}
use Rattle.std.specs.Option.{option_map_or}
use Rattle.std.proofs.Common.{refl, sym, ap, ◌∙◌, inl, inr, cond, get_or}
use Rattle.std.proofs.lemmas.Bool.{and_from, and_parts, both_ways, cases_order, eq-eqb, eqb-true, false_from_ne_true, le-leb, leb-true, not-false, not_from_true, or_cases, or_from, or_left, or_parts, or_right}
use Rattle.std.proofs.lemmas.List.{get_or_default}
use Rattle.std.proofs.lemmas.List.Elements.{All-cons, All-contains_itself, All-head, All-nil, All-tail}
use Rattle.std.proofs.lemmas.List.Folds.{Any-from_list_any}
use Rattle.std.proofs.lemmas.Option.{none-some, same_Some}
use Rattle.std.proofs.lemmas.Slice.Eq.{bytes_eq-Decides}
use Rattle.fund_base.proofs.OutpointLaws.{same_outpoint-Decides}
use Rattle.coin_candidates.specs.Candidates.{AreCandidates}
use Rattle.fund_base.specs.Outpoints.{same_outpoint}
use Rattle.coin_candidates.specs.declared.candidate.Candidate.{Candidate}
use Rattle.fund_base.specs.declared.outpoint.OutPoint.{OutPoint}
use Rattle.fund_steps.specs.Plan.{may_be_listed}
use Rattle.output_groups.specs.Ladder.{Meets, ladder_of, reaches}
use Rattle.output_groups.specs.declared.rows.Row.{Row}
use Rattle.payment_states.proofs.MakerSteps.{found}
use Rattle.payment_states.proofs.Paths.{any_has}
use Rattle.request_text.specs.PlainRequest.{PlainRequest}
use Rattle.desk_machine.specs.Commits.{IsFirstTaken, IsFree, IsGood, IsSame, IsSpendable, MeetsRow}
use Rattle.desk_machine.specs.State.{Payment, has_point, is_reserved}
use Rattle.desk_machine.specs.Taken.{coin_now, first_taken, is_good, is_taken, meets_numbered, meets_row, same_coin}
use Rattle.desk_machine.proofs.ApartLaws.{none_of}

-- ---- points

point_there : (coins : List OutPoint) (o : OutPoint) → has_point coins o ≡ true → Contains coins o
point_there coins o e =
    let a = Any-from_list_any (λ (x : OutPoint). same_outpoint x o) coins e in
    let is : a.1 ≡ o = (same_outpoint-Decides a.1 o).0 a.4 in
    (a.0, a.2, get_or_default coins a.0 o a.1 a.2 ∙ a.3 ∙ is)

there_point : (coins : List OutPoint) (o : OutPoint) → Contains coins o → has_point coins o ≡ true
there_point coins o c = any_has (λ (x : OutPoint). same_outpoint x o) coins o c ((same_outpoint-Decides o o).1 refl)

free_there : (ps : List Payment) (o : OutPoint) → is_reserved ps o ≡ false → IsFree ps o
free_there ps o e = λ k d lt has. absurd (none_of ps o e k d lt has.0 o has.1 has.2)

there_free : (ps : List Payment) (o : OutPoint) → IsFree ps o → is_reserved ps o ≡ false
there_free [] o free = refl
there_free (p ∷ ps) o free =
    or_from (has_point p.coins o) (is_reserved ps o)
    (false_from_ne_true (has_point p.coins o) (λ e. All-head (λ (x : Payment). Contains x.coins o → ⊥) p ps free (point_there p.coins o e)))
    (there_free ps o (All-tail (λ (x : Payment). Contains x.coins o → ⊥) p ps free))

-- ---- the same coin

same_there : (a b : Candidate) → same_coin a b ≡ true → IsSame a b
same_there a b e =
    let x = and_parts (same_outpoint a.coin b.coin) ((a.value == b.value) && ((a.weight == b.weight) && bytes_eq a.script b.script)) e in
    let y = and_parts (a.value == b.value) ((a.weight == b.weight) && bytes_eq a.script b.script) x.1 in
    let z = and_parts (a.weight == b.weight) (bytes_eq a.script b.script) y.1 in
    record {
      coin = (same_outpoint-Decides a.coin b.coin).0 x.0;
      value = eqb-true a.value b.value y.0;
      weight = eqb-true a.weight b.weight z.0;
      script = (bytes_eq-Decides a.script b.script).0 z.1;
    }

there_same : (a b : Candidate) → IsSame a b → same_coin a b ≡ true
there_same a b s =
    and_from _ _ ((same_outpoint-Decides a.coin b.coin).1 s.coin)
    (and_from _ _ (eq-eqb a.value b.value s.value) (and_from _ _ (eq-eqb a.weight b.weight s.weight) ((bytes_eq-Decides a.script b.script).1 s.script)))

-- ---- rows

row_there : (n : ℕ) (c : Candidate) (row : Row) → meets_numbered n c row ≡ true → (row.number ≡ n) × Meets row c
row_there n c row e =
    let x = and_parts (row.number == n) (reaches row c.mine c.safe c.depth c.ancestors c.descendants) e in
    let d = and_parts _ (c.safe || row.unsafe_too) x.1 in
    let b = and_parts _ (nat_le c.descendants row.descendants) d.0 in
    let a = and_parts (nat_le (if c.mine then row.own else row.foreign) c.depth) (nat_le c.ancestors row.ancestors) b.0 in (
      eqb-true row.number n x.0,
      record {
        deep = leb-true _ _ a.0;
        few_ancestors = leb-true _ _ a.1;
        few_descendants = leb-true _ _ b.1;
        safe_enough = or_cases c.safe row.unsafe_too d.1;
      },
    )

there_row : (n : ℕ) (c : Candidate) (row : Row) → row.number ≡ n → Meets row c → meets_numbered n c row ≡ true
there_row n c row is m =
    and_from (row.number == n) _ (eq-eqb row.number n is)
    (and_from _ (c.safe || row.unsafe_too)
    (and_from _ (nat_le c.descendants row.descendants) (and_from _ (nat_le c.ancestors row.ancestors) (le-leb _ _ m.deep) (le-leb _ _ m.few_ancestors)) (le-leb _ _ m.few_descendants)) (safe m.safe_enough))
  where
    safe : IsTrue c.safe ⊎ IsTrue row.unsafe_too → (c.safe || row.unsafe_too) ≡ true
    safe (inl e) = or_left c.safe row.unsafe_too e
    safe (inr e) = or_right c.safe row.unsafe_too e

rows_there : (r : PlainRequest) (n : ℕ) (c : Candidate) → meets_row r n c ≡ true → MeetsRow r n c
rows_there r n c e =
    let a = Any-from_list_any (meets_numbered n c) (ladder_of r.zero_conf r.include_unsafe) e in
    let m = row_there n c a.1 a.4 in
    record { row = a.1; stands = (a.0, a.2, a.3); number_is = m.0; meets = m.1 }

there_rows : (r : PlainRequest) (n : ℕ) (c : Candidate) → MeetsRow r n c → meets_row r n c ≡ true
there_rows r n c m = any_has (meets_numbered n c) (ladder_of r.zero_conf r.include_unsafe) m.row m.stands (there_row n c m.row m.number_is m.meets)

-- ---- good for a row

good_there : (r : PlainRequest) (n : ℕ) (c : Candidate) → is_good r n c ≡ true → IsGood r n c
good_there r n c e = by (has_point r.coins c.coin) refl e
  where
    by : (b : Bool) → has_point r.coins c.coin ≡ b → cond b (may_be_listed r c) (meets_row r n c) ≡ true → IsGood r n c
    by true is h = inl (point_there r.coins c.coin is, or_cases c.safe r.include_unsafe h)
    by false is h = inr (λ has. both_ways (has_point r.coins c.coin) is (there_point r.coins c.coin has), rows_there r n c h)

there_good : (r : PlainRequest) (n : ℕ) (c : Candidate) → IsGood r n c → is_good r n c ≡ true
there_good r n c (inl h) = rw (there_point r.coins c.coin h.0) (safe h.1)
  where
    safe : IsTrue c.safe ⊎ IsTrue r.include_unsafe → (c.safe || r.include_unsafe) ≡ true
    safe (inl e) = or_left c.safe r.include_unsafe e
    safe (inr e) = or_right c.safe r.include_unsafe e
there_good r n c (inr h) = rw (false_from_ne_true (has_point r.coins c.coin) (λ e. h.0 (point_there r.coins c.coin e))) (there_rows r n c h.1)

-- ---- spendable

pub spendable_there : (ps : List Payment) (now : List Candidate) (r : PlainRequest) (n : ℕ) (c : Candidate) → is_taken ps now r n c ≡ false → IsSpendable ps now r n c
spendable_there ps now r n c e = by (coin_now now c) refl (not-false _ parts.1)
  where
    parts : (is_reserved ps c.coin ≡ false) × (not (option_map_or (is_good r n) (coin_now now c) false) ≡ false)
    parts = or_parts (is_reserved ps c.coin) (not (option_map_or (is_good r n) (coin_now now c) false)) e

    by : (o : Option Candidate) → coin_now now c ≡ o → option_map_or (is_good r n) o false ≡ true → IsSpendable ps now r n c
    by None is h = absurd cc
    by (Some there) is h =
        let at = found (Contains now) (same_coin c) now there (All-contains_itself now) is in
        record { free = free_there ps c.coin parts.0; there = there; stands = at.1; same = same_there c there at.0; good = good_there r n there h }

-- of candidates at different outpoints one is at each
one_at : (now : List Candidate) (a b : Candidate) → AllPairs (λ (x y : Candidate). x.coin ≢ y.coin) now → Contains now a → Contains now b → a.coin ≡ b.coin → a ≡ b
one_at now a b apart in_a in_b same = by (cases_order in_a.0 in_b.0)
  where
    at : (x : Candidate) (c : Contains now x) → get_or now c.0 a ≡ x
    at x c = get_or_default now c.0 a x c.1 ∙ c.2

    point : Candidate → OutPoint
    point x = x.coin

    by : (in_a.0 ≡ in_b.0) ⊎ ((in_a.0 < in_b.0) ⊎ (in_b.0 < in_a.0)) → a ≡ b
    by (inl e) = sym (at a in_a) ∙ ap (λ (k : ℕ). get_or now k a) e ∙ at b in_b
    by (inr (inl lt)) = absurd (apart in_a.0 in_b.0 a lt in_b.1 (ap point (at a in_a) ∙ same ∙ sym (ap point (at b in_b))))
    by (inr (inr lt)) = absurd (apart in_b.0 in_a.0 a lt in_a.1 (ap point (at b in_b) ∙ sym same ∙ sym (ap point (at a in_a))))

none_any : (q : Candidate → Bool) (xs : List Candidate) → find q xs ≡ None → list_any q xs ≡ false
none_any q [] f = refl
none_any q (z ∷ xs) f = by (q z) refl f (none_any q xs)
  where
    by : (b : Bool) → q z ≡ b → cond b (Some z) (find q xs) ≡ None → (find q xs ≡ None → list_any q xs ≡ false) → list_any q (z ∷ xs) ≡ false
    by true is g more = absurd (none-some z (sym g))
    by false is g more = rw is (more g)

-- one that is there is found
finds : (p : Candidate → Bool) (now : List Candidate) (x : Candidate) → Contains now x → p x ≡ true → (y : Candidate) × (find p now ≡ Some y)
finds p now x c h = by (find p now) refl
  where
    by : (o : Option Candidate) → find p now ≡ o → (y : Candidate) × (find p now ≡ Some y)
    by (Some y) e = (y, e)
    by None e = absurd (both_ways (list_any p now) (none_any p now e) (any_has p now x c h))

pub there_spendable : (ps : List Payment) (now : List Candidate) (r : PlainRequest) (n : ℕ) (c : Candidate) → AreCandidates now → IsSpendable ps now r n c → is_taken ps now r n c ≡ false
there_spendable ps now r n c are s =
    let one = finds (same_coin c) now s.there s.stands (there_same c s.there s.same) in
    let at = found (Contains now) (same_coin c) now one.0 (All-contains_itself now) one.1 in
    let is : one.0 ≡ s.there = one_at now one.0 s.there are.distinct at.1 s.stands (sym (same_there c one.0 at.0).coin ∙ s.same.coin) in
    or_from (is_reserved ps c.coin) _ (there_free ps c.coin s.free)
    (not_from_true _ (ap (λ (o : Option Candidate). option_map_or (is_good r n) o false) one.1 ∙ ap (is_good r n) is ∙ there_good r n s.there s.good))

-- ---- the first that is taken

pub first_shown : (ps : List Payment) (now : List Candidate) (r : PlainRequest) (n : ℕ) (coins : List Candidate) (c : Candidate) → AreCandidates now → first_taken ps now r n coins ≡ Some c → IsFirstTaken ps now r n coins c.coin
first_shown ps now r n [] c are e = absurd (none-some c e)
first_shown ps now r n (x ∷ rest) c are e = by (is_taken ps now r n x) refl e (first_shown ps now r n rest c are)
  where
    by : (b : Bool) → is_taken ps now r n x ≡ b → cond b (Some x) (first_taken ps now r n rest) ≡ Some c → (first_taken ps now r n rest ≡ Some c → IsFirstTaken ps now r n rest c.coin) → IsFirstTaken ps now r n (x ∷ rest) c.coin
    by true is h more = record {
      front = [];
      coin = x;
      rest = rest;
      parts = refl;
      before = All-nil _;
      taken = λ s. both_ways (is_taken ps now r n x) (there_spendable ps now r n x are s) is;
      shown = ap (λ (y : Candidate). y.coin) (same_Some x c h);
    }
    by false is h more =
        let t = more h in
        record {
          front = x ∷ t.front;
          coin = t.coin;
          rest = t.rest;
          parts = ap (λ (xs : List Candidate). x ∷ xs) t.parts;
          before = All-cons (IsSpendable ps now r n) x t.front (spendable_there ps now r n x is) t.before;
          taken = t.taken;
          shown = t.shown;
        }

pub none_shown : (ps : List Payment) (now : List Candidate) (r : PlainRequest) (n : ℕ) (coins : List Candidate) → first_taken ps now r n coins ≡ None → All (IsSpendable ps now r n) coins
none_shown ps now r n [] e = All-nil _
none_shown ps now r n (x ∷ rest) e = by (is_taken ps now r n x) refl e (none_shown ps now r n rest)
  where
    by : (b : Bool) → is_taken ps now r n x ≡ b → cond b (Some x) (first_taken ps now r n rest) ≡ None → (first_taken ps now r n rest ≡ None → All (IsSpendable ps now r n) rest) → All (IsSpendable ps now r n) (x ∷ rest)
    by true is h more = absurd (none-some x (sym h))
    by false is h more = All-cons (IsSpendable ps now r n) x rest (spendable_there ps now r n x is) (more h)

pub shown_none : (ps : List Payment) (now : List Candidate) (r : PlainRequest) (n : ℕ) (coins : List Candidate) → AreCandidates now → All (IsSpendable ps now r n) coins → first_taken ps now r n coins ≡ None
shown_none ps now r n [] are h = refl
shown_none ps now r n (x ∷ rest) are h =
    rw (there_spendable ps now r n x are (All-head (IsSpendable ps now r n) x rest h)) (shown_none ps now r n rest are (All-tail (IsSpendable ps now r n) x rest h))
