-- The fault that a plan has is the one that is worked out.
use Rattle.std.proofs.Common.{◌≡◌, ◌∙◌, ℕ, ◌<◌, nat_lt, List, [], ◌∷◌, ◌++◌, Option, Some, None, refl, sym, ap, subst}
use Rattle.std.specs.Prelude.{◌≢◌, All}
use Rattle.std.proofs.lemmas.Bool.{lt-ltb, le-ltb, cond-true, cond-false}
use Rattle.std.proofs.lemmas.List.Elements.{All-head, All-tail}
use Rattle.fund_base.specs.declared.outpoint.OutPoint.{OutPoint}
use Rattle.fund_steps.proofs.PresetLaws.{all_eligible, is_missing}
use Rattle.fund_steps.specs.Amounts.{value_of}
use Rattle.fund_steps.specs.Listed.{listed_in}
use Rattle.fund_steps.specs.Faults.{by_missing, crowded_among, fault_of, kept_in}
use Rattle.fund_steps.specs.Plan.{HasEligible, HasNone, IsPlanFault, IsFirstMissing, IsPlan, IsRoomy, IsWithin, KeepsGroups, PlainPlan, coins_in, ladder_in}
use Rattle.fund_steps.specs.Selection.{first_missing, unlisted}
use Rattle.fund_steps.specs.declared.fault.PlanFault.{PlanFault}
use Rattle.fund_steps.specs.declared.fault.PlanFault.TheVariants.{Total, NotEligible, TooMany, Memory}
use Rattle.output_groups.proofs.CountLaws.{one_count}
use Rattle.output_groups.proofs.FormedLaws.{counts}
use Rattle.output_groups.specs.declared.rows.Row.{Row}

-- ---- listed coins

-- a listed outpoint is eligible or not
not_both : (p : PlainPlan) (q : OutPoint) → HasEligible p q → HasNone p q → ⊥
not_both p q has none = none has.0 has.1 has.2

-- two lists that are missing first are missing the same
same_missing : (p : PlainPlan) (a b : List OutPoint) (q s : OutPoint) (c d : List OutPoint) → a ++ q ∷ c ≡ b ++ s ∷ d → All (HasEligible p) a → All (HasEligible p) b → HasNone p q → HasNone p s → q ≡ s
same_missing p [] [] q s c d e ha hb nq ns = cc
same_missing p [] (y ∷ b) q s c d e ha hb nq ns =
    let first : y ≡ q = cc in
    absurd (not_both p q (subst (λ (x : OutPoint). HasEligible p x) first (All-head (HasEligible p) y b hb)) nq)
same_missing p (x ∷ a) [] q s c d e ha hb nq ns =
    let first : x ≡ s = cc in
    absurd (not_both p s (subst (λ (y : OutPoint). HasEligible p y) first (All-head (HasEligible p) x a ha)) ns)
same_missing p (x ∷ a) (y ∷ b) q s c d e ha hb nq ns =
    let rest : a ++ q ∷ c ≡ b ++ s ∷ d = cc in
    same_missing p a b q s c d rest (All-tail (HasEligible p) x a ha) (All-tail (HasEligible p) y b hb) nq ns

in_middle : (front rest : List OutPoint) (q : OutPoint) (p : OutPoint → Type 0) → All p (front ++ q ∷ rest) → p q
in_middle [] rest q p h = All-head p q rest h
in_middle (x ∷ front) rest q p h = in_middle front rest q p (All-tail p x (front ++ q ∷ rest) h)

missing_found : (p : PlainPlan) (q : OutPoint) (r : Option OutPoint) → first_missing (listed_in p) p.request.coins ≡ r → IsFirstMissing p q → r ≡ Some q
missing_found p q None e h = absurd (not_both p q (in_middle h.front h.rest q (HasEligible p) (subst (λ (l : List OutPoint). All (HasEligible p) l) h.parts (all_eligible p e))) h.missing)
missing_found p q (Some s) e h =
    let other = is_missing p s e in
    ap (λ (x : OutPoint). Some x) (same_missing p other.front h.front s q other.rest h.rest (sym other.parts ∙ h.parts) other.before h.before other.missing h.missing)

none_missing : (p : PlainPlan) (r : Option OutPoint) → first_missing (listed_in p) p.request.coins ≡ r → All (HasEligible p) p.request.coins → r ≡ None
none_missing p None e h = refl
none_missing p (Some s) e h =
    let other = is_missing p s e in
    absurd (not_both p s (in_middle other.front other.rest s (HasEligible p) (subst (λ (l : List OutPoint). All (HasEligible p) l) other.parts h)) other.missing)

-- ---- rows

-- the count that is worked out is the one that a row keeps
kept_is : (p : PlainPlan) (row : Row) (n : ℕ) → KeepsGroups p row n → n ≡ kept_in p row
kept_is p row n keeps =
    let coins = unlisted p.request.coins p.candidates in
    one_count p.request.group row p.request.rate coins n (kept_in p row) keeps (counts p.request.group row p.request.rate coins)

roomy_passed : (p : PlainPlan) (row : Row) (rows : List Row) → IsRoomy p row → crowded_among p (row ∷ rows) ≡ crowded_among p rows
roomy_passed p row rows roomy =
    let coins = unlisted p.request.coins p.candidates in
    cond-false (nat_lt 10_000 (kept_in p row)) (Some (TooMany row.number (kept_in p row))) (crowded_among p rows) (le-ltb 10_000 (kept_in p row) (roomy (kept_in p row) (counts p.request.group row p.request.rate coins)))

none_crowded : (p : PlainPlan) (rows : List Row) → All (IsRoomy p) rows → crowded_among p rows ≡ None
none_crowded p [] h = refl
none_crowded p (row ∷ rows) h = roomy_passed p row rows (All-head (IsRoomy p) row rows h) ∙ none_crowded p rows (All-tail (IsRoomy p) row rows h)

one_crowded : (p : PlainPlan) (row : Row) (rows : List Row) (number n : ℕ) → row.number ≡ number → KeepsGroups p row n → 10_000 < n → crowded_among p (row ∷ rows) ≡ Some (TooMany number n)
one_crowded p row rows number n own keeps many =
    cond-true (nat_lt 10_000 (kept_in p row)) (Some (TooMany row.number (kept_in p row))) (crowded_among p rows) (lt-ltb 10_000 (kept_in p row) (subst (λ (m : ℕ). 10_000 < m) (kept_is p row n keeps) many))
    ∙ ap (λ (m : ℕ). Some (TooMany m (kept_in p row))) own
    ∙ ap (λ (m : ℕ). Some (TooMany number m)) (sym (kept_is p row n keeps))

first_crowded : (p : PlainPlan) (front : List Row) (row : Row) (rest : List Row) (number n : ℕ) → All (IsRoomy p) front → row.number ≡ number → KeepsGroups p row n → 10_000 < n → crowded_among p (front ++ row ∷ rest) ≡ Some (TooMany number n)
first_crowded p [] row rest number n before own keeps many = one_crowded p row rest number n own keeps many
first_crowded p (x ∷ front) row rest number n before own keeps many =
    roomy_passed p x (front ++ row ∷ rest) (All-head (IsRoomy p) x front before)
    ∙ first_crowded p front row rest number n (All-tail (IsRoomy p) x front before) own keeps many

-- ---- the fault

within_fault : (p : PlainPlan) → IsWithin p → fault_of p ≡ by_missing p (first_missing (listed_in p) p.request.coins)
within_fault p within =
    cond-false (nat_lt 2_100_000_000_000_000 (value_of (coins_in p))) (Some (Total (value_of (coins_in p)))) (by_missing p (first_missing (listed_in p) p.request.coins)) (le-ltb 2_100_000_000_000_000 (value_of (coins_in p)) within)

eligible_fault : (p : PlainPlan) → IsWithin p → All (HasEligible p) p.request.coins → fault_of p ≡ crowded_among p (ladder_in p)
eligible_fault p within eligible = within_fault p within ∙ ap (by_missing p) (none_missing p (first_missing (listed_in p) p.request.coins) refl eligible)

pub fault_found : (p : PlainPlan) (fault : PlanFault) → IsPlanFault p fault → fault ≢ Memory → fault_of p ≡ Some fault
fault_found p (Total sum) h real =
    let over : 2_100_000_000_000_000 < value_of (coins_in p) = subst (λ (n : ℕ). 2_100_000_000_000_000 < n) h.0 h.1 in
    cond-true (nat_lt 2_100_000_000_000_000 (value_of (coins_in p))) (Some (Total (value_of (coins_in p)))) (by_missing p (first_missing (listed_in p) p.request.coins)) (lt-ltb 2_100_000_000_000_000 (value_of (coins_in p)) over)
    ∙ ap (λ (n : ℕ). Some (Total n)) (sym h.0)
fault_found p (NotEligible point) h real = within_fault p h.0 ∙ ap (by_missing p) (missing_found p point (first_missing (listed_in p) p.request.coins) refl h.1)
fault_found p (TooMany number n) h real =
    let first = h.2 in
    eligible_fault p h.0 h.1
    ∙ ap (crowded_among p) first.parts
    ∙ first_crowded p first.front first.row first.rest number n first.before first.number_is first.keeps first.many
fault_found p Memory h real = absurd (real refl)

pub none_found : (p : PlainPlan) → IsPlan p → fault_of p ≡ None
none_found p h = eligible_fault p h.within h.eligible ∙ none_crowded p (ladder_in p) h.roomy
