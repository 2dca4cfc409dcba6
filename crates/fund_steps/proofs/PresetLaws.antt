-- The listed coins of a plan, and how a plan is made.
use Rattle.std.specs.Prelude.{◌≡◌, ◌≢◌, ◌⊎◌, ◌&&◌, ◌||◌, List, [], ◌∷◌, ◌++◌, map, filter, All, Contains, Bool, true, false, not, find, IfSome, IsTrue, Option, Some, None, option_map}
use Rattle.std.specs.List.{list_any}
use Rattle.std.proofs.Common.{refl, sym, ap, subst, ◌∙◌, inl, inr, arith, get_or}
use Rattle.std.proofs.lemmas.Bool.{cond_both, both_ways, not-true, not-false, and_parts, and_from, or_cases, or_left, or_right}
use Rattle.std.proofs.lemmas.List.Elements.{All-nil, All-cons, All-contains, All-contains_itself, All-filter, Contains-append_right, All-weaker, filter_passes}
use Rattle.std.proofs.lemmas.List.Folds.{Any-from_list_any, list_any-from_Any}
use Rattle.std.proofs.lemmas.Option.{same_Some}
use Rattle.coin_candidates.specs.Candidates.{AreCandidates}
use Rattle.fund_base.specs.Outpoints.{same_outpoint}
use Rattle.coin_candidates.specs.declared.candidate.Candidate.{Candidate}
use Rattle.fund_base.specs.declared.outpoint.OutPoint.{OutPoint}
use Rattle.fund_base.proofs.OutpointLaws.{same_outpoint-Decides}
use Rattle.request_text.specs.PlainRequest.{IsRequest, PlainRequest}
use Rattle.wallet_text.specs.WalletRules.{IsWatch}
use Rattle.fund_steps.specs.Listed.{AreListed, is_preset, listed_in}
use Rattle.fund_steps.specs.Plan.{HasEligible, IsBumpFor, IsEligible, IsPlanFault, IsFirstCrowded, IsFirstMissing, IsPlan, IsRoomy, IsWithin, PlainPlan, ladder_in, may_be_listed}
use Rattle.fund_steps.specs.Selection.{first_missing, has_coin, is_listed}
use Rattle.fund_steps.specs.declared.fault.PlanFault.{PlanFault}
use Rattle.fund_steps.specs.declared.fault.PlanFault.TheVariants.{Total, NotEligible, TooMany, Memory}
use Rattle.fund_steps.specs.declared.pools.Crowded.{Crowded}
use Rattle.fund_steps.proofs.SelectionLaws.{in_order_has, in_order_keeps, in_order_sorted}

-- ---- lists that are searched

-- none passes the test where none is found
find_none : {X : Type 0} (p : X → Bool) (xs : List X) → find p xs ≡ None → All (λ y. p y ≡ false) xs
find_none {X = X} p [] e = All-nil (λ (y : X). p y ≡ false)
find_none {X = X} p (x ∷ xs) e =
    cond_both (p x) (Some x) (find p xs) (λ (o : Option X). o ≡ None → All (λ y. p y ≡ false) (x ∷ xs))
    (λ t is. absurd cc)
    (λ f is. All-cons (λ (y : X). p y ≡ false) x xs f (find_none p xs is))
    e

-- a list about the first element that passes a test
record IsSplit {X : Type 0} (p : X → Bool) (xs : List X) (y : X) : Type 0 where
  front : List X
  rest : List X
  parts : xs ≡ front ++ y ∷ rest
  before : All (λ x. p x ≡ false) front
  passes : p y ≡ true

split_at : {X : Type 0} (p : X → Bool) (xs : List X) (y : X) → find p xs ≡ Some y → IsSplit p xs y
split_at p [] y e = absurd cc
split_at {X = X} p (x ∷ xs) y e =
    cond_both (p x) (Some x) (find p xs) (λ (o : Option X). o ≡ Some y → IsSplit p (x ∷ xs) y)
    (λ t is. let same : x ≡ y = same_Some x y is in record { front = []; rest = xs; parts = ap (λ (z : X). z ∷ xs) same; before = All-nil (λ z. p z ≡ false); passes = ap p (sym same) ∙ t })
    (λ f is. let h = split_at p xs y is in record { front = x ∷ h.front; rest = h.rest; parts = ap (λ (l : List X). x ∷ l) h.parts; before = All-cons (λ z. p z ≡ false) x h.front f h.before; passes = h.passes })
    e

any_filter : {X : Type 0} (p q : X → Bool) (xs : List X) → list_any (λ x. p x && q x) xs ≡ true → list_any q (filter p xs) ≡ true
any_filter p q [] e = absurd (both_ways false refl e)
any_filter {X = X} p q (x ∷ xs) e =
    cond_both (p x) (x ∷ filter p xs) (filter p xs) (λ (ys : List X). list_any q ys ≡ true)
    (λ t. by_or t (or_cases (p x && q x) (list_any (λ y. p y && q y) xs) e) (any_filter p q xs))
    (λ f. by_not f (or_cases (p x && q x) (list_any (λ y. p y && q y) xs) e) (any_filter p q xs))
  where
    by_or : p x ≡ true → ((p x && q x) ≡ true) ⊎ (list_any (λ y. p y && q y) xs ≡ true) → (list_any (λ y. p y && q y) xs ≡ true → list_any q (filter p xs) ≡ true) → list_any q (x ∷ filter p xs) ≡ true
    by_or t (inl h) again = or_left (q x) (list_any q (filter p xs)) (and_parts (p x) (q x) h).1
    by_or t (inr h) again = or_right (q x) (list_any q (filter p xs)) (again h)

    by_not : p x ≡ false → ((p x && q x) ≡ true) ⊎ (list_any (λ y. p y && q y) xs ≡ true) → (list_any (λ y. p y && q y) xs ≡ true → list_any q (filter p xs) ≡ true) → list_any q (filter p xs) ≡ true
    by_not f (inl h) again = absurd (both_ways (p x) f (and_parts (p x) (q x) h).0)
    by_not f (inr h) again = again h

any_map : {X Y : Type 0} (f : X → Y) (q : Y → Bool) (xs : List X) → list_any q (map f xs) ≡ list_any (λ x. q (f x)) xs
any_map f q [] = refl
any_map f q (x ∷ xs) = ap (λ (b : Bool). q (f x) || b) (any_map f q xs)

-- ---- outpoints that are listed

listed_contains : (points : List OutPoint) (q : OutPoint) → is_listed points q ≡ true → Contains points q
listed_contains points q e =
    let h = Any-from_list_any (λ p. same_outpoint p q) points e in
    subst (Contains points) ((same_outpoint-Decides h.1 q).0 h.4) (h.0, h.2, h.3)

pub contains_listed : (points : List OutPoint) (q : OutPoint) → Contains points q → is_listed points q ≡ true
contains_listed points q h = list_any-from_Any (λ p. same_outpoint p q) points (h.0, q, h.1, h.2, (same_outpoint-Decides q q).1 refl)

has_contains : (coins : List Candidate) (q : OutPoint) → has_coin coins q ≡ true → (c : Candidate) × Contains coins c × (c.coin ≡ q)
has_contains coins q e =
    let h = Any-from_list_any (λ (c : Candidate). same_outpoint c.coin q) coins (sym (any_map (λ (c : Candidate). c.coin) (λ p. same_outpoint p q) coins) ∙ e) in
    (h.1, (h.0, h.2, h.3), (same_outpoint-Decides h.1.coin q).0 h.4)

-- ---- the listed coins of a plan

may_be : (r : PlainRequest) (c : Candidate) → IsTrue c.safe ⊎ IsTrue r.include_unsafe → may_be_listed r c ≡ true
may_be r c (inl h) = or_left c.safe r.include_unsafe h
may_be r c (inr h) = or_right c.safe r.include_unsafe h

presets_eligible : (p : PlainPlan) → All (IsEligible p) (listed_in p)
presets_eligible p =
    let keep = is_preset p.request in
    let from = All-filter keep (Contains p.candidates) p.candidates (All-contains_itself p.candidates) in
    let pass = filter_passes keep p.candidates in
    in_order_keeps (IsEligible p) (filter keep p.candidates)
    (λ k d lt.
    let c = get_or (filter keep p.candidates) k d in
    record { candidate = from k d lt; safe = or_cases c.safe p.request.include_unsafe (and_parts (is_listed p.request.coins c.coin) (may_be_listed p.request c) (pass k d lt)).1 })

presets_only : (p : PlainPlan) → All (λ (c : Candidate). Contains p.request.coins c.coin) (listed_in p)
presets_only p =
    let keep = is_preset p.request in
    in_order_keeps (λ (c : Candidate). Contains p.request.coins c.coin) (filter keep p.candidates)
    (All-weaker (λ (c : Candidate). keep c ≡ true) (λ (c : Candidate). Contains p.request.coins c.coin) (λ c e. listed_contains p.request.coins c.coin (and_parts (is_listed p.request.coins c.coin) (may_be_listed p.request c) e).0) (filter keep p.candidates) (filter_passes keep p.candidates))

-- an eligible coin at a listed outpoint is among them
presets_have : (p : PlainPlan) (q : OutPoint) → Contains p.request.coins q → HasEligible p q → has_coin (listed_in p) q ≡ true
presets_have p q listed h =
    let keep = is_preset p.request in
    let c = h.0 in
    let at : Candidate → Bool = λ d. same_outpoint d.coin q in
    let there : is_listed p.request.coins c.coin ≡ true = ap (is_listed p.request.coins) h.2 ∙ contains_listed p.request.coins q listed in
    let passes : keep c ≡ true = and_from (is_listed p.request.coins c.coin) (may_be_listed p.request c) there (may_be p.request c h.1.safe) in
    let both = list_any-from_Any (λ d. keep d && at d) p.candidates (h.1.candidate.0, c, h.1.candidate.1, h.1.candidate.2, and_from (keep c) (at c) passes ((same_outpoint-Decides c.coin q).1 h.2)) in
    any_map (λ (d : Candidate). d.coin) (λ o. same_outpoint o q) (listed_in p) ∙ in_order_has q (filter keep p.candidates) (any_filter keep at p.candidates both)

presets_at : (p : PlainPlan) (q : OutPoint) → has_coin (listed_in p) q ≡ true → HasEligible p q
presets_at p q e = let h = has_contains (listed_in p) q e in (h.0, All-contains (IsEligible p) (listed_in p) h.0 (presets_eligible p) h.1, h.2)

-- no outpoint is missing
pub all_eligible : (p : PlainPlan) → first_missing (listed_in p) p.request.coins ≡ None → All (HasEligible p) p.request.coins
all_eligible p e =
    All-weaker (λ q. not (has_coin (listed_in p) q) ≡ false) (HasEligible p) (λ q f. presets_at p q (not-false _ f)) p.request.coins (find_none (λ q. not (has_coin (listed_in p) q)) p.request.coins e)

-- the first that is missing
pub is_missing : (p : PlainPlan) (q : OutPoint) → first_missing (listed_in p) p.request.coins ≡ Some q → IsFirstMissing p q
is_missing p q e =
    let s = split_at (λ o. not (has_coin (listed_in p) o)) p.request.coins q e in
    let there : Contains p.request.coins q = subst (λ (l : List OutPoint). Contains l q) (sym s.parts) (in_middle s.front s.rest) in
    record {
      front = s.front;
      rest = s.rest;
      parts = s.parts;
      before = All-weaker (λ o. not (has_coin (listed_in p) o) ≡ false) (HasEligible p) (λ o f. presets_at p o (not-false _ f)) s.front s.before;
      missing = λ c h same. both_ways (has_coin (listed_in p) q) (not-true _ s.passes) (presets_have p q there (c, h, same));
    }
  where
    in_middle : (front rest : List OutPoint) → Contains (front ++ q ∷ rest) q
    in_middle front rest = Contains-append_right front (q ∷ rest) q (0, omega arith, refl)

pub presets_listed : (p : PlainPlan) → All (HasEligible p) p.request.coins → AreListed p (listed_in p)
presets_listed p h = record {
  eligible = presets_eligible p;
  only = presets_only p;
  all = λ k d lt. let q = get_or p.request.coins k d in has_contains (listed_in p) q (presets_have p q (All-contains_itself p.request.coins k d lt) (h k d lt));
  sorted = in_order_sorted (filter (is_preset p.request) p.candidates);
}

-- ---- how a plan is made

pub missing_is : (p : PlainPlan) (found : Option OutPoint) (coins : List Candidate) (points : List OutPoint) → found ≡ first_missing coins points → coins ≡ listed_in p → points ≡ p.request.coins → found ≡ first_missing (listed_in p) p.request.coins
missing_is p found coins points e cs ps = e ∙ ap (λ (xs : List Candidate). first_missing xs points) cs ∙ ap (first_missing (listed_in p)) ps

pub plan_is : (p : PlainPlan) → IsRequest p.request → IsBumpFor p.request p.candidates p.bump → IsWatch p.change → AreCandidates p.candidates → IsWithin p → first_missing (listed_in p) p.request.coins ≡ None → All (IsRoomy p) (ladder_in p) → IsPlan p
plan_is p r bump w cs within none roomy = record { request = r; bump = bump; change = w; candidates = cs; within = within; eligible = all_eligible p none; roomy = roomy }

-- ---- faults as they are told

-- the first listed coin that isn't eligible
missing_told : (p : PlainPlan) (o : Option OutPoint) (e : PlanFault) → option_map NotEligible o ≡ Some e → IsWithin p → o ≡ first_missing (listed_in p) p.request.coins → IsPlanFault p e
missing_told p None e is few found = absurd cc
missing_told p (Some point) e is few found = subst (IsPlanFault p) (same_Some (NotEligible point) e is) (few, is_missing p point (sym found))

pub told_missing : (p : PlainPlan) (o : Option OutPoint) (e : PlanFault) → (e ≢ Memory → option_map NotEligible o ≡ Some e) → IsWithin p → o ≡ first_missing (listed_in p) p.request.coins → IsPlanFault p e
told_missing p o (Total sum) is few found = missing_told p o (Total sum) (is (λ h. absurd cc)) few found
told_missing p o (NotEligible point) is few found = missing_told p o (NotEligible point) (is (λ h. absurd cc)) few found
told_missing p o (TooMany number n) is few found = missing_told p o (TooMany number n) (is (λ h. absurd cc)) few found
told_missing p o Memory is few found = few

-- the first row that keeps too many groups
pub told_crowded : (p : PlainPlan) (o : Option Crowded) (e : PlanFault) → option_map (λ (c : Crowded). TooMany c.number c.groups) o ≡ Some e → IsWithin p → All (HasEligible p) p.request.coins → IfSome o (λ c. IsFirstCrowded p c.number c.groups) → IsPlanFault p e
told_crowded p None e is few all first = absurd cc
told_crowded p (Some c) e is few all first = subst (IsPlanFault p) (same_Some (TooMany c.number c.groups) e is) (few, all, first)
