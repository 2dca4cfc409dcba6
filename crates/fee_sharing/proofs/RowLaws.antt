-- Coins without prices, and the coins of a row's selection.
use Rattle.std.specs.Prelude.{ℕ, ◌≡◌, ◌≢◌, ◌≤◌, ◌<◌, true, List, [], ◌∷◌, All, Contains, get_or, length, map, Option, Some}
use Rattle.std.proofs.Common.{refl, sym, ap, subst, ◌∙◌, arith}
use Rattle.std.proofs.lemmas.List.{get_or-map, length-map}
use Rattle.std.proofs.lemmas.List.Elements.{All-contains, All-head, All-map, All-tail, All-weaker}
use Rattle.std.proofs.lemmas.List.Sums.{sum_by-cons}
use Rattle.coin_candidates.specs.Candidates.{AreCandidates, IsCandidate}
use Rattle.coin_candidates.specs.declared.candidate.Candidate.{Candidate}
use Rattle.fee_rates.proofs.FeeLaws.{fee_least}
use Rattle.fee_rates.specs.Fee.{fee_of, vsize_of}
use Rattle.output_groups.proofs.OnceLaws.{pool_once}
use Rattle.output_groups.proofs.PoolLaws.{pool_groups, pool_meets}
use Rattle.output_groups.proofs.SortLaws.{is_pool}
use Rattle.output_groups.specs.Ladder.{Meets}
use Rattle.output_groups.specs.Measures.{IsGroup, charge_of, is_useful}
use Rattle.output_groups.specs.Places.{members}
use Rattle.output_groups.specs.PlainGroups.{PlainGroups, pool_in}
use Rattle.output_groups.specs.Pool.{AreOnce, item_of}
use Rattle.output_groups.specs.PoolOf.{pool_of}
use Rattle.output_groups.specs.declared.rows.Row.{Row}
use Rattle.pick_problem.specs.Admissible.{IsAdmissible, IsFit}
use Rattle.pick_problem.specs.Problem.{PlainProblem, Rising, value_of as value_at, weight_of as weight_at}
use Rattle.pick_problem.specs.Walk.{IsPosition}
use Rattle.pick_problem.specs.declared.item.Item.{Item}
use Rattle.request_text.specs.PlainRequest.{PlainRequest, paid_to}
use Rattle.walk_engine.specs.Search.{PlainSearch}
use Rattle.fund_steps.proofs.SelectionLaws.{in_order_keeps}
use Rattle.fund_steps.specs.Amounts.{AreWithin, charges_of, value_of, weight_of}
use Rattle.fund_steps.specs.Selection.{in_order}
use Rattle.fund_plan.proofs.BringLaws.{gains_are, values_are, weights_are}
use Rattle.fund_plan.proofs.SpendLaws.{AreApart, members_apart, members_grouped, members_held, ones, order_sum, some_count, some_sum}
use Rattle.fee_sharing.specs.RowShares.{unpriced}
use Rattle.fee_sharing.specs.Searching.{IsRowSearch}

-- ---- coins without prices

unpriced_one : (c : Candidate) → IsCandidate c → IsCandidate (unpriced c)
unpriced_one c h = record { value = h.value; price = omega arith; least_weight = h.least_weight; most_weight = h.most_weight }

abbrev Differs : Candidate → Candidate → Type 0
Differs a b = a.coin ≢ b.coin

unpriced_apart : (cs : List Candidate) → AreApart cs → AreApart (map unpriced cs)
unpriced_apart [] apart = λ i j d up below. absurd (omega (arith, below))
unpriced_apart (x ∷ xs) apart = λ i j d up below.
    let short : j < length (x ∷ xs) = omega (arith, below, length-map (x ∷ xs) unpriced) in
    let a = get_or-map unpriced (x ∷ xs) i x d (omega (arith, up, short)) in
    let b = get_or-map unpriced (x ∷ xs) j x d short in
    subst (λ (c : Candidate). Differs c (get_or (map unpriced (x ∷ xs)) j d)) (sym a) (subst (Differs (unpriced (get_or (x ∷ xs) i x))) (sym b) (apart i j x up short))

pub unpriced_are : (cs : List Candidate) → AreCandidates cs → AreCandidates (map unpriced cs)
unpriced_are cs h = record {
  each = All-map IsCandidate unpriced cs (All-weaker IsCandidate (λ c. IsCandidate (unpriced c)) unpriced_one cs h.each);
  count = omega (arith, h.count, length-map cs unpriced);
  distinct = unpriced_apart cs h.distinct;
}

pub unpriced_worth : (cs : List Candidate) → value_of (map unpriced cs) ≡ value_of cs
unpriced_worth [] = refl
unpriced_worth (c ∷ cs) = omega (arith, unpriced_worth cs, sum_by-cons (λ (x : Candidate). x.value) c cs, sum_by-cons (λ (x : Candidate). x.value) (unpriced c) (map unpriced cs))

pub unpriced_free : (cs : List Candidate) → All (λ (c : Candidate). c.price ≡ 0) (map unpriced cs)
unpriced_free cs = All-map (λ (c : Candidate). c.price ≡ 0) unpriced cs (λ k d below. refl)

-- ---- at rate 0

no_fee : (v : ℕ) → fee_of 0 v ≡ 0
no_fee v = omega (arith, (fee_least 0 v).least 0 (omega arith))

-- without prices coins take nothing for themselves
no_charges : (cs : List Candidate) → All (λ (c : Candidate). c.price ≡ 0) cs → charges_of 0 cs ≡ 0
no_charges [] free = refl
no_charges (c ∷ cs) free =
    let P : Candidate → Type 0 = λ x. x.price ≡ 0 in
    omega (arith, All-head P c cs free, no_fee (vsize_of c.weight), no_charges cs (All-tail P c cs free), sum_by-cons (charge_of 0) c cs)

-- ---- the coins of a selection

pub once_in : (row : Row) (g : PlainGroups) → AreCandidates g.candidates → AreOnce g.candidates (pool_in g row).groups
once_in row g h = pool_once g.group row g.rate g.long_term g.candidates (pool_in g row) h (is_pool g.group row g.rate g.long_term g.candidates)

groups_in : (row : Row) (g : PlainGroups) → AreCandidates g.candidates → All (IsGroup g.rate) (pool_in g row).groups
groups_in row g h = pool_groups g.group row g.rate g.long_term g.candidates (pool_in g row) h.each (is_pool g.group row g.rate g.long_term g.candidates)

items_in : (row : Row) (g : PlainGroups) → (pool_in g row).items ≡ map (item_of g.rate g.long_term) (pool_in g row).groups
unfolding pool_of
items_in row g = refl

-- the places rise below the number of groups, where they rise below that of the items
pub rising_in : (row : Row) (g : PlainGroups) (items : List Item) (places : List ℕ) → items ≡ (pool_in g row).items → Rising (length items) 0 places → Rising (length (pool_in g row).groups) 0 places
rising_in row g items places is rising =
    subst (λ (n : ℕ). Rising n 0 places) (ap (λ (l : List Item). length l) (is ∙ items_in row g) ∙ length-map (pool_in g row).groups (item_of g.rate g.long_term)) rising

-- the coins of groups at places, before they are put in order
abbrev pub chosen_at : Row → PlainGroups → List ℕ → List Candidate
chosen_at row g places = members (pool_in g row).groups places

pub chosen_apart : (row : Row) (g : PlainGroups) (places : List ℕ) → AreCandidates g.candidates → Rising (length (pool_in g row).groups) 0 places → AreApart (chosen_at row g places)
chosen_apart row g places h rising = members_apart g.candidates (pool_in g row).groups 0 places (once_in row g h) rising

pub chosen_held : (row : Row) (g : PlainGroups) (places : List ℕ) → AreCandidates g.candidates → Rising (length (pool_in g row).groups) 0 places → All (Contains g.candidates) (chosen_at row g places)
chosen_held row g places h rising = members_held g.candidates (pool_in g row).groups 0 places (once_in row g h) rising

-- what holds of each coin of each group
each_chosen : (P : Candidate → Type 0) (row : Row) (g : PlainGroups) (places : List ℕ) → All (λ (cs : List Candidate). All P cs) (pool_in g row).groups → Rising (length (pool_in g row).groups) 0 places → All P (chosen_at row g places)
each_chosen P row g places each rising =
    All-weaker (λ (c : Candidate). (cs : List Candidate) × Contains (pool_in g row).groups cs × Contains cs c) P
    (λ c at. All-contains P at.0 c (All-contains (λ (cs : List Candidate). All P cs) (pool_in g row).groups at.0 each at.1) at.2) (chosen_at row g places) (members_grouped (pool_in g row).groups 0 places rising)

pub chosen_meet : (row : Row) (g : PlainGroups) (places : List ℕ) → row.own ≤ row.foreign → Rising (length (pool_in g row).groups) 0 places → All (Meets row) (chosen_at row g places)
chosen_meet row g places own rising = each_chosen (Meets row) row g places (pool_meets g.group row g.rate g.long_term g.candidates (pool_in g row) own (is_pool g.group row g.rate g.long_term g.candidates)) rising

-- coins of different outputs among candidates are within their bounds, in the order of their outpoints
pub ordered_fit : (cs coins : List Candidate) → AreCandidates cs → value_of cs ≤ 2_100_000_000_000_000 → AreApart coins → All (Contains cs) coins → AreWithin (in_order coins)
ordered_fit cs coins h worth apart held = record {
  each = in_order_keeps IsCandidate coins (All-weaker (Contains cs) IsCandidate (λ c there. All-contains IsCandidate cs c h.each there) coins held);
  count = omega (arith, some_count coins cs apart held, h.count, order_sum (λ (c : Candidate). 1) coins apart, ones coins, ones (in_order coins));
  value = omega (arith, worth, some_sum (λ (c : Candidate). c.value) coins cs apart held, order_sum (λ (c : Candidate). c.value) coins apart);
}

-- a selection's value and weight are those of its coins
pub record Comes (row : Row) (g : PlainGroups) (x : PlainProblem) (places : List ℕ) : Type 0 where
  pub value : value_of (in_order (chosen_at row g places)) ≡ value_at x places
  pub weight : weight_of (in_order (chosen_at row g places)) ≡ weight_at x places

pub comes_at : (row : Row) (g : PlainGroups) (x : PlainProblem) (places : List ℕ) → g.rate ≡ 0 → All (λ (c : Candidate). c.price ≡ 0) g.candidates → AreCandidates g.candidates → x.items ≡ (pool_in g row).items → Rising (length (pool_in g row).groups) 0 places → Comes row g x places
comes_at row g x places free prices h is rising =
    let groups = (pool_in g row).groups in
    let chosen = chosen_at row g places in
    let apart = chosen_apart row g places h rising in
    let items = is ∙ items_in row g in
    let useful : All (λ c. is_useful g.rate c ≡ true) chosen = each_chosen (λ c. is_useful g.rate c ≡ true) row g places (All-weaker (IsGroup g.rate) (λ (cs : List Candidate). All (λ c. is_useful g.rate c ≡ true) cs) (λ cs is. is.useful) groups (groups_in row g h)) rising in
    let unpaid : All (λ (c : Candidate). c.price ≡ 0) chosen = All-weaker (Contains g.candidates) (λ (c : Candidate). c.price ≡ 0) (λ c there. All-contains (λ (d : Candidate). d.price ≡ 0) g.candidates c prices there) chosen (chosen_held row g places h rising) in
    let charges = ap (λ (rate : ℕ). charges_of rate chosen) free ∙ no_charges chosen unpaid in
    record {
      value = omega (arith, order_sum (λ (c : Candidate). c.value) chosen apart, values_are g.rate g.long_term 0 groups x places items rising, gains_are g.rate chosen useful, charges);
      weight = omega (arith, order_sum (λ (c : Candidate). c.weight) chosen apart, weights_are g.rate g.long_term 0 groups x places items rising);
    }

-- ---- the answer of a search

fit_some : (x : PlainProblem) (best : Option (List ℕ)) (places : List ℕ) → best ≡ Some places → IsFit x best → IsAdmissible x places
fit_some x best places is fit = subst (IsFit x) is fit

-- what the answer of a row's search is
pub record IsAnswered (r : PlainRequest) (row : Row) (g : PlainGroups) (places : List ℕ) : Type 0 where
  pub rising : Rising (length (pool_in g row).groups) 0 places
  pub fit : AreWithin (in_order (chosen_at row g places))
  pub enough : paid_to r.recipients ≤ value_of (in_order (chosen_at row g places))

answered_by : (r : PlainRequest) (row : Row) (g : PlainGroups) (x : PlainProblem) (s : PlainSearch) (places : List ℕ) → IsRowSearch r row g x s → IsAdmissible x places → IsAnswered r row g places
answered_by r row g x s places h fit =
    let rising = rising_in row g x.items places h.items fit.rising in
    let comes = comes_at row g x places h.rate h.prices h.candidates h.items rising in
    record {
      rising = rising;
      fit = ordered_fit g.candidates (chosen_at row g places) h.candidates h.worth (chosen_apart row g places h.candidates rising) (chosen_held row g places h.candidates rising);
      enough = omega (arith, comes.value, fit.reaches, h.asks);
    }

pub answered : (r : PlainRequest) (row : Row) (g : PlainGroups) (x : PlainProblem) (s : PlainSearch) (places : List ℕ) → IsRowSearch r row g x s → IsPosition s.problem s.walk → s.walk.best ≡ Some places → IsAnswered r row g places
answered r row g x s places h at is =
    answered_by r row g x s places h (subst (λ (y : PlainProblem). IsAdmissible y places) h.search (fit_some s.problem s.walk.best places is at.fit))
