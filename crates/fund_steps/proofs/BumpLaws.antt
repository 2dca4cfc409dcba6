-- What a plan is given where it replaces a payment, and the coins that each of its payments spends.
use Rattle.std.specs.Prelude.{ℕ, ◌≡◌, ◌≢◌, ◌≤◌, ◌⊎◌, List, All, AllPairs, Bool, Contains, IsSome, IfSome, Option, Some, None, not}
use Rattle.std.proofs.Common.{refl, subst, inl, inr, arith}
use Rattle.std.proofs.lemmas.Bool.{both_ways, not-true}
use Rattle.std.proofs.lemmas.List.Elements.{All-append, All-contains, All-contains_itself, All-weaker, Contains-append_cases, Contains-append_left, Contains-append_right}
use Rattle.std.proofs.lemmas.List.Folds.{Any-from_list_any, list_any-from_Any}
use Rattle.std.proofs.lemmas.List.Sums.{sum_by-append}
use Rattle.std.proofs.lemmas.Option.{same_Some}
use Rattle.fund_base.proofs.OutpointLaws.{same_outpoint-Decides}
use Rattle.coin_candidates.specs.Candidates.{AreCandidates, IsCandidate}
use Rattle.fund_base.specs.Outpoints.{same_outpoint}
use Rattle.coin_candidates.specs.declared.candidate.Candidate.{Candidate}
use Rattle.output_groups.proofs.Members.{all_from, from_filter}
use Rattle.request_text.specs.PlainRequest.{PlainRequest}
use Rattle.fund_steps.specs.Amounts.{AreWithin, value_of}
use Rattle.fund_steps.specs.Listed.{ArePresets, ArePresetsBy, AreReplaced, IsReplaced, MaySpend, burden_by, is_preset, listed_in, listed_of, presets_by, presets_in}
use Rattle.fund_steps.specs.Plan.{HasEligible, IsBump, IsEligible, IsBumpFor, IsPlan, PlainBump, PlainPlan, coins_in, coins_with}
use Rattle.fund_steps.specs.Selection.{AreSorted, in_order, is_listed, unlisted}
use Rattle.fund_steps.proofs.OrderLaws.{one_candidate, one_list, one_listed}
use Rattle.fund_steps.proofs.PresetLaws.{contains_listed, presets_listed}
use Rattle.fund_steps.proofs.SelectionLaws.{in_order_has, in_order_keeps, in_order_sorted, ordered_within, taken_within}

-- ---- what a plan is given

-- nothing is given to a request that replaces no payment
pub no_bump : (r : PlainRequest) (candidates : List Candidate) → r.bump ≡ None → IsBumpFor r candidates None
no_bump r candidates none = record {
  asked = (λ some. absurd cc, λ some. let there : IsSome {T = List ℕ} None = subst (λ (o : Option (List ℕ)). IsSome o) none some in absurd cc);
  fits = tt;
}

-- ---- the coins that it can spend

-- the candidates are worth no more than all of them
pub candidates_worth : (bump : Option PlainBump) (candidates : List Candidate) → value_of candidates ≤ value_of (coins_with bump candidates)
candidates_worth None candidates = omega arith
candidates_worth (Some b) candidates = omega (arith, sum_by-append (λ (c : Candidate). c.value) b.presets candidates)

-- nor are those of a bump
bump_worth : (b : PlainBump) (candidates : List Candidate) → value_of b.presets ≤ value_of (coins_with (Some b) candidates)
bump_worth b candidates = omega (arith, sum_by-append (λ (c : Candidate). c.value) b.presets candidates)

-- ---- the presets

-- each of some coins that stand apart is there when they stand in order
pub in_order_all : (coins : List Candidate) → AllPairs (λ (a b : Candidate). a.coin ≢ b.coin) coins → All (Contains (in_order coins)) coins
in_order_all coins distinct =
    all_from (Contains (in_order coins)) coins
    (λ c there.
    let at : Candidate → Bool = λ d. same_outpoint d.coin c.coin in
    let any = list_any-from_Any at coins (there.0, c, there.1, there.2, (same_outpoint-Decides c.coin c.coin).1 refl) in
    let found = Any-from_list_any at (in_order coins) (in_order_has c.coin coins any) in
    let one : Contains (in_order coins) found.1 = (found.0, found.2, found.3) in
    let theirs = All-contains (Contains coins) (in_order coins) found.1 (in_order_keeps (Contains coins) coins (All-contains_itself coins)) one in
    let same : found.1 ≡ c = one_candidate coins found.1 c distinct theirs there ((same_outpoint-Decides found.1.coin c.coin).0 found.4) in
    subst (Contains (in_order coins)) same one)

replaced_in_order : (b : PlainBump) (candidates : List Candidate) → IsBump candidates b → AreReplaced b (in_order b.presets)
replaced_in_order b candidates h = record {
  only = in_order_keeps (Contains b.presets) b.presets (All-contains_itself b.presets);
  all = in_order_all b.presets h.presets.distinct;
  sorted = in_order_sorted b.presets;
}

presets_as : (p : PlainPlan) (bump : Option PlainBump) → IsPlan p → IfSome bump (IsBump p.candidates) → ArePresetsBy p bump (presets_by bump (listed_in p))
presets_as p None h fits = presets_listed p h.eligible
presets_as p (Some b) h fits = replaced_in_order b p.candidates fits

pub presets_are : (p : PlainPlan) → IsPlan p → ArePresets p (presets_in p)
presets_are p h = presets_as p p.bump h h.bump.fits

-- there is one list of them
one_replaced : (b : PlainBump) (xs ys : List Candidate) → AreReplaced b xs → AreReplaced b ys → xs ≡ ys
one_replaced b xs ys x y =
    one_list xs ys x.sorted y.sorted
    (λ c there. All-contains (Contains ys) b.presets c y.all (All-contains (Contains b.presets) xs c x.only there))
    (λ c there. All-contains (Contains xs) b.presets c x.all (All-contains (Contains b.presets) ys c y.only there))

one_by : (p : PlainPlan) (bump : Option PlainBump) (xs ys : List Candidate) → IsPlan p → ArePresetsBy p bump xs → ArePresetsBy p bump ys → xs ≡ ys
one_by p None xs ys h x y = one_listed p xs ys h x y
one_by p (Some b) xs ys h x y = one_replaced b xs ys x y

pub one_presets : (p : PlainPlan) (xs ys : List Candidate) → IsPlan p → ArePresets p xs → ArePresets p ys → xs ≡ ys
one_presets p xs ys h x y = one_by p p.bump xs ys h x y

-- they are within their bounds
pub presets_within : (r : PlainRequest) (candidates : List Candidate) (bump : Option PlainBump) → AreCandidates candidates → IfSome bump (IsBump candidates) → value_of (coins_with bump candidates) ≤ 2_100_000_000_000_000
    → AreWithin (presets_by bump (listed_of r candidates))
presets_within r candidates None h fits within = taken_within (is_preset r) candidates h within
presets_within r candidates (Some b) h fits within = ordered_within b.presets fits.presets (omega (arith, within, bump_worth b candidates))

pub presets_fit : (p : PlainPlan) → IsPlan p → AreWithin (presets_in p)
presets_fit p h = presets_within p.request p.candidates p.bump h.candidates h.bump.fits h.within

-- and so is their burden
pub burden_within : (candidates : List Candidate) (bump : Option PlainBump) → IfSome bump (IsBump candidates) → burden_by bump ≤ 1_000_000_000_000_000_000
burden_within candidates None fits = omega arith
burden_within candidates (Some b) fits = fits.burden

-- and so are its coins
pub bump_candidates : (candidates : List Candidate) (bump : Option PlainBump) → IfSome bump (IsBump candidates) → IfSome bump (λ b. AreCandidates b.presets)
bump_candidates candidates None fits = tt
bump_candidates candidates (Some b) fits = fits.presets

-- ---- what they have to do with the candidates

-- a coin that can be spent is a candidate, or the replaced payment spends it
pub coins_cases : (bump : Option PlainBump) (candidates : List Candidate) (c : Candidate) → Contains (coins_with bump candidates) c → Contains candidates c ⊎ IsReplaced bump c
coins_cases None candidates c there = inl there
coins_cases (Some b) candidates c there =
    elim (Contains-append_cases b.presets candidates c there) [
      | inl given ↦ inr given
      | inr other ↦ inl other
    ]

pub candidate_in : (bump : Option PlainBump) (candidates : List Candidate) (c : Candidate) → Contains candidates c → Contains (coins_with bump candidates) c
candidate_in None candidates c there = there
candidate_in (Some b) candidates c there = Contains-append_right b.presets candidates c there

-- each has a value and a weight that a coin can have
each_by : (bump : Option PlainBump) (candidates : List Candidate) → AreCandidates candidates → IfSome bump (IsBump candidates) → All IsCandidate (coins_with bump candidates)
each_by None candidates h fits = h.each
each_by (Some b) candidates h fits = All-append IsCandidate b.presets candidates fits.presets.each h.each

pub coins_each : (p : PlainPlan) → IsPlan p → All IsCandidate (coins_in p)
coins_each p h = each_by p.bump p.candidates h.candidates h.bump.fits

-- the presets can be spent
may_by : (p : PlainPlan) (bump : Option PlainBump) → IsPlan p → All (λ (c : Candidate). IsEligible p c ⊎ IsReplaced bump c) (presets_by bump (listed_in p))
may_by p None h = All-weaker (IsEligible p) (λ (c : Candidate). IsEligible p c ⊎ IsReplaced None c) (λ c e. inl e) (listed_in p) (presets_listed p h.eligible).eligible
may_by p (Some b) h =
    All-weaker (Contains b.presets) (λ (c : Candidate). IsEligible p c ⊎ IsReplaced (Some b) c) (λ c e. inr e) (in_order b.presets) (in_order_keeps (Contains b.presets) b.presets (All-contains_itself b.presets))

pub presets_may : (p : PlainPlan) → IsPlan p → All (MaySpend p) (presets_in p)
presets_may p h = may_by p p.bump h

held_by : (bump : Option PlainBump) (p : PlainPlan) (c : Candidate) → IsEligible p c ⊎ IsReplaced bump c → Contains (coins_with bump p.candidates) c
held_by None p c (inl e) = e.candidate
held_by None p c (inr e) = absurd e
held_by (Some b) p c (inl e) = Contains-append_right b.presets p.candidates c e.candidate
held_by (Some b) p c (inr e) = Contains-append_left b.presets p.candidates c e

-- what may be spent is there
pub may_held : (p : PlainPlan) (c : Candidate) → MaySpend p c → Contains (coins_in p) c
may_held p c may = held_by p.bump p c may

pub presets_held : (p : PlainPlan) → IsPlan p → All (Contains (coins_in p)) (presets_in p)
presets_held p h = All-weaker (MaySpend p) (Contains (coins_in p)) (may_held p) (presets_in p) (presets_may p h)

-- where no payment is replaced it is eligible
pub may_plain : (p : PlainPlan) (c : Candidate) → p.bump ≡ None → MaySpend p c → IsEligible p c
may_plain p c none (inl e) = e
may_plain p c none (inr e) = let never : IsReplaced None c = subst (λ (o : Option PlainBump). IsReplaced o c) none e in absurd never

-- listed coins stand apart from the others
apart_listed : (p : PlainPlan) (c d : Candidate) → All (HasEligible p) p.request.coins → Contains (listed_in p) c → Contains (unlisted p.request.coins p.candidates) d → c.coin ≢ d.coin
apart_listed p c d h first second same =
    let points = p.request.coins in
    let there : Contains points d.coin = subst (Contains points) same (All-contains (λ (x : Candidate). Contains points x.coin) (listed_in p) c (presets_listed p h).only first) in
    both_ways (is_listed points d.coin) (not-true _ (from_filter (λ (x : Candidate). not (is_listed points x.coin)) p.candidates d second).1) (contains_listed points d.coin there)

apart_by : (p : PlainPlan) (bump : Option PlainBump) (c d : Candidate) → IsPlan p → IfSome bump (IsBump p.candidates) → Contains (presets_by bump (listed_in p)) c → Contains (unlisted p.request.coins p.candidates) d → c.coin ≢ d.coin
apart_by p None c d h fits first second = apart_listed p c d h.eligible first second
apart_by p (Some b) c d h fits first second =
    fits.others c d (All-contains (Contains b.presets) (in_order b.presets) c (in_order_keeps (Contains b.presets) b.presets (All-contains_itself b.presets)) first)
    (from_filter (λ (x : Candidate). not (is_listed p.request.coins x.coin)) p.candidates d second).0

-- and so do the presets
pub presets_apart : (p : PlainPlan) (c d : Candidate) → IsPlan p → Contains (presets_in p) c → Contains (unlisted p.request.coins p.candidates) d → c.coin ≢ d.coin
presets_apart p c d h first second = apart_by p p.bump c d h h.bump.fits first second

-- they stand in order
sorted_by : (p : PlainPlan) (bump : Option PlainBump) (coins : List Candidate) → ArePresetsBy p bump coins → AreSorted coins
sorted_by p None coins h = h.sorted
sorted_by p (Some b) coins h = h.sorted

pub presets_sorted : (p : PlainPlan) (coins : List Candidate) → ArePresets p coins → AreSorted coins
presets_sorted p coins h = sorted_by p p.bump coins h

-- the replaced payment's coins are among the presets
all_by : (p : PlainPlan) (bump : Option PlainBump) (b : PlainBump) (coins : List Candidate) → bump ≡ Some b → ArePresetsBy p bump coins → All (Contains coins) b.presets
all_by p None b coins is h = absurd cc
all_by p (Some d) b coins is h = let same : d ≡ b = same_Some d b is in subst (λ (x : PlainBump). All (Contains coins) x.presets) same h.all

pub replaced_among : (p : PlainPlan) (b : PlainBump) → p.bump ≡ Some b → IsPlan p → All (Contains (presets_in p)) b.presets
replaced_among p b is h = all_by p p.bump b (presets_in p) is (presets_are p h)
