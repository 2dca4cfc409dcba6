-- Coins among those that a plan can spend: the candidates, and those that a replaced payment spends.
use Rattle.std.specs.Prelude.{◌≤◌, List, All, Contains, IfSome, Option, Some, None, length}
use Rattle.std.proofs.Common.{arith}
use Rattle.std.proofs.lemmas.List.Elements.{All-contains, All-weaker}
use Rattle.coin_candidates.specs.Candidates.{AreCandidates, IsCandidate}
use Rattle.coin_candidates.specs.declared.candidate.Candidate.{Candidate}
use Rattle.fund_steps.proofs.BumpLaws.{coins_each}
use Rattle.fund_steps.specs.Amounts.{AreWithin}
use Rattle.fund_steps.specs.Plan.{IsBump, IsPlan, PlainBump, PlainPlan, coins_in, coins_with}
use Rattle.fund_plan.proofs.SpendLaws.{AreApart, apart_both, some_sum}

-- they stand apart
apart_by : (bump : Option PlainBump) (candidates : List Candidate) → AreCandidates candidates → IfSome bump (IsBump candidates) → AreApart (coins_with bump candidates)
apart_by None candidates h fits = h.distinct
apart_by (Some b) candidates h fits = apart_both b.presets candidates fits.presets.distinct h.distinct fits.others

pub coins_apart : (p : PlainPlan) → IsPlan p → AreApart (coins_in p)
coins_apart p h = apart_by p.bump p.candidates h.candidates h.bump.fits

-- at most 100,000 of them are within their bounds
pub among_fit : (p : PlainPlan) (coins : List Candidate) → IsPlan p → length coins ≤ 100_000 → AreApart coins → All (Contains (coins_in p)) coins → AreWithin coins
among_fit p coins h few apart held = record {
  each = All-weaker (Contains (coins_in p)) IsCandidate (λ c there. All-contains IsCandidate (coins_in p) c (coins_each p h) there) coins held;
  count = few;
  value = omega (arith, some_sum (λ (c : Candidate). c.value) coins (coins_in p) apart held, h.within);
}
