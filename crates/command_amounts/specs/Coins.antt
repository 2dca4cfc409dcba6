-- The coins that may be spent, and that they may be worth too much together.
use Rattle.std.specs.Prelude.{ℕ, ◌≡◌, ◌≤◌, ◌<◌, List, All}
use Rattle.coin_candidates.specs.Candidates.{AreCandidates}
use Rattle.coin_candidates.specs.declared.candidate.Candidate.{Candidate}
use Rattle.payment_states.specs.Makers.{HasMaker}
use Rattle.fund_steps.specs.Amounts.{value_of}
use Rattle.fund_steps.specs.declared.fault.PlanFault.{PlanFault}
use Rattle.fund_steps.specs.declared.fault.PlanFault.TheVariants as plans
use Rattle.request_text.specs.PlainRequest.{PlainRequest}
use Rattle.fund_files.specs.declared.chain.Chain.{Chain}
use Rattle.command_inputs.specs.Outcome.{candidates_in}

-- the coins of a chain that may be spent at the request's rate
abbrev pub coins_for : Chain → PlainRequest → List Candidate
coins_for k r = candidates_in k r.rate

-- These are those coins, each output once. They are worth at most 21,000,000 bitcoin together, and the book has the transactions
-- that made them.
pub record AreCoins (k : Chain) (r : PlainRequest) (coins : List Candidate) : Type 0 where
  pub are : coins ≡ coins_for k r
  pub fit : AreCandidates coins
  pub worth : value_of coins ≤ 2_100_000_000_000_000
  pub makers : All (HasMaker k.book) coins

-- Why they aren't taken: they are worth this much together, which is more. Where memory is short, they aren't known.
abbrev pub AreTooMuch : Chain → PlainRequest → PlanFault → Type 0
AreTooMuch k r (plans.Total sum) = (sum ≡ value_of (coins_for k r)) × (2_100_000_000_000_000 < sum)
AreTooMuch k r (plans.NotEligible point) = ⊥
AreTooMuch k r (plans.TooMany number n) = ⊥
AreTooMuch k r plans.Memory = Unit {0}
