-- What funds hold of what they were made from.
use Rattle.std.specs.Prelude.{pos, ◌≡◌, ◌≤ℤ◌, List}
use Rattle.coin_candidates.specs.declared.candidate.Candidate.{Candidate}
use Rattle.fee_rates.specs.Terms.{AreRates, IsLoad}
use Rattle.fee_rates.specs.declared.terms.Rates.{Rates}
use Rattle.fee_rates.specs.declared.terms.PaymentLoad.{PaymentLoad}
use Rattle.fund_steps.specs.Amounts.{AreWithin}
use Rattle.fund_steps.specs.Listed.{burden_in, presets_in}
use Rattle.fund_steps.specs.Plan.{IsPlan, PlainPlan}
use Rattle.fund_steps.specs.Selection.{unlisted}
use Rattle.fund_steps.specs.Terms.{load_of, rates_of}

-- The plan keeps its rules, and these are its presets, the candidates that aren't listed, the rates of its request, and what
-- a payment from the presets alone is to carry, all within their bounds.
pub record IsBasisOf (p : PlainPlan) (presets rest : List Candidate) (rates : Rates) (load : PaymentLoad) : Type 0 where
  pub plan : IsPlan p
  pub presets_are : presets ≡ presets_in p
  pub rest_is : rest ≡ unlisted p.request.coins p.candidates
  pub rates_are : rates ≡ rates_of p.request
  pub load_is : load ≡ load_of p.request p.change presets (burden_in p)
  pub presets_fit : AreWithin presets
  pub rates_fit : AreRates rates
  pub load_fits : IsLoad load
  pub worth : load.preset_effective ≤ℤ pos 2_100_000_000_000_000
