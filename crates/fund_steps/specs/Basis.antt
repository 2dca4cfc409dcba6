-- What the steps of a plan are made from.
use Rattle.std.specs.Prelude.{ℕ, List}
use Rattle.coin_candidates.specs.declared.candidate.Candidate.{Candidate}
use Rattle.fee_rates.specs.declared.terms.PaymentLoad.{PaymentLoad}
use Rattle.request_text.specs.PlainRequest.{PlainRequest}
use Rattle.wallet_text.specs.declared.wallet.Watch.{Watch}
use Rattle.fund_steps.specs.Listed.{burden_in, presets_in}
use Rattle.fund_steps.specs.Plan.{PlainPlan}
use Rattle.fund_steps.specs.Presets.{presets_of}
use Rattle.fund_steps.specs.Selection.{unlisted}
use Rattle.fund_steps.specs.Terms.{load_of, rates_of}
use Rattle.fund_steps.specs.declared.presets.Presets.{Presets}

-- A request and where its change is paid; the presets, which are the coins that each payment spends; the coins that may be
-- added to them; and what a replacement pays beside, in satoshi, 0 where none is replaced.
pub record Basis : Type 0 where
  pub request : PlainRequest
  pub change : Watch
  pub presets : List Candidate
  pub rest : List Candidate
  pub burden : ℕ

-- that of a plan: its presets, the candidates that aren't listed, and its burden
abbrev pub basis_of : PlainPlan → Basis
basis_of p = record { request = p.request; change = p.change; presets = presets_in p; rest = unlisted p.request.coins p.candidates; burden = burden_in p }

-- what a payment from the presets alone is to carry
abbrev pub load_alone : Basis → PaymentLoad
load_alone b = load_of b.request b.change b.presets b.burden

-- whether the presets alone pay, and how
abbrev pub given_in : Basis → Presets
given_in b = presets_of (rates_of b.request) (load_alone b)
