-- What a request has to pay for, by the terms of its rates, where its coins are given.
use Rattle.std.specs.Prelude.{ℕ, pos, ◌-ℤ◌, List, length, sum_by, min, not, ◌==◌}
use Rattle.coin_candidates.specs.declared.candidate.Candidate.{Candidate}
use Rattle.fee_rates.specs.Output.{output_size_of, dust_of}
use Rattle.fee_rates.specs.declared.terms.Rates.{Rates}
use Rattle.fee_rates.specs.declared.terms.PaymentLoad.{PaymentLoad}
use Rattle.request_text.specs.PlainRequest.{PlainRequest, paid_to}
use Rattle.request_text.specs.declared.request.Recipient.{Recipient}
use Rattle.wallet_text.specs.declared.wallet.Watch.{Watch}
use Rattle.fund_steps.specs.Amounts.{charges_of, value_of, weight_of}

-- the rates of a request
abbrev pub rates_of : PlainRequest → Rates
rates_of r = record { rate = r.rate; long_term = r.long_term; discard = r.discard; change_target = r.change_target }

-- What the payment is to carry: the recipients' outputs, these coins as its inputs, beside which none is chosen, and what
-- is paid beside the fee. Sums and numbers above 1,000,000,000 count as that: no payment of so many is within its weight.
unfoldable pub load_of : PlainRequest → Watch → List Candidate → (burden : ℕ) → PaymentLoad
load_of r change coins burden = record {
  paid = paid_to r.recipients;
  outputs = min (sum_by (λ (q : Recipient). output_size_of q.script) r.recipients) 1_000_000_000;
  count = min (length r.recipients) 1_000_000_000;
  coins = length coins;
  preset_effective = pos (value_of coins) -ℤ pos (charges_of r.rate coins);
  preset_weight = weight_of coins;
  has_presets = not (length coins == 0);
  burden = burden;
  change_size = output_size_of change.script;
  change_weight = change.weight;
  change_dust = dust_of change.script;
}
