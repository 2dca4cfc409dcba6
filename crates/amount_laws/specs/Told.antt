-- What is told of a payment of all coins, and of one whose recipients bear the fee.
use Rattle.std.specs.Prelude.{ℕ, ◌-◌, List, map, None}
use Rattle.amount_reports.specs.SharedText.{PlainShared}
use Rattle.amount_reports.specs.SweptText.{PlainSwept}
use Rattle.coin_candidates.specs.declared.candidate.Candidate.{Candidate}
use Rattle.fee_rates.specs.Fee.{vsize_of}
use Rattle.fee_sharing.specs.Sweep.{sweep_weight}
use Rattle.fund_files.specs.declared.chain.Chain.{Chain}
use Rattle.fund_payment.specs.Report.{line_of}
use Rattle.fund_steps.specs.Amounts.{value_of}
use Rattle.request_text.specs.PlainRequest.{PlainRequest}
use Rattle.command_amounts.specs.Signing.{psbt_text_from}
use Rattle.command_share.specs.Outcome.{fee_in}
use Rattle.command_share.specs.Paying.{PlainPaying, amounts_left, shared_request}
use Rattle.command_sweep.specs.Outcome.{swept_request}

-- what is reported of a payment of these coins, of which the recipient gets this amount
abbrev pub swept_told : Chain → PlainRequest → List Candidate → (amount : ℕ) → PlainSwept
swept_told k r coins amount = record {
  amount = amount;
  coins = map line_of coins;
  weight = sweep_weight r coins;
  vsize = vsize_of (sweep_weight r coins);
  fee = value_of coins - amount;
  psbt = psbt_text_from k.book (swept_request r amount) k.wallet.change coins None;
}

-- what is reported of a payment after so many tries, of which each recipient gets what it is left with
abbrev pub shared_told : Chain → PlainRequest → (tries : ℕ) → PlainPaying → PlainShared
shared_told k r tries f = record {
  row = f.row.number;
  tries = tries;
  coins = map line_of f.coins;
  amounts = amounts_left r f.borne;
  weight = f.weight;
  vsize = vsize_of f.weight;
  fee = fee_in r f;
  change = f.change;
  psbt = psbt_text_from k.book (shared_request r f.borne) k.wallet.change f.coins f.change;
}
