-- What is reported of a payment, and what a signer gets of it.
use Rattle.std.specs.Prelude.{ℕ, List, map, Some, None, if◌then◌else◌}
use Rattle.coin_book.specs.Coins.{parent_of}
use Rattle.coin_book.specs.History.{History}
use Rattle.fee_rates.specs.Output.{is_program_of}
use Rattle.coin_candidates.specs.declared.candidate.Candidate.{Candidate}
use Rattle.fund_plan.specs.Figures.{figures_of}
use Rattle.fund_plan.specs.Pays.{payment_of}
use Rattle.fund_plan.specs.Selection.{PlainFunded}
use Rattle.fund_report.specs.PlainFunded as reports
use Rattle.fund_report.specs.ReportText.{text_of}
use Rattle.fund_report.specs.declared.report.InLine.{InLine}
use Rattle.fund_report.specs.declared.report.Report.TheVariants.{Funded}
use Rattle.psbt_codec.specs.declared.psbt.Spent.{Spent}
use Rattle.psbt_codec.specs.PartialTransaction.{PartialTransaction}
use Rattle.psbt_codec.specs.Text.{psbt_text}
use Rattle.request_text.specs.PlainRequest.{PlainRequest}
use Rattle.wallet_text.specs.declared.wallet.Watch.{Watch}

-- What a signer needs of a coin: the output alone where its script is a witness program, and otherwise the whole
-- transaction that made it, which the book has (BIP 174, the input types 00 and 01).
unfoldable pub spent_of : History → Candidate → Spent
spent_of h c =
    if is_program_of c.script
    then record { whole = None; paid = Some (record { value = c.value; script = c.script }) }
    else record { whole = parent_of h c.coin; paid = None }

-- the payment to be signed, from coins of a book
unfoldable pub psbt_of : History → PlainRequest → Watch → PlainFunded → PartialTransaction
psbt_of h r change f = record { tx = payment_of r change f; spent = map (spent_of h) f.coins }

-- its text: in the version that the request asks for, in base64 with the standard alphabet and padding
abbrev pub psbt_text_of : History → PlainRequest → Watch → PlainFunded → List ℕ
psbt_text_of h r change f = psbt_text r.psbt (psbt_of h r change f)

-- a coin that is spent, as a report has it
abbrev pub line_of : Candidate → InLine
line_of c = record { coin = c.coin; value = c.value }

-- what is reported of a payment after these tries
abbrev pub reported : History → PlainRequest → Watch → (tries : ℕ) → PlainFunded → reports.PlainFunded
reported h r change tries f = record {
  mark = f.mark;
  row = f.row;
  stage = f.stage;
  tries = tries;
  coins = map line_of f.coins;
  weight = (figures_of r f).weight;
  vsize = (figures_of r f).vsize;
  fee = (figures_of r f).fee;
  waste = (figures_of r f).waste;
  change = f.change;
  text = psbt_text_of h r change f;
}

-- the report of a payment
unfoldable pub report_of : History → PlainRequest → Watch → (tries : ℕ) → PlainFunded → List ℕ
report_of h r change tries f = text_of (Funded (reported h r change tries f))
