-- What refusals of a report's payment mean.
use Rattle.std.specs.Prelude.{List, Option}
use Rattle.coin_candidates.specs.declared.candidate.Candidate.{Candidate}
use Rattle.fund_report.specs.PlainFunded.{PlainFunded}
use Rattle.fund_report.specs.declared.report.Report.TheVariants as reports
use Rattle.fund_steps.specs.Plan.{PlainPlan}
use Rattle.output_groups.specs.declared.rows.Row.{Row}
use Rattle.tx_codec.specs.declared.tx.TxIn.{TxIn}
use Rattle.report_check.specs.Finding.{IsFirstUntaken}
use Rattle.psbt_codec.specs.Text.{HasPsbtFault}
use Rattle.report_check.specs.Verdict.{IsUnpaid, SpendsForeign}
use Rattle.report_check.specs.declared.fault.CheckFault.{CheckFault}
use Rattle.report_check.specs.declared.fault.CheckFault.TheVariants.{Psbt, Coin, Pays, Memory}

-- inputs are refused for the first outpoint at which no coin may be spent, or for being out of memory
abbrev pub IsCoinRefusal : List Candidate → List Candidate → Option Row → List TxIn → CheckFault → Type 0
IsCoinRefusal presets rest row inputs (Coin point) = IsFirstUntaken presets rest row inputs point
IsCoinRefusal presets rest row inputs Memory = Unit {0}
IsCoinRefusal presets rest row inputs _ = ⊥

-- a payment is refused for its text, for a coin that it spends, or since it doesn't pay as it says
abbrev pub IsPaidRefusal : PlainPlan → PlainFunded → CheckFault → Type 0
IsPaidRefusal p f (Psbt e) = HasPsbtFault f.text e
IsPaidRefusal p f (Coin point) = SpendsForeign p (reports.Funded f) point
IsPaidRefusal p f Pays = IsUnpaid p (reports.Funded f)
IsPaidRefusal p f Memory = Unit {0}
IsPaidRefusal p f _ = ⊥
