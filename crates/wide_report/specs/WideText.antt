-- The report of a payment by the wide search.
use Rattle.std.specs.Prelude.{ℕ, ◌≡◌, ◌<◌, List, length}
use Rattle.closing_log.specs.declared.log.Stage.TheVariants.{Wide}
use Rattle.fund_report.specs.PlainFunded.{PlainFunded}
use Rattle.fund_report.specs.ReportText.{AreInLines, HasFigures, IsLine, funded_text}

-- The bytes are a report of this payment, which the wide search found: line by line as any report of a payment, with txids in
-- either case, numbers that fit, one coin at least, and a PSBT that is one line.
pub record IsWideText (bytes : List ℕ) (f : PlainFunded) : Type 0 where
  pub coins : List ℕ
  pub lines : bytes ≡ funded_text coins f
  pub ins : AreInLines f.coins coins
  pub stage : f.stage ≡ Wide
  pub some : 0 < length f.coins
  pub text : IsLine f.text
  pub figures : HasFigures f
