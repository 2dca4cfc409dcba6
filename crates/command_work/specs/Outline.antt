-- A payment's report without its coins and its PSBT.
use Rattle.std.specs.Prelude.{ℕ, List, ◌++◌, codes}
use Rattle.fund_report.specs.PlainFunded.{PlainFunded}
use Rattle.fund_report.specs.ReportText.{change_text, figures_text, found_text, line}

-- the lines before the coins, those of what it comes to, and that of the change
unfoldable pub outline_of : PlainFunded → List ℕ
outline_of f = found_text f ++ (figures_text f ++ line (codes "change ") (change_text f.change))
