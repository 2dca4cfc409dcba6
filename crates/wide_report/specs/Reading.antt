-- The first lines of a report, and a report of one stage read as one of another.
use Rattle.std.specs.Prelude.{ℕ, ◌≡◌, ⊤, List, ◌++◌, codes, Result}
use Rattle.std.specs.Fmt.{decimal}
use Rattle.closing_log.specs.declared.log.Stage.{Stage}
use Rattle.closing_log.specs.declared.log.Stage.TheVariants.{Wide}
use Rattle.closing_log.specs.declared.mark.Mark.{Mark}
use Rattle.closing_log.specs.LogText.{stage_word}
use Rattle.closing_log.specs.MarkWord.{mark_word}
use Rattle.closing_log.specs.Reading.{both_at, made_at, word_at}
use Rattle.fund_report.specs.PlainFunded.{PlainFunded}
use Rattle.fund_report.specs.Reading.{mark_line, row_line}
use Rattle.fund_report.specs.ReportText.{IsReportText, line}
use Rattle.fund_report.specs.declared.report.Report.TheVariants.{Funded}

-- the lines of the mark, of the row and of the stage
abbrev pub front_text : Stage → Mark → ℕ → List ℕ
front_text stage mark row = line (codes "funded ") (mark_word mark) ++ (line (codes "row ") (decimal row) ++ line (codes "stage ") (stage_word stage))

-- the same with the stage `changeless`
unfoldable pub changeless_front : Mark → ℕ → List ℕ
changeless_front mark row = codes "funded " ++ (mark_word mark ++ (codes "\nrow " ++ (decimal row ++ codes "\nstage changeless\n")))

-- the row, with the line of the stage `wide` behind it
abbrev pub row_wide_at : List ℕ → Result (ℕ × List ℕ) (List ℕ)
row_wide_at = made_at (λ (v : ℕ × ⊤). v.0) (both_at row_line (λ r. word_at (codes "stage wide\n")))

-- the mark and the row, with that line behind them
abbrev pub front_at : List ℕ → Result ((Mark × ℕ) × List ℕ) (List ℕ)
front_at = both_at mark_line (λ m. row_wide_at)

-- the same payment by another search
abbrev pub as_stage : Stage → PlainFunded → PlainFunded
as_stage stage f = record f { stage = stage }

-- the payment by the wide search of which the text, but for the stage, is the report
abbrev pub IsWideOf : List ℕ → PlainFunded → Type 0
IsWideOf text f = (g : PlainFunded) × IsReportText text (Funded g) × (f ≡ as_stage Wide g)
