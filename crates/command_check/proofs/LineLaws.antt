-- A report's file begins with the first line of the report.
use Rattle.std.proofs.Common.{◌≡◌, ◌∙◌, ◌++◌, ℕ, List, [], refl, sym, append_assoc}
use Rattle.std.specs.Prelude.{◌==◌, codes, filter}
use Rattle.std.specs.Fmt.{decimal}
use Rattle.closing_log.specs.LogText.{stage_word}
use Rattle.closing_log.specs.MarkWord.{mark_word}
use Rattle.closing_log.specs.declared.mark.Mark.{Mark}
use Rattle.closing_log.specs.declared.mark.Mark.TheVariants.{Exhausted, Partial, Drawn, Given}
use Rattle.fund_report.specs.ReportText.{line}
use Rattle.fund_report.specs.declared.report.Report.{Report}
use Rattle.fund_report.specs.declared.report.Report.TheVariants.{Funded, NoSelection, Unfinished}
use Rattle.report_check.proofs.TriesLineLaws.{tries_line}
use Rattle.report_check.specs.Proved.{HasTriesLine}
use Rattle.command_check.specs.Evidence.{HasReport}
use Rattle.command_check.specs.Words.{StartsWithLine, first_line}

marked : (m : Mark) → filter (λ (b : ℕ). b == 10) (codes "funded " ++ mark_word m) ≡ []
marked Exhausted = refl
marked Partial = refl
marked Drawn = refl
marked Given = refl

pub starts : (file : List ℕ) (r : Report) → HasReport file r → StartsWithLine file (first_line r)
starts file (Funded f) h =
    let t : HasTriesLine file (Funded f) = tries_line file (Funded f) h.form in
    let below = line (codes "row ") (decimal f.row) ++ line (codes "stage ") (stage_word f.stage) in
    let more = line (codes "tries ") (decimal f.tries) ++ t.rest in
    record {
      said = codes "funded " ++ mark_word f.mark;
      rest = below ++ more;
      parts = t.parts ∙ append_assoc (line (codes "funded ") (mark_word f.mark)) below more;
      ends = sym (append_assoc (codes "funded ") (mark_word f.mark) (codes "\n"));
      one = marked f.mark;
    }
starts file (NoSelection tries) h =
    let t : HasTriesLine file (NoSelection tries) = tries_line file (NoSelection tries) h.form in
    record { said = codes "none"; rest = line (codes "tries ") (decimal tries) ++ t.rest; parts = t.parts; ends = refl; one = refl }
starts file (Unfinished tries row stage) h =
    let t : HasTriesLine file (Unfinished tries row stage) = tries_line file (Unfinished tries row stage) h.form in
    record { said = codes "unfinished"; rest = line (codes "tries ") (decimal tries) ++ t.rest; parts = t.parts; ends = refl; one = refl }
