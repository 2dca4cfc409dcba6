-- The line of a report's tries stands behind the lines above it.
use Rattle.std.specs.Prelude.{ℕ, ◌≡◌, List, [], ◌++◌, codes}
use Rattle.std.specs.Fmt.{decimal}
use Rattle.std.proofs.Common.{sym, ap, ◌∙◌, append_assoc}
use Rattle.std.proofs.lemmas.List.{append-nil}
use Rattle.closing_log.specs.LogText.{stage_word}
use Rattle.closing_log.specs.MarkWord.{mark_word}
use Rattle.fund_report.specs.PlainFunded.{PlainFunded}
use Rattle.fund_report.specs.ReportText.{IsReportText, figures_text, funded_text, line, paid_text}
use Rattle.fund_report.specs.declared.report.Report.{Report}
use Rattle.fund_report.specs.declared.report.Report.TheVariants.{Funded, NoSelection, Unfinished}
use Rattle.report_check.specs.Proved.{HasTriesLine, above_tries}

regroup : (a b c t x : List ℕ) → (a ++ (b ++ (c ++ t))) ++ x ≡ (a ++ (b ++ c)) ++ (t ++ x)
regroup a b c t x =
    append_assoc a (b ++ (c ++ t)) x
    ∙ (ap (λ (y : List ℕ). a ++ y) (append_assoc b (c ++ t) x ∙ (ap (λ (y : List ℕ). b ++ y) (append_assoc c t x) ∙ sym (append_assoc b c (t ++ x))))
    ∙ sym (append_assoc a (b ++ c) (t ++ x)))

funded_line : (f : PlainFunded) (coins : List ℕ) → funded_text coins f ≡ above_tries (Funded f) ++ (line (codes "tries ") (decimal f.tries) ++ (coins ++ (figures_text f ++ paid_text f)))
unfolding funded_text
funded_line f coins =
    regroup (line (codes "funded ") (mark_word f.mark)) (line (codes "row ") (decimal f.row)) (line (codes "stage ") (stage_word f.stage)) (line (codes "tries ") (decimal f.tries)) (coins ++ (figures_text f ++ paid_text f))

pub tries_line : (bytes : List ℕ) (r : Report) → IsReportText bytes r → HasTriesLine bytes r
tries_line bytes (Funded f) h = record { rest = h.coins ++ (figures_text f ++ paid_text f); parts = h.lines ∙ funded_line f h.coins }
tries_line bytes (NoSelection tries) h =
    record { rest = []; parts = h.0 ∙ ap (λ (t : List ℕ). codes "none\n" ++ t) (sym (append-nil (line (codes "tries ") (decimal tries)))) }
tries_line bytes (Unfinished tries row stage) h =
    record { rest = line (codes "row ") (decimal row) ++ line (codes "stage ") (stage_word stage); parts = h.0 }
