-- Reports without a payment are short.
use Rattle.std.specs.Prelude.{ℕ, ◌≡◌, ◌≤◌, ◌++◌, List, codes, length}
use Rattle.std.specs.Fmt.{decimal}
use Rattle.std.proofs.Common.{arith, ap}
use Rattle.std.proofs.lemmas.Fmt.{length-decimal-le}
use Rattle.std.proofs.lemmas.List.{length-append}
use Rattle.closing_log.specs.LogText.{stage_word}
use Rattle.closing_log.specs.declared.log.Stage.{Stage}
use Rattle.closing_log.specs.declared.log.Stage.TheVariants.{Presets, Changeless, LeanBig, Draw, LeanSmall, Wide}
use Rattle.fund_report.specs.ReportText.{IsReportText, IsWide, line, none_text, unfinished_text}
use Rattle.fund_report.specs.declared.report.Report.TheVariants as kinds
use Rattle.command_check.specs.Evidence.{IsWithin}

wide_digits : (n : ℕ) → IsWide n → length (decimal n) ≤ 20
wide_digits n h = length-decimal-le 20 n (omega arith) (omega (arith, h)) (omega (arith, h))

word_short : (s : Stage) → length (stage_word s) ≤ 20
word_short Presets = omega arith
word_short Changeless = omega arith
word_short LeanBig = omega arith
word_short Draw = omega arith
word_short LeanSmall = omega arith
word_short Wide = omega arith

line_short : (name said : List ℕ) → length name ≤ 20 → length said ≤ 20 → length (line name said) ≤ 41
line_short name said short few =
    let a = length-append name (said ++ codes "\n") in
    let b = length-append said (codes "\n") in
    omega (arith, a, b, short, few)

pub none_within : (report : List ℕ) (tries : ℕ) → IsReportText report (kinds.NoSelection tries) → IsWithin report
none_within report tries h =
    let long : length report ≡ length (none_text tries) = ap length h.0 in
    let count = line_short (codes "tries ") (decimal tries) (omega arith) (wide_digits tries h.1) in
    let a = length-append (codes "none\n") (line (codes "tries ") (decimal tries)) in
    omega (arith, long, count, a)

pub open_within : (report : List ℕ) (tries row : ℕ) (stage : Stage) → IsReportText report (kinds.Unfinished tries row stage) → IsWithin report
open_within report tries row stage h =
    let long : length report ≡ length (unfinished_text tries row stage) = ap length h.0 in
    let small = h.3 in
    let count = line_short (codes "tries ") (decimal tries) (omega arith) (wide_digits tries h.2) in
    let number = line_short (codes "row ") (decimal row) (omega arith) (wide_digits row (omega (arith, small))) in
    let word = line_short (codes "stage ") (stage_word stage) (omega arith) (word_short stage) in
    let a = length-append (codes "unfinished\n") (line (codes "tries ") (decimal tries) ++ (line (codes "row ") (decimal row) ++ line (codes "stage ") (stage_word stage))) in
    let b = length-append (line (codes "tries ") (decimal tries)) (line (codes "row ") (decimal row) ++ line (codes "stage ") (stage_word stage)) in
    let c = length-append (line (codes "row ") (decimal row)) (line (codes "stage ") (stage_word stage)) in
    omega (arith, long, count, number, word, a, b, c)
