-- Where the line of a report's tries begins.
use Rattle.std.specs.Prelude.{ℕ, ◌≡◌, ◌+◌, ◌/◌, ◌%◌, ◌^◌, ◌≤◌, ◌<◌, List, [], ◌∷◌, ◌++◌, length, codes}
use Rattle.std.specs.Fmt.{decimal}
use Rattle.std.proofs.Common.{sym, ap, arith}
use Rattle.std.proofs.lemmas.Fmt.{decimal_digit, decimal_step}
use Rattle.std.proofs.lemmas.List.{length-append}
use Rattle.closing_log.specs.LogText.{stage_word}
use Rattle.closing_log.specs.MarkWord.{mark_word}
use Rattle.fund_report.specs.PlainFunded.{PlainFunded}
use Rattle.fund_report.specs.ReportText.{line}
use Rattle.fund_report.specs.declared.report.Report.TheVariants.{Funded}
use Rattle.report_check.specs.Proved.{tries_place}

pub one_digit : (n : ℕ) → n < 10 → 1 ≡ length (decimal n)
one_digit n h = sym (ap length (decimal_digit n h))

longer : (n k : ℕ) → 10 ≤ n → n < 2 ^ 64 → length (decimal (n / 10)) ≡ k → k + 1 ≡ length (decimal n)
longer n k h small e =
    let step = ap length (decimal_step n h small) in
    omega (arith, step, e, length-append (decimal (n / 10)) ((48 + n % 10) ∷ []))

pub two_digits : (n : ℕ) → 10 ≤ n → n < 100 → 2 ≡ length (decimal n)
two_digits n h k =
    let small : n < 2 ^ 64 = omega (arith, k) in
    let one : 1 ≡ length (decimal (n / 10)) = one_digit (n / 10) (omega (arith, k)) in
    let all = longer n 1 h small (sym one) in
    omega (arith, all)

pub three_digits : (n : ℕ) → 100 ≤ n → n < 256 → 3 ≡ length (decimal n)
three_digits n h k =
    let small : n < 2 ^ 64 = omega (arith, k) in
    let two : 2 ≡ length (decimal (n / 10)) = two_digits (n / 10) (omega (arith, h)) (omega (arith, k)) in
    let all = longer n 2 (omega (arith, h)) small (sym two) in
    omega (arith, all)

line_length : (name said : List ℕ) → length (line name said) ≡ length name + (length said + 1)
line_length name said = omega (arith, length-append name (said ++ codes "\n"), length-append said (codes "\n"))

pub funded_place : (f : PlainFunded) (w d s : ℕ) → w ≡ length (mark_word f.mark) → d ≡ length (decimal f.row) → s ≡ length (stage_word f.stage) → 20 + w + d + s ≡ tries_place (Funded f)
funded_place f w d s a b c =
    let first = line (codes "funded ") (mark_word f.mark) in
    let second = line (codes "row ") (decimal f.row) in
    let third = line (codes "stage ") (stage_word f.stage) in
    let one : length first ≡ 7 + (length (mark_word f.mark) + 1) = line_length (codes "funded ") (mark_word f.mark) in
    let two : length second ≡ 4 + (length (decimal f.row) + 1) = line_length (codes "row ") (decimal f.row) in
    let three : length third ≡ 6 + (length (stage_word f.stage) + 1) = line_length (codes "stage ") (stage_word f.stage) in
    let whole : length (first ++ (second ++ third)) ≡ length first + (length second + length third) = omega (arith, length-append first (second ++ third), length-append second third) in
    omega (arith, a, b, c, one, two, three, whole)
