use Rattle.std.proofs.Common.{◌≡◌, ℕ, ◌<◌, get_or, true}
use Rattle.fund_report.specs.Reading.{is_text}
use Rattle.amount_reports.proofs.lines.text_len.Given as goal

abbrev pub invariant-loop-i : goal.invariant-loop-i
invariant-loop-i l = (k : ℕ) → k < l.i → is_text (get_or l.bytes k 0) ≡ true
