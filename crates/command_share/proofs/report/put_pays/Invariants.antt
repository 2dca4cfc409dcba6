use Rattle.std.proofs.Common.{◌≡◌, ◌++◌, take, string_bytes}
use Rattle.command_end.specs.LinesText.{lines_text}
use Rattle.command_share.specs.Outcome.{pay_lines}
use Rattle.command_share.proofs.report.put_pays.Given as goal

abbrev pub invariant-loop-place : goal.invariant-loop-place
invariant-loop-place l = string_bytes l.text ≡ string_bytes l.initial.text ++ lines_text (pay_lines 0 (take l.place l.amounts))
