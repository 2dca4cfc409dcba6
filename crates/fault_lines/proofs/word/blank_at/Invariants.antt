use Rattle.std.proofs.Common.{◌≡◌, ◌+◌, drop}
use Rattle.fault_lines.specs.Word.{is_no_blank}
use Rattle.std.specs.List.{prefix_len}
use Rattle.fault_lines.proofs.word.blank_at.Given as goal

abbrev pub invariant-loop-i : goal.invariant-loop-i
invariant-loop-i l = l.i + prefix_len is_no_blank (drop l.i l.bytes) ≡ prefix_len is_no_blank l.bytes
