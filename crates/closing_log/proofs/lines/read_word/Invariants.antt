use Rattle.std.proofs.Common.{◌≡◌, ◌≤◌, length, drop}
use Rattle.closing_log.specs.Reading.{word_at}
use Rattle.closing_log.proofs.lines.read_word.Given as goal

abbrev pub invariant-loop-i : goal.invariant-loop-i
invariant-loop-i l = record {
  within : l.i ≤ length l.bytes;
  same : word_at (drop l.i l.word) (drop l.i l.bytes) ≡ word_at l.word l.bytes;
}
