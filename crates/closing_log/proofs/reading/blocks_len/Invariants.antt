use Rattle.std.proofs.Common.{◌≡◌, ◌+◌, ◌≤◌, ◌-◌, drop, length}
use Rattle.std.specs.List.{prefix_len}
use Rattle.closing_log.specs.Reading.{is_letter}
use Rattle.closing_log.proofs.reading.blocks_len.Given as goal

abbrev pub invariant-loop-front : goal.invariant-loop-front
invariant-loop-front l = record {
  within : l.front ≤ length l.bytes;
  letters : l.front + prefix_len is_letter (drop l.front l.bytes) ≡ prefix_len is_letter l.bytes;
}

abbrev pub decreases-loop-front : goal.decreases-loop-front
decreases-loop-front l = length l.bytes - l.front
