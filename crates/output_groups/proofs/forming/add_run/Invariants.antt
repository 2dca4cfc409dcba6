use Rattle.std.proofs.Common.{◌≡◌, ◌++◌}
use Rattle.std.specs.Prelude.{All, map}
use Rattle.std.specs.List.{range_with_len}
use Rattle.output_groups.specs.Formed.{IsFormed, part_in}
use Rattle.output_groups.specs.Forming.{part_at}
use Rattle.output_groups.specs.Runs.{run_of}
use Rattle.output_groups.proofs.forming.add_run.Given as goal

abbrev pub invariant-loop-place : goal.invariant-loop-place
invariant-loop-place l = record {
  parts : map (part_in l.coins) l.groups.items ≡ map (part_in l.coins) l.initial.groups.items ++ map (part_at (run_of l.coins l.start l.end)) (range_with_len 0 l.place);
  each : All (IsFormed l.rate l.long_term l.coins) l.initial.groups.items → All (IsFormed l.rate l.long_term l.coins) l.groups.items;
}
