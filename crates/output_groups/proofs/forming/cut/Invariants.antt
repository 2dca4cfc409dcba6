use Rattle.std.proofs.Common.{◌-◌, length}
use Rattle.std.specs.Prelude.{All, map}
use Rattle.output_groups.proofs.CutLaws.{IsCut}
use Rattle.output_groups.specs.Formed.{IsFormed, part_in}
use Rattle.output_groups.proofs.forming.cut.Given as goal

abbrev pub invariant-loop-start : goal.invariant-loop-start
invariant-loop-start l = record {
  cut : IsCut l.coins l.start (map (part_in l.coins) l.groups.items);
  each : All (IsFormed l.rate l.long_term l.coins) l.groups.items;
}

abbrev pub decreases-loop-start : goal.decreases-loop-start
decreases-loop-start l = length l.coins - l.start
