use Rattle.std.proofs.Common.{◌≡◌, take}
use Rattle.std.specs.Prelude.{All, map}
use Rattle.output_groups.specs.Formed.{IsFormed, part_in}
use Rattle.output_groups.specs.Forming.{alone}
use Rattle.output_groups.proofs.forming.singles.Given as goal

abbrev pub invariant-loop-place : goal.invariant-loop-place
invariant-loop-place l = record {
  parts : map (part_in l.coins) l.groups.items ≡ map alone (take l.place l.coins);
  each : All (IsFormed l.rate l.long_term l.coins) l.groups.items;
}
