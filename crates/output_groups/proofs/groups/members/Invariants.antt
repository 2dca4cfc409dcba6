use Rattle.std.proofs.Common.{◌≡◌, map, take}
use Rattle.output_groups.specs.Formed.{coins_at}
use Rattle.output_groups.specs.Places.{members}
use Rattle.output_groups.proofs.groups.members.Given as goal

abbrev pub invariant-loop-place : goal.invariant-loop-place
invariant-loop-place l = l.members.items ≡ members (map (coins_at l.coins) l.kept) (take l.place-index l.places)
