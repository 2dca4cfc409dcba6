use Rattle.std.proofs.Common.{◌≡◌, take}
use Rattle.std.specs.Prelude.{filter, map}
use Rattle.output_groups.specs.Formed.{coins_at, keeps_formed}
use Rattle.output_groups.specs.declared.formed.Formed.{Formed}
use Rattle.output_groups.proofs.groups.kept_groups.Given as goal

abbrev pub invariant-loop-one : goal.invariant-loop-one
invariant-loop-one l = record {
  items : l.items.items ≡ map (λ (f : Formed). f.item) (filter (keeps_formed l.row) (take l.one-index l.formed));
  groups : l.groups.items ≡ map (coins_at l.coins) (filter (keeps_formed l.row) (take l.one-index l.formed));
}
