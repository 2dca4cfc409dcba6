use Rattle.std.proofs.Common.{◌≡◌, take}
use Rattle.std.specs.Prelude.{filter, map}
use Rattle.output_groups.specs.Formed.{keeps_formed}
use Rattle.output_groups.specs.declared.formed.Formed.{Formed}
use Rattle.output_groups.proofs.groups.kept_items.Given as goal

abbrev pub invariant-loop-one : goal.invariant-loop-one
invariant-loop-one l = record {
  items : l.items.items ≡ map (λ (f : Formed). f.item) (filter (keeps_formed l.row) (take l.one-index l.formed));
  sizes : l.sizes.items ≡ map (λ (f : Formed). f.size) (filter (keeps_formed l.row) (take l.one-index l.formed));
}
