-- The order of a pool, by what a search sees of groups and by their least outpoints.
use Rattle.std.specs.Ordering.{nat_cmp, int_cmp, ordering_then}
use Rattle.std.specs.declared.cmp.Ordering.{Ordering}
use Rattle.fund_base.specs.Outpoints.{outpoint_cmp}
use Rattle.pick_problem.specs.declared.item.Item.{Item}
use Rattle.output_groups.specs.declared.formed.Formed.{Formed}

-- value falling, then weight rising, then cost rising
abbrev pub item_cmp : Item → Item → Ordering
item_cmp i j = ordering_then (ordering_then (nat_cmp j.value i.value) (nat_cmp i.weight j.weight)) (int_cmp i.cost j.cost)

-- then the least outpoint
abbrev pub formed_cmp : Formed → Formed → Ordering
formed_cmp a b = ordering_then (item_cmp a.item b.item) (outpoint_cmp a.least.coin b.least.coin)
