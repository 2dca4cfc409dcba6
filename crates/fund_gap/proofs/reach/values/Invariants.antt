use Rattle.std.proofs.Common.{◌≡◌, ◌≤◌, ◌*◌, take}
use Rattle.std.specs.Prelude.{sum_by}
use Rattle.pick_problem.specs.declared.item.Item.{Item}
use Rattle.fund_gap.proofs.reach.values.Given as goal

abbrev pub invariant-loop-item : goal.invariant-loop-item
invariant-loop-item l = record {
  sum : l.sum ≡ sum_by (λ (i : Item). i.value) (take l.item-index l.items);
  most : l.sum ≤ 210_000_000_000_000_000 * l.item-index;
}
