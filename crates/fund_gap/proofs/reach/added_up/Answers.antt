use Rattle.std.specs.Prelude.{All, ◌≤◌}
use Rattle.std.proofs.Common.{subst, sym}
use Rattle.pick_problem.specs.declared.item.Item.{Item}
use Rattle.fund_gap.proofs.GapLaws.{values_fit}
use Rattle.fund_gap.proofs.reach.added_up.Goals as goal

pub values-requires-clause-each : goal.values-requires-clause-each
values-requires-clause-each c = subst (All (λ (i : Item). i.value ≤ 210_000_000_000_000_000)) (sym c.deref.ensures.value) (values_fit c.args.seen.now.items.items c.requires.fit)
