use Rattle.std.specs.Prelude.{List}
use Rattle.std.proofs.Common.{subst, sym}
use Rattle.desk_machine.specs.Rules.{IsDesk}
use Rattle.desk_machine.specs.State.{Job, PlainDesk}
use Rattle.fund_desk.proofs.DeskLaws.{desk_close}
use Rattle.fund_desk.proofs.desk.Desk.close.Goals as goal

pub invariant_of-self : goal.invariant_of-self
invariant_of-self c =
    let d : PlainDesk = record { held = c.self.inside.held; committed = c.self.inside.committed.items; jobs = c.self.inside.jobs.items } in
    let rules = subst (λ (js : List Job). IsDesk (record { held = d.held; committed = d.committed; jobs = js })) (sym c.close.ensures) (desk_close d c.args.name.now c.self.invariant.0) in
    (rules, c.self.invariant.1)
