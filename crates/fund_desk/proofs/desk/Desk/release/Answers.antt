use Rattle.std.specs.Prelude.{List}
use Rattle.std.proofs.Common.{subst, sym}
use Rattle.desk_machine.specs.Rules.{IsDesk}
use Rattle.desk_machine.specs.State.{Payment, PlainDesk}
use Rattle.fund_desk.proofs.DeskLaws.{desk_release}
use Rattle.fund_desk.proofs.desk.Desk.release.Goals as goal

pub invariant_of-self : goal.invariant_of-self
invariant_of-self c =
    let d : PlainDesk = record { held = c.self.inside.held; committed = c.self.inside.committed.items; jobs = c.self.inside.jobs.items } in
    let rules = subst (λ (ps : List Payment). IsDesk (record { held = d.held; committed = ps; jobs = d.jobs })) (sym c.release.ensures) (desk_release d c.args.txid.now c.self.invariant.0) in
    (rules, c.self.invariant.1)
