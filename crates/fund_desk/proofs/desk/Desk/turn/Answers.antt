use Rattle.desk_machine.specs.State.{PlainDesk}
use Rattle.fund_desk.proofs.DeskLaws.{are_open, desk_turn, left_any}
use Rattle.fund_desk.proofs.desk.Desk.turn.Goals as goal

pub invariant_of-self : goal.invariant_of-self
invariant_of-self c =
    let d : PlainDesk = record { held = c.self.inside.held; committed = c.self.inside.committed.items; jobs = c.self.inside.jobs.items } in
    let h = c.self.invariant.0 in
    let rules = desk_turn d c.turn.new.jobs.items h (left_any c.turn.result d.jobs c.turn.new.jobs.items c.args.name.now c.args.tries c.turn.ensures.next c.turn.ensures.memory (are_open d h)) (c.turn.ensures.each d.held.wallet.change h.each) in
    (rules, c.self.invariant.1)
