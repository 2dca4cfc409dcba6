use Rattle.std.proofs.Common.{reverse, subst}
use Rattle.pick_problem.specs.declared.token.Reason.{Reason}
use Rattle.pick_problem.specs.declared.token.Token.TheVariants.{Close}
use Rattle.pick_problem.specs.Walk.{leave, writes}
use Rattle.walk_engine.specs.Transitions.{HasWalked}
use Rattle.walk_engine.proofs.WayLaws.{walked_put}
use Rattle.walk_engine.proofs.transitions.cut.Goals as goal

pub returns-clause-walked : goal.returns-clause-walked
returns-clause-walked c =
    let p = c.args.prepared.now in
    let behind = leave p (reverse c.args.stack.now.places.items) in
    subst (λ (r : Reason). HasWalked p (writes
    (Close r) behind) c.args.letters.now.items c.leave.new.letters.items c.leave.new.stack c.leave.result)
    c.cut_reason-closed.ensures
    (walked_put p behind
    (Close c.cut_reason-closed.result) c.args.letters.now.items c.put.new.letters.items c.leave.new.letters.items
    c.leave.new.stack c.leave.result c.put.ensures.letters c.leave.ensures.walked)
