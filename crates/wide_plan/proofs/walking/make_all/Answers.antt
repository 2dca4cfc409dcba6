use Rattle.std.proofs.Common.{arith}
use Rattle.wide_plan.proofs.WalkLaws.{tried_over, tries_more}
use Rattle.wide_plan.proofs.walking.make_all.Goals as goal

pub on-preserved : goal.on-preserved
on-preserved c =
    tries_more c.args.walk.now c.on.walk c.reserve.new.self c.make-done-in-on.new.walk c.args.tries c.on.left c.min-piece.result c.on.done c.make-done-in-on.result
    c.on.invariant (omega (arith, c.min-piece.ensures)) c.reserve.ensures.walk c.make-done-in-on.ensures.walk c.make-done-in-on.ensures.done

pub returns-after-on-clause-walk : goal.returns-after-on-clause-walk
returns-after-on-clause-walk c = tried_over c.args.walk.now c.on.walk c.args.tries c.on.left c.on.done c.on.invariant c.on-test.false
