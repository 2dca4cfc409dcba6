use Rattle.wide_plan.proofs.WalkLaws.{IsTrying}
use Rattle.wide_plan.proofs.walking.make_all.Given as goal

abbrev pub invariant-on : goal.invariant-on
invariant-on l = IsTrying l.fn.walk l.tries l.left l.walk l.done

abbrev pub decreases-on : goal.decreases-on
decreases-on l = l.left
