use Rattle.std.proofs.Common.{ap, refl}
use Rattle.walk_engine.specs.Cases.{rule_of}
use Rattle.walk_engine.proofs.WayLaws.{walked_goes}
use Rattle.walk_engine.proofs.transitions.follow.Goals as goal

pub returns-in-Goes-clause-walked : goal.returns-in-Goes-clause-walked
returns-in-Goes-clause-walked c =
    walked_goes c.args.prepared.now c.args.t c.args.stack.now.places.items c.args.letters.now.items c.choose.new.self
    _ c.choose.ensures.places c.behind.ensures refl c.choose.ensures.stack (rule_of c.args.case)
    (ap rule_of c.in-Goes.is)
