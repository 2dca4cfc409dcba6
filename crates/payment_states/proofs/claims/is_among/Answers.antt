use Rattle.payment_states.proofs.AmongSteps.{none_among}
use Rattle.payment_states.proofs.claims.is_among.Goals as goal

pub returns-then-is_empty : goal.returns-then-is_empty
returns-then-is_empty c = none_among c.args.set.now.keys c.args.point.now (c.is_empty.ensures.0 c.if-is_empty.true)
