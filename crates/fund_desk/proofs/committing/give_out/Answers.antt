use Rattle.fund_desk.proofs.GivenLaws.{not_funded}
use Rattle.fund_desk.proofs.committing.give_out.Goals as goal

pub returns-in-None-clause-given : goal.returns-in-None-clause-given
returns-in-None-clause-given c = not_funded c.args.held.now c.args.committed.now c.args.job.now c.in-None.ensures
