use Rattle.command_work.proofs.RuleLaws.{request_is}
use Rattle.command_work.proofs.load.request_with.Goals as goal

pub invariant_of-result : goal.invariant_of-result
invariant_of-result c = rw (c.in_ok-recipients.ensures {u = tt}, c.new.ensures.items) (request_is c.args.amount c.requires.least c.requires.most)

pub returns-clause-rules : goal.returns-clause-rules
returns-clause-rules c = rw (c.in_ok-recipients.ensures {u = tt}, c.new.ensures.items) (request_is c.args.amount c.requires.least c.requires.most)
