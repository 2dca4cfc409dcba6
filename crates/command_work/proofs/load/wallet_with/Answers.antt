use Rattle.command_work.proofs.RuleLaws.{wallet_is}
use Rattle.command_work.proofs.load.wallet_with.Goals as goal

pub invariant_of-result : goal.invariant_of-result
invariant_of-result c = rw (c.in_ok-scripts.ensures {u = tt}, c.in_ok-change.ensures {u = tt}, c.new.ensures.items, c.new-2.ensures.items, c.new-3.ensures.items) (wallet_is c.args.earlier.items c.requires.each c.requires.distinct)

pub returns-clause-rules : goal.returns-clause-rules
returns-clause-rules c = rw (c.in_ok-scripts.ensures {u = tt}, c.in_ok-change.ensures {u = tt}, c.new.ensures.items, c.new-2.ensures.items, c.new-3.ensures.items) (wallet_is c.args.earlier.items c.requires.each c.requires.distinct)
