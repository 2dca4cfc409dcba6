use Rattle.std.proofs.Common.{[]}
use Rattle.wallet_text.proofs.EarlierLaws.{is_repeat}
use Rattle.wallet_text.proofs.Rules.{lists_are}
use Rattle.wallet_text.proofs.lists.judge_earlier.Goals as goal

pub returns-in-Ok-clause-distinct : goal.returns-in-Ok-clause-distinct
returns-in-Ok-clause-distinct c = (lists_are c.args.earlier.now [] (c.in-Ok.ensures {u = tt})).0

pub returns-in-Err-clause-fault : goal.returns-in-Err-clause-fault
returns-in-Err-clause-fault c = is_repeat c.args.earlier.now c.told.result (rw c.told.ensures (c.in-Err.ensures {u = tt}))
