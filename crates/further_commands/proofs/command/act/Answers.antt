use Rattle.further_commands.proofs.command.act.Goals as goal

pub returns-in-Wide-clause-asked : goal.returns-in-Wide-clause-asked
returns-in-Wide-clause-asked g c = rw c.in-Wide.is (λ told. (c.wide.ensures.asked told, c.wide.ensures.none_behind told))

pub returns-in-Wide-clause-ends : goal.returns-in-Wide-clause-ends
returns-in-Wide-clause-ends g c = rw c.in-Wide.is c.wide.ensures.ends

pub returns-in-Settle-clause-asked : goal.returns-in-Settle-clause-asked
returns-in-Settle-clause-asked g c = rw c.in-Settle.is c.settle_payment.ensures.asks

pub returns-in-Settle-clause-others : goal.returns-in-Settle-clause-others
returns-in-Settle-clause-others g c = rw c.in-Settle.is (λ told. c.settle_payment.ensures.frame.same told)

pub returns-in-Settle-clause-ends : goal.returns-in-Settle-clause-ends
returns-in-Settle-clause-ends g c = rw c.in-Settle.is c.settle_payment.ensures.ends

pub returns-in-Share-clause-asked : goal.returns-in-Share-clause-asked
returns-in-Share-clause-asked g c = rw c.in-Share.is (λ told. (c.share.ensures.asked told, c.share.ensures.none_behind told))

pub returns-in-Share-clause-ends : goal.returns-in-Share-clause-ends
returns-in-Share-clause-ends g c = rw c.in-Share.is c.share.ensures.ends

pub returns-in-Sweep-clause-asked : goal.returns-in-Sweep-clause-asked
returns-in-Sweep-clause-asked g c = rw c.in-Sweep.is (λ told. (c.sweep.ensures.asked told, c.sweep.ensures.none_behind told))

pub returns-in-Sweep-clause-others : goal.returns-in-Sweep-clause-others
returns-in-Sweep-clause-others g c = rw c.in-Sweep.is (λ told. c.sweep.ensures.frame.same told)

pub returns-in-Sweep-clause-ends : goal.returns-in-Sweep-clause-ends
returns-in-Sweep-clause-ends g c = rw c.in-Sweep.is c.sweep.ensures.ends
