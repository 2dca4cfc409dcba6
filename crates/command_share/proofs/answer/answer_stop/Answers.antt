use Rattle.std.proofs.Common.{◌++◌, ℕ, List, append-nil, codes, subst}
use Rattle.std.specs.Fmt.{decimal}
use Rattle.command_end.specs.AnswerLines.{IsAnswered}
use Rattle.command_end.specs.declared.status.Status.TheVariants as statuses
use Rattle.command_share.proofs.answer.answer_stop.Goals as goal

pub returns-in-ShareDust-clause-answered : goal.returns-in-ShareDust-clause-answered
returns-in-ShareDust-clause-answered g c =
    let old = g.O.Sink.view c.args.out.now in
    let new = g.O.Sink.view c.put_fault-in-ShareDust.new.out in
    rw c.in-ShareDust.is (
    subst (λ (number : List ℕ). IsAnswered g.O.Sink.tells (codes "input plan ShareDust " ++ number) statuses.Input old new c.put_fault-in-ShareDust.result) (append-nil (decimal c.in-ShareDust.index)) c.put_fault-in-ShareDust.ensures.answered
    )
