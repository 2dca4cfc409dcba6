use Rattle.std.proofs.Common.{◌++◌, ℕ, List, append-nil, codes, subst}
use Rattle.std.specs.Fmt.{decimal}
use Rattle.command_end.specs.AnswerLines.{IsAnswered}
use Rattle.command_end.specs.declared.status.Status.TheVariants as statuses
use Rattle.command_sweep.proofs.answer.answer_stop.Goals as goal

pub returns-in-TooHeavy-clause-answered : goal.returns-in-TooHeavy-clause-answered
returns-in-TooHeavy-clause-answered g c =
    let old = g.O.Sink.view c.args.out.now in
    let new = g.O.Sink.view c.put_fault-in-TooHeavy.new.out in
    rw c.in-TooHeavy.is (
    subst (λ (number : List ℕ). IsAnswered g.O.Sink.tells (codes "input plan TooHeavy " ++ number) statuses.Input old new c.put_fault-in-TooHeavy.result) (append-nil (decimal c.in-TooHeavy.weight)) c.put_fault-in-TooHeavy.ensures.answered
    )
