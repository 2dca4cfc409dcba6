use Rattle.search_run.proofs.HeldLaws.{go_fails, on_err}
use Rattle.search_run.proofs.run.SearchRun.go.Goals as goal

pub returns-in_err-turn-clause-err : goal.returns-in_err-turn-clause-err
returns-in_err-turn-clause-err c =
    on_err c.from_residual.result (go_fails c.args.self.now c.on.self c.turn.new.self c.args.budget c.on.left c.on.invariant c.in_err-turn.ensures.err)
