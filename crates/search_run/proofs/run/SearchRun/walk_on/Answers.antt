use Rattle.std.proofs.Common.{◌∙◌, arith, ap, subst, sym}
use Rattle.search_run.specs.Held.{IsRun, run_in}
use Rattle.search_run.specs.Runs.{PlainRun}
use Rattle.search_run.specs.declared.run.SearchRun.TheInside.{Inside}
use Rattle.search_run.proofs.HeldLaws.{on_err, same_is, same_kept, walked_kept, walked_on}
use Rattle.search_run.proofs.run.SearchRun.walk_on.Goals as goal

pub invariant_of-self : goal.invariant_of-self
invariant_of-self c =
    same_kept c.args.self.now _ _ _ _ c.take-walk.result _
    (ap (λ (i : Inside). run_in i.seed i.steps.items i.at i.walk i.past) c.self-inside.view_is ∙ c.self.view_is) c.requires.left c.take-walk.ensures.value c.index.result.now c.advance-turn.new.walk c.index.ensures
    (subst (λ (i : Inside). IsRun i.seed i.steps.items i.at i.walk i.past) (sym c.self-inside.view_is) c.self.invariant) c.advance-turn.ensures.of c.in_err-turn.ensures.err

pub returns-in_err-turn-clause-err : goal.returns-in_err-turn-clause-err
returns-in_err-turn-clause-err c =
    on_err c.from_residual.result
    (same_is c.args.self.now _ _ _ _ c.take-walk.result _
    (ap (λ (i : Inside). run_in i.seed i.steps.items i.at i.walk i.past) c.self-inside.view_is ∙ c.self.view_is) c.requires.left c.take-walk.ensures.value c.index.result.now c.advance-turn.new.walk c.index.ensures c.in_err-turn.ensures.err)

pub overflow_add-self : goal.overflow_add-self
overflow_add-self c =
    let w = walked_on c.args.self.now _ _ _ _ c.take-walk.result _
    (ap (λ (i : Inside). run_in i.seed i.steps.items i.at i.walk i.past) c.self-inside.view_is ∙ c.self.view_is) c.requires.left c.take-walk.ensures.value c.index.result.now c.advance-turn.new.walk c.args.tries c.in_ok-turn.turn c.index.ensures c.in_ok-turn.ensures.ok in
    omega (arith, c.requires.fits, w.most, ap (λ (r : PlainRun). r.stand.past.tries) (ap (λ (i : Inside). run_in i.seed i.steps.items i.at i.walk i.past) c.self-inside.view_is ∙ c.self.view_is))

pub invariant_of-self-2 : goal.invariant_of-self-2
invariant_of-self-2 c =
    walked_kept c.args.self.now _ _ _ _ c.take-walk.result _
    (ap (λ (i : Inside). run_in i.seed i.steps.items i.at i.walk i.past) c.self-inside.view_is ∙ c.self.view_is) c.requires.left c.take-walk.ensures.value c.index.result.now c.advance-turn.new.walk c.args.tries c.in_ok-turn.turn c.index.ensures
    (subst (λ (i : Inside). IsRun i.seed i.steps.items i.at i.walk i.past) (sym c.self-inside.view_is) c.self.invariant) c.advance-turn.ensures.of c.in_ok-turn.ensures.ok

pub returns-clause-ok : goal.returns-clause-ok
returns-clause-ok c =
    walked_on c.args.self.now _ _ _ _ c.take-walk.result _
    (ap (λ (i : Inside). run_in i.seed i.steps.items i.at i.walk i.past) c.self-inside.view_is ∙ c.self.view_is) c.requires.left c.take-walk.ensures.value c.index.result.now c.advance-turn.new.walk c.args.tries c.in_ok-turn.turn c.index.ensures c.in_ok-turn.ensures.ok
