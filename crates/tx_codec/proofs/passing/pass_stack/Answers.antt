use Rattle.std.proofs.lemmas.Result.{err_from_is_err_and}
use Rattle.tx_codec.proofs.PassSteps.{stack_items_fail}
use Rattle.tx_codec.proofs.passing.pass_stack.Goals as goal

pub returns-in_err-pass_items-clause-gives : goal.returns-in_err-pass_items-clause-gives
returns-in_err-pass_items-clause-gives c =
    let p = err_from_is_err_and c.from_residual-in_err-pass_items.result c.from_residual-in_err-pass_items.ensures.1 in
    rw (p.1, p.2) (λ other. stack_items_fail _ _ _ _ c.in_ok-count.ensures.moves (c.in_err-pass_items.ensures.gives other))
