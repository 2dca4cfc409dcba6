use Rattle.std.proofs.Common.{◌≡◌, ◌∙◌, ◌+◌, ◌||◌, Bool, sym, ap, subst, arith}
use Rattle.std.proofs.lemmas.Result.{err_from_is_err_and}
use Rattle.tx_codec.proofs.PassSteps.{WitnessesSoFar, witnesses_all, witnesses_fail, witnesses_more}
use Rattle.tx_codec.proofs.passing.pass_stacks.Goals as goal
use Rattle.tx_codec.proofs.passing.pass_stacks.Goals.{else-some, then-some}

pub returns-in_err-here-clause-gives : goal.returns-in_err-here-clause-gives
returns-in_err-here-clause-gives c =
    let p = err_from_is_err_and c.from_residual.result c.from_residual.ensures.1 in
    rw (p.1, p.2) (λ inputs long. witnesses_fail inputs _ _ _ _ _ (omega (arith, long, c.loop-test.true)) c.in_err-here.ensures.gives (c.loop.invariant inputs long))

pub returns-clause-gives : goal.returns-clause-gives
returns-clause-gives c = λ inputs long. witnesses_all inputs _ _ _ _ (omega (arith, long, c.loop-test.false)) (c.loop.invariant inputs long)

pub loop-preserved : goal.loop-preserved
loop-preserved c =
    let same : c.if-some.some ≡ (c.loop.some || c.in_ok-here.here) =
    elim c.if-some.branch [
      | then-some w ↦ w.some-is ∙ w.if-some.true ∙ sym (ap (λ (b : Bool). b || c.in_ok-here.here) w.if-some.true)
      | else-some w ↦ w.some-is ∙ sym (ap (λ (b : Bool). b || c.in_ok-here.here) w.if-some.false)
    ]
    in
    λ inputs long.
    subst (λ (b : Bool). WitnessesSoFar inputs c.args.cursor.now b (c.loop.counter + 1) c.pass_stack.new.cursor) (sym same)
    (witnesses_more inputs _ _ _ _ _ _ (omega (arith, long, c.loop-test.true)) c.in_ok-here.ensures.gives (c.loop.invariant inputs long))
