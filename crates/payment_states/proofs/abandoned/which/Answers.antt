use Rattle.std.proofs.Common.{◌∙◌, [], ◌∷◌, ◌++◌, None, sym, arith}
use Rattle.std.specs.Prelude.{is_some}
use Rattle.std.proofs.lemmas.List.{map_more}
use Rattle.payment_states.proofs.abandoned.which.Goals as goal

pub loop-number-preserved : goal.loop-number-preserved
loop-number-preserved c = (
  c.in_ok-push.ensures.items
      ∙ (λ k. c.loop-number.invariant.0 k ++ c.is_some.ensures k ∷ [])
      ∙ sym (map_more is_some c.args.numbers.now c.loop-number.number-index None c.loop-number-test.true),
  omega (arith, c.in_ok-push.ensures.len),
)
