use Rattle.std.proofs.Common.{◌∙◌, Bool, [], ◌∷◌, ◌++◌, sym, ap, arith}
use Rattle.std.proofs.lemmas.List.{map_more}
use Rattle.payment_states.specs.Candidates.{is_pending_state}
use Rattle.payment_states.specs.declared.state.Payment.{Payment}
use Rattle.payment_states.proofs.claims.pending_of.Goals as goal

pub loop-payment-preserved : goal.loop-payment-preserved
loop-payment-preserved c =
    let f : Payment → Bool = λ p. is_pending_state p.state in (
      c.in_ok-push.ensures.items
          ∙ (λ k. c.loop-payment.invariant.0 k ++ (c.is_pending_state.ensures ∙ ap f c.payment-item.is) k ∷ [])
          ∙ sym (map_more f c.args.payments.now c.loop-payment.payment-index c.payment-item.result c.loop-payment-test.true),
      omega (arith, c.in_ok-push.ensures.len),
    )
