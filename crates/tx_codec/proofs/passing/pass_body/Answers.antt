use Rattle.std.proofs.Common.{List, ℕ, length, ap, arith}
use Rattle.tx_codec.proofs.PassSteps.{body_holds, body_len}
use Rattle.tx_codec.proofs.passing.pass_body.Goals as goal

pub overflow_sub-result : goal.overflow_sub-result
overflow_sub-result c =
    let is = body_len _ _ _ _ _ c.rest-before.ensures.bytes c.in_ok-count.ensures.gives c.in_ok-pass_some_outputs.ensures.gives in
    omega (arith, is, ap (λ (l : List ℕ). length l) c.rest-before.ensures.value, ap (λ (l : List ℕ). length l) c.rest.ensures.value)

pub returns-clause-gives : goal.returns-clause-gives
returns-clause-gives c =
    let is = body_len _ _ _ _ _ c.rest-before.ensures.bytes c.in_ok-count.ensures.gives c.in_ok-pass_some_outputs.ensures.gives in
    body_holds _ _ _ _ _ _ c.rest-before.ensures.bytes c.in_ok-count.ensures.gives c.in_ok-pass_some_outputs.ensures.gives
    (omega (arith, is, ap (λ (l : List ℕ). length l) c.rest-before.ensures.value, ap (λ (l : List ℕ). length l) c.rest.ensures.value))
