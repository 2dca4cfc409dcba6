use Rattle.std.proofs.Common.{Bool, subst}
use Rattle.std.proofs.lemmas.Result.{err_from_is_err_and}
use Rattle.tx_codec.specs.Passing.{HoldsStacks}
use Rattle.tx_codec.proofs.PassSteps.{witnessed_holds, witnessed_lock_fails, witnessed_none, witnessed_stacks_fail}
use Rattle.tx_codec.proofs.passing.pass_witnessed.Goals as goal

pub returns-in_err-some-clause-gives : goal.returns-in_err-some-clause-gives
returns-in_err-some-clause-gives c =
    let p = err_from_is_err_and c.from_residual-in_err-some.result c.from_residual-in_err-some.ensures.1 in
    let body = c.in_ok-count.ensures.gives in
    rw (p.1, p.2) (λ version other. witnessed_stacks_fail version _ _ _ _ _ body (c.in_err-some.ensures.gives body.inputs body.long other))

pub returns-then-not-some-clause-gives : goal.returns-then-not-some-clause-gives
returns-then-not-some-clause-gives c =
    let body = c.in_ok-count.ensures.gives in
    let stacks = subst (λ (b : Bool). HoldsStacks body.inputs c.pass_body.new.cursor c.pass_stacks.new.cursor b) c.if-not-some.true (c.in_ok-some.ensures.gives body.inputs body.long) in
    λ version other. witnessed_none version _ _ _ _ _ body stacks

pub returns-in_err-u32_le-clause-gives : goal.returns-in_err-u32_le-clause-gives
returns-in_err-u32_le-clause-gives c =
    let p = err_from_is_err_and c.from_residual-in_err-u32_le.result c.from_residual-in_err-u32_le.ensures.1 in
    let body = c.in_ok-count.ensures.gives in
    let stacks = subst (λ (b : Bool). HoldsStacks body.inputs c.pass_body.new.cursor c.pass_stacks.new.cursor b) c.if-not-some.false (c.in_ok-some.ensures.gives body.inputs body.long) in
    rw (p.1, p.2) (λ version other. witnessed_lock_fails version _ _ _ _ _ _ body stacks c.in_err-u32_le.ensures.0)

pub returns-clause-gives : goal.returns-clause-gives
returns-clause-gives c =
    let body = c.in_ok-count.ensures.gives in
    let stacks = subst (λ (b : Bool). HoldsStacks body.inputs c.pass_body.new.cursor c.pass_stacks.new.cursor b) c.if-not-some.false (c.in_ok-some.ensures.gives body.inputs body.long) in
    λ version. witnessed_holds version _ _ _ _ _ _ _ c.in_ok-count.ensures.bytes body stacks c.in_ok-u32_le.ensures
