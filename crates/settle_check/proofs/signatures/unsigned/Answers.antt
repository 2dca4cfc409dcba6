use Rattle.std.proofs.Common.{arith, below_more}
use Rattle.std.proofs.lemmas.Bool.{both_ways}
use Rattle.tx_codec.specs.declared.tx.TxIn.{TxIn}
use Rattle.settle_check.specs.Settled.{IsUnsigned}
use Rattle.settle_check.proofs.FirstLaws.{all_read, first_unsigned, signed_there, stands}
use Rattle.settle_check.proofs.signatures.unsigned.Goals as goal

pub returns-then-is_unsigned : goal.returns-then-is_unsigned
returns-then-is_unsigned c =
    let x = c.index-inputs-i.result in
    first_unsigned c.args.inputs.now c.loop-i.i c.shown.result x (stands c.args.inputs.now c.loop-i.i x c.loop-i-test.true c.index-inputs-i.is)
    (c.is_unsigned.ensures.0 c.if-is_unsigned.true) c.loop-i.invariant c.shown.ensures

pub loop-i-preserved : goal.loop-i-preserved
loop-i-preserved c =
    let x = c.index-inputs-i.result in
    below_more _ _ c.loop-i.invariant
    (signed_there c.args.inputs.now c.loop-i.i x (stands c.args.inputs.now c.loop-i.i x c.loop-i-test.true c.index-inputs-i.is) (λ u. both_ways c.is_unsigned.result c.if-is_unsigned.false (c.is_unsigned.ensures.1 u)))

pub returns : goal.returns
returns c = all_read (λ (i : TxIn). IsUnsigned i → ⊥) c.args.inputs.now (λ k lt x e u. c.loop-i.invariant k (omega (arith, lt, c.loop-i-test.false)) (x, e, u))
