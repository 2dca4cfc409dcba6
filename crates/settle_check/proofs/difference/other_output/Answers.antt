use Rattle.std.proofs.Common.{arith, below_more}
use Rattle.std.proofs.lemmas.Bool.{both_ways}
use Rattle.settle_check.proofs.FirstLaws.{first_other, same_entry, same_lists, stands}
use Rattle.settle_check.proofs.difference.other_output.Goals as goal

pub returns-then-not-pay_alike : goal.returns-then-not-pay_alike
returns-then-not-pay_alike c =
    let x = c.index-made-i.result in
    let y = c.index-given-i.result in
    first_other c.args.made.now c.args.given.now c.loop-i.i c.shown.result x y
    (stands c.args.made.now c.loop-i.i x c.loop-i-test.true c.index-made-i.is)
    (stands c.args.given.now c.loop-i.i y (omega (arith, c.loop-i-test.true, c.requires)) c.index-given-i.is)
    (λ e. both_ways c.pay_alike.result c.if-not-pay_alike.true (c.pay_alike.ensures.1 e)) c.loop-i.invariant c.shown.ensures

pub loop-i-preserved : goal.loop-i-preserved
loop-i-preserved c =
    let x = c.index-made-i.result in
    let y = c.index-given-i.result in
    below_more _ _ c.loop-i.invariant
    (same_entry _ _ x y (stands c.args.made.now c.loop-i.i x c.loop-i-test.true c.index-made-i.is)
    (stands c.args.given.now c.loop-i.i y (omega (arith, c.loop-i-test.true, c.requires)) c.index-given-i.is)
    (c.pay_alike.ensures.0 c.if-not-pay_alike.false))

pub returns : goal.returns
returns c = same_lists c.args.made.now c.args.given.now c.requires (λ k lt. c.loop-i.invariant k (omega (arith, lt, c.loop-i-test.false)))
