use Rattle.std.proofs.Common.{◌∙◌, map, sym, arith, below_more}
use Rattle.std.proofs.lemmas.List.{length-map}
use Rattle.settle_check.specs.Settled.{bare_input}
use Rattle.settle_check.proofs.AlikeLaws.{alike_inputs, other_inputs}
use Rattle.settle_check.proofs.FirstLaws.{first_other, mapped, same_entry, same_lists, stands}
use Rattle.settle_check.proofs.difference.other_input.Goals as goal

pub returns-then-not-spend_alike : goal.returns-then-not-spend_alike
returns-then-not-spend_alike c =
    let x = c.index-made-i.result in
    let y = c.index-given-i.result in
    first_other (map bare_input c.args.made.now) (map bare_input c.args.given.now) c.loop-i.i c.shown.result (bare_input x) (bare_input y)
    (mapped bare_input c.args.made.now c.loop-i.i x (stands c.args.made.now c.loop-i.i x c.loop-i-test.true c.index-made-i.is))
    (mapped bare_input c.args.given.now c.loop-i.i y (stands c.args.given.now c.loop-i.i y (omega (arith, c.loop-i-test.true, c.requires)) c.index-given-i.is))
    (other_inputs x y c.spend_alike.result c.spend_alike.ensures c.if-not-spend_alike.true) c.loop-i.invariant c.shown.ensures

pub loop-i-preserved : goal.loop-i-preserved
loop-i-preserved c =
    let x = c.index-made-i.result in
    let y = c.index-given-i.result in
    below_more _ _ c.loop-i.invariant
    (same_entry _ _ (bare_input x) (bare_input y)
    (mapped bare_input c.args.made.now c.loop-i.i x (stands c.args.made.now c.loop-i.i x c.loop-i-test.true c.index-made-i.is))
    (mapped bare_input c.args.given.now c.loop-i.i y (stands c.args.given.now c.loop-i.i y (omega (arith, c.loop-i-test.true, c.requires)) c.index-given-i.is))
    (alike_inputs x y c.spend_alike.result c.spend_alike.ensures c.if-not-spend_alike.false))

pub returns : goal.returns
returns c =
    let made = length-map c.args.made.now bare_input in
    let given = length-map c.args.given.now bare_input in
    same_lists (map bare_input c.args.made.now) (map bare_input c.args.given.now) (made ∙ c.requires ∙ sym given)
    (λ k lt. c.loop-i.invariant k (omega (arith, lt, made, c.loop-i-test.false)))
