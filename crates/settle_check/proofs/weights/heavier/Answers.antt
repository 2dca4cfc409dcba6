use Rattle.std.specs.Prelude.{slice_index_or}
use Rattle.std.proofs.Common.{arith, ap, below_more}
use Rattle.std.proofs.lemmas.Option.{slice_get-get_or}
use Rattle.tx_codec.specs.Transaction.{Transaction}
use Rattle.settle_check.proofs.WeightLaws.{read_input}
use Rattle.settle_check.proofs.FirstLaws.{all_within, first_heavier, within_there}
use Rattle.settle_check.proofs.weights.heavier.Goals as goal

pub returns-then-declared-i : goal.returns-then-declared-i
returns-then-declared-i c =
    let i = c.loop-i.i in
    let x = c.index.result.now in
    let most = slice_index_or c.args.declared.now i 0 in
    let h = read_input c.args.signed.now c.signed.inside.inputs.items c.signed.inside.segwit i c.true_weight-weight.result x (ap (λ (t : Transaction). t.inputs) c.signed.view_is) (ap (λ (t : Transaction). t.segwit) c.signed.view_is) (omega (arith, c.loop-i-test.true, c.requires)) c.index.ensures c.true_weight-weight.ensures in
    let told = slice_get-get_or c.args.declared.now i 0 c.loop-i-test.true in
    first_heavier c.args.declared.now c.args.signed.now i c.shown.result most c.true_weight-weight.result x told h.0 h.1 c.if-declared-i.true c.loop-i.invariant c.shown.ensures

pub loop-i-preserved : goal.loop-i-preserved
loop-i-preserved c =
    let i = c.loop-i.i in
    let x = c.index.result.now in
    let most = slice_index_or c.args.declared.now i 0 in
    let h = read_input c.args.signed.now c.signed.inside.inputs.items c.signed.inside.segwit i c.true_weight-weight.result x (ap (λ (t : Transaction). t.inputs) c.signed.view_is) (ap (λ (t : Transaction). t.segwit) c.signed.view_is) (omega (arith, c.loop-i-test.true, c.requires)) c.index.ensures c.true_weight-weight.ensures in
    let told = slice_get-get_or c.args.declared.now i 0 c.loop-i-test.true in
    below_more _ _ c.loop-i.invariant (within_there c.args.declared.now c.args.signed.now i most c.true_weight-weight.result x told h.0 h.1 c.if-declared-i.false)

pub returns : goal.returns
returns c = all_within c.args.declared.now c.args.signed.now c.loop-i.i c.loop-i-test.false c.loop-i.invariant
