use Rattle.std.specs.Prelude.{slice_index_or}
use Rattle.std.proofs.Common.{arith, ◌≤◌, ℕ, ap}
use Rattle.std.proofs.lemmas.Option.{slice_get-get_or}
use Rattle.tx_codec.specs.Transaction.{Transaction}
use Rattle.settle_check.proofs.WeightLaws.{read_input}
use Rattle.settle_check.specs.Settled.{true_weight_of}
use Rattle.settle_check.proofs.FirstLaws.{read_all}
use Rattle.settle_check.proofs.SpareLaws.{spare_next}
use Rattle.settle_check.proofs.weights.spare.Goals as goal

pub loop-i-preserved : goal.loop-i-preserved
loop-i-preserved c =
    let i = c.loop-i.i in
    let x = c.index.result.now in
    let most = slice_index_or c.args.declared.now i 0 in
    let h = read_input c.args.signed.now c.signed.inside.inputs.items c.signed.inside.segwit i c.true_weight.result x (ap (λ (t : Transaction). t.inputs) c.signed.view_is) (ap (λ (t : Transaction). t.segwit) c.signed.view_is) (omega (arith, c.loop-i-test.true, c.requires.count)) c.index.ensures c.true_weight.ensures in
    let told = slice_get-get_or c.args.declared.now i 0 c.loop-i-test.true in
    let le = c.requires.within i most x told h.0 in
    spare_next (true_weight_of c.args.signed.now.segwit) c.args.declared.now c.args.signed.now.inputs i c.loop-i.spare most c.true_weight.result x told h.0 h.1 (omega (arith, le, h.1)) (read_all (λ (w : ℕ). w ≤ 400_000) c.args.declared.now i most c.requires.most told) c.loop-i.invariant
