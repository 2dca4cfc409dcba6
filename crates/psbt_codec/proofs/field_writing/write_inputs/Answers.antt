use Rattle.std.proofs.Common.{◌≡◌, ◌∙◌, ◌++◌, ◌+◌, ◌<◌, List, ℕ, ap, sym, take, get_or, length, add-one, append_assoc, arith}
use Rattle.std.specs.List.{flat_map, zip}
use Rattle.tx_codec.specs.declared.tx.TxIn.{TxIn}
use Rattle.psbt_codec.specs.declared.psbt.Spent.{Spent}
use Rattle.psbt_codec.specs.Psbt.{map_text, input_fields}
use Rattle.psbt_codec.proofs.FieldLoops.{zip_texts_all, zip_texts_more}
use Rattle.psbt_codec.proofs.field_writing.write_inputs.Goals as goal

abbrev text : TxIn × Spent → List ℕ
text k = map_text (input_fields k)

pub loop-index-preserved : goal.loop-index-preserved
loop-index-preserved c =
    let i = c.loop-index.index in
    let inputs = c.args.inputs.now in
    let spent = c.args.spent.now in
    let a = c.index-inputs-index.result in
    let b = c.index-spent-index.result in
    let in_inputs : i < length inputs = omega (arith, c.loop-index-test.true, c.min-index-end.ensures) in
    let in_spent : i < length spent = omega (arith, c.loop-index-test.true, c.min-index-end.ensures) in
    let more : flat_map text (take (i + 1) (zip inputs spent)) ≡ flat_map text (take i (zip inputs spent)) ++ text (get_or inputs i a, get_or spent i b) = rw add-one (zip_texts_more text inputs spent i a b in_inputs in_spent) in
    let same : text (a, b) ≡ text (get_or inputs i a, get_or spent i b) = ap (λ (x : TxIn). text (x, b)) c.index-inputs-index.is ∙ ap (λ (y : Spent). text (get_or inputs i a, y)) c.index-spent-index.is in
    c.in_ok-write_input.ensures
    ∙ ap (λ (l : List ℕ). l ++ text (a, b)) c.loop-index.invariant
    ∙ append_assoc c.args.out.now.items (flat_map text (take i (zip inputs spent))) (text (a, b))
    ∙ ap (λ (l : List ℕ). c.args.out.now.items ++ (flat_map text (take i (zip inputs spent)) ++ l)) same
    ∙ ap (λ (l : List ℕ). c.args.out.now.items ++ l) (sym more)

pub returns : goal.returns
returns c = c.loop-index.invariant ∙ ap (λ (l : List ℕ). c.args.out.now.items ++ l) (zip_texts_all text c.args.inputs.now c.args.spent.now c.loop-index.index (omega (arith, c.loop-index-test.false, c.min-index-end.ensures)))
