use Rattle.std.proofs.Common.{◌+◌, ◌<◌, ◌++◌, [], length, drop, refl, arith}
use Rattle.std.specs.List.{flat_map}
use Rattle.tx_codec.specs.declared.tx.TxIn.{TxIn}
use Rattle.psbt_codec.specs.Fault.{shown}
use Rattle.psbt_codec.specs.Psbt.{map_text}
use Rattle.psbt_codec.specs.declared.psbt.Spent.{Spent}
use Rattle.psbt_keys.specs.Extended.{nth_map}
use Rattle.psbt_keys.specs.Origins.{due_for, input_dues, spent_script, types_of_input}
use Rattle.psbt_keys.proofs.MapsLaws.{added_all, added_more, added_none, due_at_both, first_conflict, next_front}
use Rattle.psbt_keys.proofs.adding.add_inputs.Goals as goal

pub adding-init : goal.adding-init
adding-init c = λ maps behind are alone many known e. added_none _ maps c.args.out.now.items behind c.args.cursor.now.rest e

pub adding-preserved : goal.adding-preserved
adding-preserved c = λ maps behind are alone many known e.
    let i = c.adding.i in
    let inputs = c.args.inputs.now in
    let spent = c.args.spent.now in
    let a = c.index-inputs-i.result in
    let b = c.index-spent-i.result in
    let in_inputs : i < length inputs = omega (arith, c.adding-test.true, c.min-i-end.ensures) in
    let in_spent : i < length spent = omega (arith, c.adding-test.true, c.min-i-end.ensures) in
    let f = λ (s : TxIn × Spent). due_for types_of_input c.args.keys.now.scripts (spent_script s) in
    let s = c.adding.invariant maps behind are alone many known e in
    let lt : i < length maps = omega (arith, in_inputs, many) in
    let h = c.in-Ok.ensures (nth_map maps i) (flat_map map_text (drop (i + 1) maps) ++ behind) (are i [] lt) (alone i [] lt) (next_front maps behind i c.adding.cursor.rest lt s.rest_is) in
    let is = due_at_both f inputs spent i a b in_inputs in_spent c.index-inputs-i.is c.index-spent-i.is in
    added_more (input_dues c.args.keys.now inputs spent) maps c.args.out.now.items behind i c.adding.out.items c.adding.cursor.rest c.add_input.new.out.items c.add_input.new.cursor.rest (f (a, b)) s lt is h.0 h.1

pub returns-in-Err : goal.returns-in-Err
returns-in-Err c = λ maps behind are alone many known e other.
    let i = c.adding.i in
    let inputs = c.args.inputs.now in
    let spent = c.args.spent.now in
    let a = c.index-inputs-i.result in
    let b = c.index-spent-i.result in
    let in_inputs : i < length inputs = omega (arith, c.adding-test.true, c.min-i-end.ensures) in
    let in_spent : i < length spent = omega (arith, c.adding-test.true, c.min-i-end.ensures) in
    let f = λ (s : TxIn × Spent). due_for types_of_input c.args.keys.now.scripts (spent_script s) in
    let s = c.adding.invariant maps behind are alone many known e in
    let lt : i < length maps = omega (arith, in_inputs, many) in
    let h = c.in-Err.ensures (nth_map maps i) (flat_map map_text (drop (i + 1) maps) ++ behind) (are i [] lt) (alone i [] lt) (next_front maps behind i c.adding.cursor.rest lt s.rest_is) other in
    let is = due_at_both f inputs spent i a b in_inputs in_spent c.index-inputs-i.is c.index-spent-i.is in
    (shown i, h.1, h.2, first_conflict (input_dues c.args.keys.now inputs spent) maps c.args.out.now.items behind i c.adding.out.items c.adding.cursor.rest (f (a, b)) (shown i) h.0 h.1 s lt is refl h.3)

pub returns : goal.returns
returns c = λ maps behind are alone many known e.
    added_all _ maps c.args.out.now.items behind c.adding.i c.adding.out.items c.adding.cursor.rest (omega (arith, c.adding-test.false, c.min-i-end.ensures, many, known)) (c.adding.invariant maps behind are alone many known e)
