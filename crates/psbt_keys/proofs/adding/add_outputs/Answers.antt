use Rattle.std.proofs.Common.{◌+◌, ◌<◌, ◌++◌, [], length, drop, Some, refl, arith}
use Rattle.std.specs.List.{flat_map}
use Rattle.tx_codec.specs.declared.tx.TxOut.{TxOut}
use Rattle.psbt_codec.specs.Fault.{shown}
use Rattle.psbt_codec.specs.Psbt.{map_text}
use Rattle.psbt_keys.specs.Extended.{nth_map}
use Rattle.psbt_keys.specs.Origins.{due_for, output_dues, types_of_output}
use Rattle.psbt_keys.proofs.MapsLaws.{added_all, added_more, added_none, due_at, first_conflict, next_front}
use Rattle.psbt_keys.proofs.adding.add_outputs.Goals as goal

pub adding-init : goal.adding-init
adding-init c = λ maps behind are alone many e. added_none _ maps c.args.out.now.items behind c.args.cursor.now.rest e

pub adding-preserved : goal.adding-preserved
adding-preserved c = λ maps behind are alone many e.
    let i = c.adding.i in
    let f = λ (o : TxOut). due_for types_of_output c.args.keys.now.scripts (Some o.script) in
    let dues = output_dues c.args.keys.now c.args.outputs.now in
    let s = c.adding.invariant maps behind are alone many e in
    let lt : i < length maps = omega (arith, c.adding-test.true, many) in
    let h = c.in-Ok.ensures (nth_map maps i) (flat_map map_text (drop (i + 1) maps) ++ behind) (are i [] lt) (alone i [] lt) (next_front maps behind i c.adding.cursor.rest lt s.rest_is) in
    let is = due_at f c.args.outputs.now i c.index-outputs-i.result c.adding-test.true c.index-outputs-i.is in
    added_more dues maps c.args.out.now.items behind i c.adding.out.items c.adding.cursor.rest c.add_output.new.out.items c.add_output.new.cursor.rest (f c.index-outputs-i.result) s lt is h.0 h.1

pub returns-in-Err : goal.returns-in-Err
returns-in-Err c = λ maps behind are alone many e other.
    let i = c.adding.i in
    let f = λ (o : TxOut). due_for types_of_output c.args.keys.now.scripts (Some o.script) in
    let dues = output_dues c.args.keys.now c.args.outputs.now in
    let s = c.adding.invariant maps behind are alone many e in
    let lt : i < length maps = omega (arith, c.adding-test.true, many) in
    let h = c.in-Err.ensures (nth_map maps i) (flat_map map_text (drop (i + 1) maps) ++ behind) (are i [] lt) (alone i [] lt) (next_front maps behind i c.adding.cursor.rest lt s.rest_is) other in
    let is = due_at f c.args.outputs.now i c.index-outputs-i.result c.adding-test.true c.index-outputs-i.is in
    (shown i, h.1, h.2, first_conflict dues maps c.args.out.now.items behind i c.adding.out.items c.adding.cursor.rest (f c.index-outputs-i.result) (shown i) h.0 h.1 s lt is refl h.3)

pub returns : goal.returns
returns c = λ maps behind are alone many e.
    added_all _ maps c.args.out.now.items behind c.adding.i c.adding.out.items c.adding.cursor.rest (omega (arith, c.adding-test.false, many)) (c.adding.invariant maps behind are alone many e)
