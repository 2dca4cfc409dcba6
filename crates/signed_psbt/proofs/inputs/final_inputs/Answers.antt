use Rattle.std.proofs.Common.{◌+◌, ◌++◌, List, subst, sym}
use Rattle.std.specs.List.{flat_map}
use Rattle.psbt_codec.specs.Psbt.{map_text}
use Rattle.tx_codec.specs.declared.tx.TxIn.{TxIn}
use Rattle.signed_psbt.proofs.InputLaws.{MadeSoFar, first_fault, made_all, made_next, made_none, next_map}
use Rattle.signed_psbt.proofs.inputs.final_inputs.Goals as goal

pub making-init : goal.making-init
making-init c = λ maps behind are many e. subst (λ (l : List TxIn). MadeSoFar c.args.inputs.now maps behind 0 l c.args.cursor.now.rest) (sym c.new-made.ensures.items) (made_none c.args.inputs.now maps behind c.args.cursor.now.rest are e)

pub returns-in-Err : goal.returns-in-Err
returns-in-Err c = λ maps behind are many e other.
    let n = next_map c.args.inputs.now maps behind c.making.i c.making.made.items c.making.cursor.rest c.making-test.true many (c.making.invariant maps behind are many e) in
    first_fault maps behind c.making.i c.making.cursor.rest c.in-Err.fault n.0 (c.in-Err.ensures n.0.pairs (flat_map map_text n.0.left ++ behind) n.0.are n.0.rest_is other)

pub making-preserved : goal.making-preserved
making-preserved c = λ maps behind are many e.
    let s = c.making.invariant maps behind are many e in
    let n = next_map c.args.inputs.now maps behind c.making.i c.making.made.items c.making.cursor.rest c.making-test.true many s in
    let h = c.in-Ok.ensures n.0.pairs (flat_map map_text n.0.left ++ behind) n.0.are n.0.rest_is in
    let rest = c.final_input.new.cursor.rest in
    let next = made_next c.args.inputs.now maps behind c.making.i c.making.made.items c.making.cursor.rest rest c.index-inputs-i.result c.in-Ok.input c.making-test.true c.index-inputs-i.is s n.0 n.1 h.0 h.1 in
    subst (λ (l : List TxIn). MadeSoFar c.args.inputs.now maps behind (c.making.i + 1) l rest) (sym c.in_ok-push-in-Ok.ensures.items) next

pub returns : goal.returns
returns c = λ maps behind are many e. made_all c.args.inputs.now maps behind c.making.i c.making.made.items c.making.cursor.rest c.making-test.false many (c.making.invariant maps behind are many e)
