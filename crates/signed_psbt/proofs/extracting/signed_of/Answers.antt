use Rattle.std.proofs.Common.{◌∙◌, ◌++◌, List, ap, length, not, refl, subst, sym}
use Rattle.std.specs.List.{flat_map}
use Rattle.std.proofs.lemmas.List.{take_rest}
use Rattle.std.proofs.lemmas.Result.{err_from_is_err_and}
use Rattle.fund_base.specs.Cursor.{At}
use Rattle.psbt_codec.specs.PartialTransaction.{PartialTransaction}
use Rattle.psbt_codec.specs.Psbt.{map_text}
use Rattle.tx_codec.specs.Reading.{are_empty}
use Rattle.tx_codec.specs.Transaction.{Transaction}
use Rattle.tx_codec.specs.declared.tx.TxIn.{TxIn}
use Rattle.signed_psbt.specs.Signed.{AreFinal}
use Rattle.signed_psbt.proofs.OnlyLaws.{as_made, memory_only, no_fault, same_tx}
use Rattle.signed_psbt.proofs.WholeLaws.{IsMade, behind_magic, fault_by, form_by, given, has_magic, signed_by, text_by}
use Rattle.signed_psbt.proofs.extracting.signed_of.Goals as goal

pub slice_bounds-new-count : goal.slice_bounds-new-count
slice_bounds-new-count c = has_magic c.args.bytes.now c.args.psbt c.requires

pub returns-in_err-inputs-clause-fault : goal.returns-in_err-inputs-clause-fault
returns-in_err-inputs-clause-fault c =
    let bytes = c.args.bytes.now in
    let p = c.args.psbt in
    let r = c.requires in
    let g = given bytes p r in
    let whole = c.tx.view_is ∙ ap (λ (x : PartialTransaction). x.tx) c.psbt.view_is in
    let inputs = c.deref.ensures.value ∙ ap (λ (t : Transaction). t.inputs) whole in
    let front = ap (λ (a : At). a.rest) c.new-cursor.ensures ∙ take_rest bytes 5 ∙ behind_magic bytes p r in
    let v = c.value_at-version.ensures r.global (flat_map map_text r.inputs ++ flat_map map_text r.outputs) g.global_are front in
    let many = g.plain.many ∙ sym (ap (λ (l : List TxIn). length l) inputs) in
    let e = err_from_is_err_and c.from_residual.result c.from_residual.ensures.1 in
    let h = c.in_err-inputs.ensures r.inputs (flat_map map_text r.outputs) g.plain.are many v.1 in
    rw (e.1, e.2) (λ other. fault_by bytes p r c.in_err-inputs.field-0.0 (h other))

pub returns-clause-found : goal.returns-clause-found
returns-clause-found c =
    let bytes = c.args.bytes.now in
    let p = c.args.psbt in
    let r = c.requires in
    let g = given bytes p r in
    let whole = c.tx.view_is ∙ ap (λ (x : PartialTransaction). x.tx) c.psbt.view_is in
    let inputs = c.deref.ensures.value ∙ ap (λ (t : Transaction). t.inputs) whole in
    let front = ap (λ (a : At). a.rest) c.new-cursor.ensures ∙ take_rest bytes 5 ∙ behind_magic bytes p r in
    let v = c.value_at-version.ensures r.global (flat_map map_text r.inputs ++ flat_map map_text r.outputs) g.global_are front in
    let many = g.plain.many ∙ sym (ap (λ (l : List TxIn). length l) inputs) in
    let made = c.in_ok-inputs.inputs.items in
    let final = subst (λ (l : List TxIn). AreFinal l r.inputs made) inputs (c.in_ok-inputs.ensures r.inputs (flat_map map_text r.outputs) g.plain.are many v.1) in
    let t : Transaction = record { version = c.tx.inside.version; inputs = made; outputs = c.tx.inside.outputs.items; locktime = c.tx.inside.locktime; segwit = not c.are_empty-segwit.result } in
    let m : IsMade p r.inputs t = record {
      version = ap (λ (x : Transaction). x.version) whole;
      locktime = ap (λ (x : Transaction). x.locktime) whole;
      outputs = ap (λ (x : Transaction). x.outputs) whole;
      final = final;
      form = form_by made (not c.are_empty-segwit.result) c.are_empty-segwit.result refl (c.are_empty-segwit.ensures ∙ ap are_empty c.deref-2.ensures.value);
    } in
    signed_by bytes p r t m

pub returns-clause-text : goal.returns-clause-text
returns-clause-text c =
    let bytes = c.args.bytes.now in
    let p = c.args.psbt in
    let r = c.requires in
    let g = given bytes p r in
    let whole = c.tx.view_is ∙ ap (λ (x : PartialTransaction). x.tx) c.psbt.view_is in
    let inputs = c.deref.ensures.value ∙ ap (λ (t : Transaction). t.inputs) whole in
    let front = ap (λ (a : At). a.rest) c.new-cursor.ensures ∙ take_rest bytes 5 ∙ behind_magic bytes p r in
    let v = c.value_at-version.ensures r.global (flat_map map_text r.inputs ++ flat_map map_text r.outputs) g.global_are front in
    let many = g.plain.many ∙ sym (ap (λ (l : List TxIn). length l) inputs) in
    let made = c.in_ok-inputs.inputs.items in
    let final = subst (λ (l : List TxIn). AreFinal l r.inputs made) inputs (c.in_ok-inputs.ensures r.inputs (flat_map map_text r.outputs) g.plain.are many v.1) in
    let t : Transaction = record { version = c.tx.inside.version; inputs = made; outputs = c.tx.inside.outputs.items; locktime = c.tx.inside.locktime; segwit = not c.are_empty-segwit.result } in
    let m : IsMade p r.inputs t = record {
      version = ap (λ (x : Transaction). x.version) whole;
      locktime = ap (λ (x : Transaction). x.locktime) whole;
      outputs = ap (λ (x : Transaction). x.outputs) whole;
      final = final;
      form = form_by made (not c.are_empty-segwit.result) c.are_empty-segwit.result refl (c.are_empty-segwit.ensures ∙ ap are_empty c.deref-2.ensures.value);
    } in
    text_by bytes p r t m

pub returns-in_err-inputs-clause-only : goal.returns-in_err-inputs-clause-only
returns-in_err-inputs-clause-only c = λ u s.
    let q = as_made c.args.bytes.now c.args.psbt u c.requires s in
    let bytes = c.args.bytes.now in
    let p = c.args.psbt in
    let r = q.readable in
    let g = given bytes p r in
    let whole = c.tx.view_is ∙ ap (λ (x : PartialTransaction). x.tx) c.psbt.view_is in
    let inputs = c.deref.ensures.value ∙ ap (λ (t : Transaction). t.inputs) whole in
    let front = ap (λ (a : At). a.rest) c.new-cursor.ensures ∙ take_rest bytes 5 ∙ behind_magic bytes p r in
    let v = c.value_at-version.ensures r.global (flat_map map_text r.inputs ++ flat_map map_text r.outputs) g.global_are front in
    let many = g.plain.many ∙ sym (ap (λ (l : List TxIn). length l) inputs) in
    let e = err_from_is_err_and c.from_residual.result c.from_residual.ensures.1 in
    let h = c.in_err-inputs.ensures r.inputs (flat_map map_text r.outputs) g.plain.are many v.1 in
    rw (e.1, e.2) (memory_only c.in_err-inputs.field-0.0 (λ other. no_fault p.tx.inputs r.inputs u.inputs c.in_err-inputs.field-0.0 q.made.final (h other)))

pub returns-clause-only : goal.returns-clause-only
returns-clause-only c = λ u s.
    let q = as_made c.args.bytes.now c.args.psbt u c.requires s in
    let bytes = c.args.bytes.now in
    let p = c.args.psbt in
    let r = q.readable in
    let g = given bytes p r in
    let whole = c.tx.view_is ∙ ap (λ (x : PartialTransaction). x.tx) c.psbt.view_is in
    let inputs = c.deref.ensures.value ∙ ap (λ (t : Transaction). t.inputs) whole in
    let front = ap (λ (a : At). a.rest) c.new-cursor.ensures ∙ take_rest bytes 5 ∙ behind_magic bytes p r in
    let v = c.value_at-version.ensures r.global (flat_map map_text r.inputs ++ flat_map map_text r.outputs) g.global_are front in
    let many = g.plain.many ∙ sym (ap (λ (l : List TxIn). length l) inputs) in
    let made = c.in_ok-inputs.inputs.items in
    let final = subst (λ (l : List TxIn). AreFinal l r.inputs made) inputs (c.in_ok-inputs.ensures r.inputs (flat_map map_text r.outputs) g.plain.are many v.1) in
    let t : Transaction = record { version = c.tx.inside.version; inputs = made; outputs = c.tx.inside.outputs.items; locktime = c.tx.inside.locktime; segwit = not c.are_empty-segwit.result } in
    let m : IsMade p r.inputs t = record {
      version = ap (λ (x : Transaction). x.version) whole;
      locktime = ap (λ (x : Transaction). x.locktime) whole;
      outputs = ap (λ (x : Transaction). x.outputs) whole;
      final = final;
      form = form_by made (not c.are_empty-segwit.result) c.are_empty-segwit.result refl (c.are_empty-segwit.ensures ∙ ap are_empty c.deref-2.ensures.value);
    } in
    same_tx p r.inputs t u m q.made
