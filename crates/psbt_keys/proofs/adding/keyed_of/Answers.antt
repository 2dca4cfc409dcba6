use Rattle.std.proofs.Common.{◌∙◌, ◌++◌, [], ap}
use Rattle.std.specs.List.{flat_map}
use Rattle.std.proofs.lemmas.List.{take_rest}
use Rattle.std.proofs.lemmas.Result.{err_from_is_err_and}
use Rattle.fund_base.specs.Cursor.{At}
use Rattle.psbt_codec.specs.Psbt.{map_text}
use Rattle.signed_psbt.proofs.WholeLaws.{has_magic}
use Rattle.psbt_keys.proofs.SamePayment.{same_by}
use Rattle.psbt_keys.proofs.WholeLaws.{after_global, after_inputs, after_outputs, at_global, fault_in_global, given, in_inputs, in_outputs, keyed_by, many_inputs, many_outputs, many_spent}
use Rattle.psbt_keys.proofs.adding.keyed_of.Goals as goal

pub slice_bounds-new-count : goal.slice_bounds-new-count
slice_bounds-new-count c = has_magic c.args.bytes.now c.args.psbt.now c.requires

pub returns-in_err-add_global-clause-fault : goal.returns-in_err-add_global-clause-fault
returns-in_err-add_global-clause-fault c =
    let k = c.args.keys.now in
    let bytes = c.args.bytes.now in
    let p = c.args.psbt.now in
    let r = c.requires in
    let g = given bytes p r in
    let front = at_global bytes p r c.new-cursor.result.rest (ap (λ (a : At). a.rest) c.new-cursor.ensures ∙ take_rest bytes 5) in
    let e = err_from_is_err_and c.from_residual-in_err-add_global.result c.from_residual-in_err-add_global.ensures.1 in
    let h = c.in_err-add_global.ensures r.global (flat_map map_text r.inputs ++ flat_map map_text r.outputs) g.global_is.are g.global_is.alone front in
    rw (e.1, e.2) (λ other. fault_in_global k bytes p r c.in_err-add_global.field-0.0 (h other))

pub returns-in_err-add_inputs-clause-fault : goal.returns-in_err-add_inputs-clause-fault
returns-in_err-add_inputs-clause-fault c =
    let k = c.args.keys.now in
    let bytes = c.args.bytes.now in
    let p = c.args.psbt.now in
    let r = c.requires in
    let g = given bytes p r in
    let front = at_global bytes p r c.new-cursor.result.rest (ap (λ (a : At). a.rest) c.new-cursor.ensures ∙ take_rest bytes 5) in
    let first = after_global k bytes p r c.in_ok-out.out.items c.add_global.new.out.items c.add_global.new.cursor.rest c.in_ok-out.ensures.items (c.in_ok-add_global.ensures r.global (flat_map map_text r.inputs ++ flat_map map_text r.outputs) g.global_is.are g.global_is.alone front) in
    let ins = c.inputs_of-inputs.ensures in
    let sp = c.spent_of-spent.ensures in
    let os = c.outputs_of-outputs.ensures in
    let in_len = many_inputs bytes p r c.inputs_of-inputs.result.now ins in
    let sp_len = many_spent bytes p r c.spent_of-spent.result.now sp in
    let os_len = many_outputs bytes p r c.outputs_of-outputs.result.now os in
    let e = err_from_is_err_and c.from_residual-in_err-add_inputs.result c.from_residual-in_err-add_inputs.ensures.1 in
    let h = c.in_err-add_inputs.ensures r.inputs (flat_map map_text r.outputs) g.inputs_are.are g.inputs_are.alone in_len sp_len first.left in
    rw (e.1, e.2) (λ other. in_inputs k bytes p r c.add_global.new.out.items c.add_global.new.cursor.rest c.inputs_of-inputs.result.now c.spent_of-spent.result.now c.in_err-add_inputs.field-0.0 ins sp first (h other))

pub returns-in_err-add_outputs-clause-fault : goal.returns-in_err-add_outputs-clause-fault
returns-in_err-add_outputs-clause-fault c =
    let k = c.args.keys.now in
    let bytes = c.args.bytes.now in
    let p = c.args.psbt.now in
    let r = c.requires in
    let g = given bytes p r in
    let front = at_global bytes p r c.new-cursor.result.rest (ap (λ (a : At). a.rest) c.new-cursor.ensures ∙ take_rest bytes 5) in
    let first = after_global k bytes p r c.in_ok-out.out.items c.add_global.new.out.items c.add_global.new.cursor.rest c.in_ok-out.ensures.items (c.in_ok-add_global.ensures r.global (flat_map map_text r.inputs ++ flat_map map_text r.outputs) g.global_is.are g.global_is.alone front) in
    let ins = c.inputs_of-inputs.ensures in
    let sp = c.spent_of-spent.ensures in
    let os = c.outputs_of-outputs.ensures in
    let in_len = many_inputs bytes p r c.inputs_of-inputs.result.now ins in
    let sp_len = many_spent bytes p r c.spent_of-spent.result.now sp in
    let os_len = many_outputs bytes p r c.outputs_of-outputs.result.now os in
    let second = after_inputs k bytes p r c.add_global.new.out.items c.add_inputs.new.out.items c.add_inputs.new.cursor.rest c.inputs_of-inputs.result.now c.spent_of-spent.result.now ins sp (c.in_ok-add_inputs.ensures r.inputs (flat_map map_text r.outputs) g.inputs_are.are g.inputs_are.alone in_len sp_len first.left) in
    let e = err_from_is_err_and c.from_residual-in_err-add_outputs.result c.from_residual-in_err-add_outputs.ensures.1 in
    let h = c.in_err-add_outputs.ensures r.outputs [] g.outputs_are.are g.outputs_are.alone os_len second.left in
    rw (e.1, e.2) (λ other. in_outputs k bytes p r c.add_global.new.out.items c.add_inputs.new.out.items c.add_global.new.cursor.rest c.add_inputs.new.cursor.rest c.outputs_of-outputs.result.now c.in_err-add_outputs.field-0.0 os first second (h other))

pub returns-clause-keyed : goal.returns-clause-keyed
returns-clause-keyed c =
    let k = c.args.keys.now in
    let bytes = c.args.bytes.now in
    let p = c.args.psbt.now in
    let r = c.requires in
    let g = given bytes p r in
    let front = at_global bytes p r c.new-cursor.result.rest (ap (λ (a : At). a.rest) c.new-cursor.ensures ∙ take_rest bytes 5) in
    let first = after_global k bytes p r c.in_ok-out.out.items c.add_global.new.out.items c.add_global.new.cursor.rest c.in_ok-out.ensures.items (c.in_ok-add_global.ensures r.global (flat_map map_text r.inputs ++ flat_map map_text r.outputs) g.global_is.are g.global_is.alone front) in
    let ins = c.inputs_of-inputs.ensures in
    let sp = c.spent_of-spent.ensures in
    let os = c.outputs_of-outputs.ensures in
    let in_len = many_inputs bytes p r c.inputs_of-inputs.result.now ins in
    let sp_len = many_spent bytes p r c.spent_of-spent.result.now sp in
    let os_len = many_outputs bytes p r c.outputs_of-outputs.result.now os in
    let second = after_inputs k bytes p r c.add_global.new.out.items c.add_inputs.new.out.items c.add_inputs.new.cursor.rest c.inputs_of-inputs.result.now c.spent_of-spent.result.now ins sp (c.in_ok-add_inputs.ensures r.inputs (flat_map map_text r.outputs) g.inputs_are.are g.inputs_are.alone in_len sp_len first.left) in
    let third = after_outputs k bytes p r c.add_inputs.new.out.items c.add_outputs.new.out.items c.add_outputs.new.cursor.rest c.outputs_of-outputs.result.now os (c.in_ok-add_outputs.ensures r.outputs [] g.outputs_are.are g.outputs_are.alone os_len second.left) in
    keyed_by k bytes p r c.add_global.new.out.items c.add_inputs.new.out.items c.add_outputs.new.out.items first.written second.written third

pub returns-clause-same : goal.returns-clause-same
returns-clause-same c =
    let k = c.args.keys.now in
    let bytes = c.args.bytes.now in
    let p = c.args.psbt.now in
    let r = c.requires in
    let g = given bytes p r in
    let front = at_global bytes p r c.new-cursor.result.rest (ap (λ (a : At). a.rest) c.new-cursor.ensures ∙ take_rest bytes 5) in
    let first = after_global k bytes p r c.in_ok-out.out.items c.add_global.new.out.items c.add_global.new.cursor.rest c.in_ok-out.ensures.items (c.in_ok-add_global.ensures r.global (flat_map map_text r.inputs ++ flat_map map_text r.outputs) g.global_is.are g.global_is.alone front) in
    let ins = c.inputs_of-inputs.ensures in
    let sp = c.spent_of-spent.ensures in
    let os = c.outputs_of-outputs.ensures in
    let in_len = many_inputs bytes p r c.inputs_of-inputs.result.now ins in
    let sp_len = many_spent bytes p r c.spent_of-spent.result.now sp in
    let os_len = many_outputs bytes p r c.outputs_of-outputs.result.now os in
    let second = after_inputs k bytes p r c.add_global.new.out.items c.add_inputs.new.out.items c.add_inputs.new.cursor.rest c.inputs_of-inputs.result.now c.spent_of-spent.result.now ins sp (c.in_ok-add_inputs.ensures r.inputs (flat_map map_text r.outputs) g.inputs_are.are g.inputs_are.alone in_len sp_len first.left) in
    let third = after_outputs k bytes p r c.add_inputs.new.out.items c.add_outputs.new.out.items c.add_outputs.new.cursor.rest c.outputs_of-outputs.result.now os (c.in_ok-add_outputs.ensures r.outputs [] g.outputs_are.are g.outputs_are.alone os_len second.left) in
    same_by k bytes p r c.add_global.new.out.items c.add_inputs.new.out.items c.add_outputs.new.out.items first.written second.written third
