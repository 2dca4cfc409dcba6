use Rattle.std.proofs.Common.{◌≡◌, ◌+◌, false, List, [], ◌∷◌, ◌++◌, ap, ◌∙◌}
use Rattle.std.proofs.lemmas.Result.{err_from_is_err_and}
use Rattle.json_fields.specs.Fields.{each_from, is_among}
use Rattle.keys_text.specs.Entries.{entries_of, scripts_of}
use Rattle.keys_text.specs.KeysText.{entry_behind}
use Rattle.keys_text.specs.PlainKeys.{PlainEntry}
use Rattle.keys_text.specs.Stores.{StoresEntry}
use Rattle.json_fields.proofs.Loops.{goes_on, ends, is_done, rest_of, stored_first}
use Rattle.keys_text.proofs.Held.{added}
use Rattle.keys_text.proofs.Rules.{entry_keeps}
use Rattle.keys_text.proofs.Stored.{stored_behind}
use Rattle.keys_text.proofs.entries.add_entries.Goals as goal

pub returns-in_err-script-clause-gives : goal.returns-in_err-script-clause-gives
returns-in_err-script-clause-gives c =
    let p = err_from_is_err_and c.from_residual.result c.from_residual.ensures.1 in
    rw (p.1, p.2) (ends _ c.in_err-script.field-0.0 entry_behind _ _ _ c.value-item.result _ c.loop-value-test.true c.value-item.is c.in_err-script.ensures.gives c.loop-value.invariant.read)

pub returns-in_err-script-clause-short : goal.returns-in_err-script-clause-short
returns-in_err-script-clause-short c m =
    let p = err_from_is_err_and c.from_residual.result c.from_residual.ensures.1 in
    stored_first StoresEntry _ _ c.value-item.result c.loop-value-test.true c.value-item.is c.loop-value.invariant.stores (c.in_err-script.ensures.short (cc (p.1, p.2, m)))

pub returns-in_err-insert-clause-short : goal.returns-in_err-insert-clause-short
returns-in_err-insert-clause-short c m =
    stored_first StoresEntry _ _ c.value-item.result c.loop-value-test.true c.value-item.is c.loop-value.invariant.stores (stored_behind _ _ _ c.in_ok-script.ensures.gives)

pub loop-value-preserved : goal.loop-value-preserved
loop-value-preserved c =
    let keeps = entry_keeps _ _ _ c.in_ok-script.ensures.gives in
    let front = entries_of c.loop-value.scripts.entries in
    let fresh : is_among (scripts_of front) c.script.inside.script.items ≡ false = ap (λ (e : PlainEntry). is_among (scripts_of front) e.script) c.script.view_is ∙ keeps.1 in
    let more : entries_of c.insert.new.self.entries ≡ front ++ c.in_ok-script.field-0 ∷ [] =
    added c.loop-value.scripts.entries c.insert.new.self.entries c.script.inside.script c.script.inside.known fresh c.in_ok-insert.ensures.entries ∙ ap (λ (e : PlainEntry). front ++ e ∷ []) c.script.view_is in
    record {
      read = ap (λ (es : List PlainEntry). each_from entry_behind es (rest_of c.args.values.now (c.loop-value.value-index + 1))) more
          ∙ goes_on entry_behind front c.args.values.now c.loop-value.value-index c.value-item.result c.in_ok-script.field-0 _ c.loop-value-test.true c.value-item.is c.in_ok-script.ensures.gives c.loop-value.invariant.read;
      stores = λ _. stored_first StoresEntry _ _ c.value-item.result c.loop-value-test.true c.value-item.is c.loop-value.invariant.stores (stored_behind _ _ _ c.in_ok-script.ensures.gives);
    }

pub returns-clause-gives : goal.returns-clause-gives
returns-clause-gives c = is_done entry_behind _ _ _ _ c.loop-value-test.false c.loop-value.invariant.read
