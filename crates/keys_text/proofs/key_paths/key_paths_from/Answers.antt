use Rattle.std.proofs.lemmas.Result.{err_from_is_err_and}
use Rattle.keys_text.specs.KeysText.{key_path_at}
use Rattle.keys_text.specs.Stores.{StoresKey}
use Rattle.json_fields.proofs.Loops.{goes_on, ends, is_done, stored_first}
use Rattle.keys_text.proofs.Stored.{key_stored}
use Rattle.keys_text.proofs.key_paths.key_paths_from.Goals as goal

pub returns-in_err-key-clause-gives : goal.returns-in_err-key-clause-gives
returns-in_err-key-clause-gives c =
    let p = err_from_is_err_and c.from_residual.result c.from_residual.ensures.1 in
    rw (p.1, p.2) (ends _ c.in_err-key.field-0.0 (λ _. key_path_at c.args.whole.now c.args.name.now) _ _ _ c.value-item.result _ c.loop-value-test.true c.value-item.is c.in_err-key.ensures.gives c.loop-value.invariant.read)

pub returns-in_err-key-clause-short : goal.returns-in_err-key-clause-short
returns-in_err-key-clause-short c m =
    let p = err_from_is_err_and c.from_residual.result c.from_residual.ensures.1 in
    stored_first (StoresKey c.args.whole.now c.args.name.now) _ _ c.value-item.result c.loop-value-test.true c.value-item.is c.loop-value.invariant.stores (c.in_err-key.ensures.short (cc (p.1, p.2, m)))

pub returns-in_err-push-clause-short : goal.returns-in_err-push-clause-short
returns-in_err-push-clause-short c m =
    stored_first (StoresKey c.args.whole.now c.args.name.now) _ _ c.value-item.result c.loop-value-test.true c.value-item.is c.loop-value.invariant.stores (key_stored _ _ _ c.in_ok-key.key c.in_ok-key.ensures.gives)

pub loop-value-preserved : goal.loop-value-preserved
loop-value-preserved c = record {
  read = rw c.in_ok-push.ensures.items (goes_on (λ _. key_path_at c.args.whole.now c.args.name.now) _ _ _ c.value-item.result c.in_ok-key.key _ c.loop-value-test.true c.value-item.is c.in_ok-key.ensures.gives c.loop-value.invariant.read);
  stores = λ _. stored_first (StoresKey c.args.whole.now c.args.name.now) _ _ c.value-item.result c.loop-value-test.true c.value-item.is c.loop-value.invariant.stores (key_stored _ _ _ c.in_ok-key.key c.in_ok-key.ensures.gives);
}

pub returns-clause-gives : goal.returns-clause-gives
returns-clause-gives c = is_done (λ _. key_path_at c.args.whole.now c.args.name.now) _ _ _ _ c.loop-value-test.false c.loop-value.invariant.read
