use Rattle.std.proofs.Common.{◌≡◌, ◌∙◌, ◌++◌, ◌∷◌, [], length, sym, ap}
use Rattle.std.proofs.lemmas.List.{map-append}
use Rattle.std.proofs.lemmas.Result.{err_from_is_err_and}
use Rattle.wallet_text.specs.Stores.{StoresScript}
use Rattle.wallet_text.specs.WalletText.{script_behind}
use Rattle.wallet_text.specs.declared.wallet.Watch.{Watch}
use Rattle.json_fields.proofs.Loops.{goes_on, ends, is_done, stored_first}
use Rattle.wallet_text.proofs.Stored.{script_stored}
use Rattle.wallet_text.proofs.entries.scripts_from.Goals as goal

pub returns-in_err-watch-clause-gives : goal.returns-in_err-watch-clause-gives
returns-in_err-watch-clause-gives c =
    let p = err_from_is_err_and c.from_residual.result c.from_residual.ensures.1 in
    let e : c.len.result ≡ length c.loop-value.watches.items = c.len.ensures ∙ c.loop-value.watches.ok.0 in
    rw (p.1, p.2) (ends _ c.in_err-watch.field-0.0 script_behind _ _ _ c.value-item.result _ c.loop-value-test.true c.value-item.is (rw (e, c.loop-value.invariant.seen) at c.in_err-watch.ensures.gives) c.loop-value.invariant.read)

pub returns-in_err-watch-clause-short : goal.returns-in_err-watch-clause-short
returns-in_err-watch-clause-short c m =
    let p = err_from_is_err_and c.from_residual.result c.from_residual.ensures.1 in
    stored_first StoresScript _ _ c.value-item.result c.loop-value-test.true c.value-item.is c.loop-value.invariant.stores (c.in_err-watch.ensures.short (cc (p.1, p.2, m)))

pub returns-in_err-push-clause-short : goal.returns-in_err-push-clause-short
returns-in_err-push-clause-short c m =
    stored_first StoresScript _ _ c.value-item.result c.loop-value-test.true c.value-item.is c.loop-value.invariant.stores (script_stored _ _ _ c.in_ok-watch.watch c.in_ok-watch.ensures.gives)

pub loop-value-preserved : goal.loop-value-preserved
loop-value-preserved c =
    let e : c.len.result ≡ length c.loop-value.watches.items = c.len.ensures ∙ c.loop-value.watches.ok.0 in
    record {
      read = rw c.in_ok-push.ensures.items (goes_on script_behind _ _ _ c.value-item.result c.in_ok-watch.watch _ c.loop-value-test.true c.value-item.is (rw (e, c.loop-value.invariant.seen) at c.in_ok-watch.ensures.gives) c.loop-value.invariant.read);
      seen = rw c.in_ok-push.ensures.items (c.in_ok-watch.ensures.adds ∙ ap (λ s. s ++ c.in_ok-watch.watch.script ∷ []) c.loop-value.invariant.seen ∙ sym (map-append (λ (w : Watch). w.script) c.loop-value.watches.items (c.in_ok-watch.watch ∷ [])));
      stores = λ _. stored_first StoresScript _ _ c.value-item.result c.loop-value-test.true c.value-item.is c.loop-value.invariant.stores (script_stored _ _ _ c.in_ok-watch.watch c.in_ok-watch.ensures.gives);
    }

pub returns-clause-gives : goal.returns-clause-gives
returns-clause-gives c = is_done script_behind _ _ _ _ c.loop-value-test.false c.loop-value.invariant.read
