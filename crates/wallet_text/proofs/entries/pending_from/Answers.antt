use Rattle.std.proofs.Common.{◌≡◌, ◌∙◌, length}
use Rattle.std.proofs.lemmas.Result.{err_from_is_err_and}
use Rattle.wallet_text.specs.Stores.{StoresPending}
use Rattle.wallet_text.specs.WalletText.{pending_behind}
use Rattle.json_fields.proofs.Loops.{goes_on, ends, is_done, stored_first}
use Rattle.wallet_text.proofs.Stored.{pending_stored}
use Rattle.wallet_text.proofs.entries.pending_from.Goals as goal

pub returns-in_err-tx-clause-gives : goal.returns-in_err-tx-clause-gives
returns-in_err-tx-clause-gives c =
    let p = err_from_is_err_and c.from_residual.result c.from_residual.ensures.1 in
    let e : c.len.result ≡ length c.loop-value.pending.items = c.len.ensures ∙ c.loop-value.pending.ok.0 in
    rw (p.1, p.2) (ends _ c.in_err-tx.field-0.0 pending_behind _ _ _ c.value-item.result _ c.loop-value-test.true c.value-item.is (rw e at c.in_err-tx.ensures.gives) c.loop-value.invariant.read)

pub returns-in_err-tx-clause-short : goal.returns-in_err-tx-clause-short
returns-in_err-tx-clause-short c m =
    let p = err_from_is_err_and c.from_residual.result c.from_residual.ensures.1 in
    stored_first StoresPending _ _ c.value-item.result c.loop-value-test.true c.value-item.is c.loop-value.invariant.stores (c.in_err-tx.ensures.short (cc (p.1, p.2, m)))

pub returns-in_err-push-clause-short : goal.returns-in_err-push-clause-short
returns-in_err-push-clause-short c m =
    stored_first StoresPending _ _ c.value-item.result c.loop-value-test.true c.value-item.is c.loop-value.invariant.stores (pending_stored _ _ c.in_ok-tx.tx c.in_ok-tx.ensures.gives)

pub loop-value-preserved : goal.loop-value-preserved
loop-value-preserved c =
    let e : c.len.result ≡ length c.loop-value.pending.items = c.len.ensures ∙ c.loop-value.pending.ok.0 in
    record {
      read = rw c.in_ok-push.ensures.items (goes_on pending_behind _ _ _ c.value-item.result c.in_ok-tx.tx _ c.loop-value-test.true c.value-item.is (rw e at c.in_ok-tx.ensures.gives) c.loop-value.invariant.read);
      stores = λ _. stored_first StoresPending _ _ c.value-item.result c.loop-value-test.true c.value-item.is c.loop-value.invariant.stores (pending_stored _ _ c.in_ok-tx.tx c.in_ok-tx.ensures.gives);
    }

pub returns-clause-gives : goal.returns-clause-gives
returns-clause-gives c = is_done pending_behind _ _ _ _ c.loop-value-test.false c.loop-value.invariant.read
