use Rattle.std.proofs.Common.{◌≡◌, ◌∙◌, length}
use Rattle.std.proofs.lemmas.Result.{err_from_is_err_and}
use Rattle.wallet_text.specs.Stores.{StoresEarlier}
use Rattle.wallet_text.specs.WalletText.{earlier_behind}
use Rattle.json_fields.proofs.Loops.{goes_on, ends, is_done, stored_first}
use Rattle.wallet_text.proofs.Stored.{earlier_stored}
use Rattle.wallet_text.proofs.entries.earlier_from.Goals as goal

pub returns-in_err-entry-clause-gives : goal.returns-in_err-entry-clause-gives
returns-in_err-entry-clause-gives c =
    let p = err_from_is_err_and c.from_residual.result c.from_residual.ensures.1 in
    let e : c.len.result ≡ length c.loop-value.earlier.items = c.len.ensures ∙ c.loop-value.earlier.ok.0 in
    rw (p.1, p.2) (ends _ c.in_err-entry.field-0.0 (earlier_behind c.args.most) _ _ _ c.value-item.result _ c.loop-value-test.true c.value-item.is (rw e at c.in_err-entry.ensures.gives) c.loop-value.invariant.read)

pub returns-in_err-entry-clause-short : goal.returns-in_err-entry-clause-short
returns-in_err-entry-clause-short c m =
    let p = err_from_is_err_and c.from_residual.result c.from_residual.ensures.1 in
    stored_first (StoresEarlier c.args.most) _ _ c.value-item.result c.loop-value-test.true c.value-item.is c.loop-value.invariant.stores (c.in_err-entry.ensures.short (cc (p.1, p.2, m)))

pub returns-in_err-push-clause-short : goal.returns-in_err-push-clause-short
returns-in_err-push-clause-short c m =
    stored_first (StoresEarlier c.args.most) _ _ c.value-item.result c.loop-value-test.true c.value-item.is c.loop-value.invariant.stores (earlier_stored c.args.most _ _ c.in_ok-entry.entry c.in_ok-entry.ensures.gives)

pub loop-value-preserved : goal.loop-value-preserved
loop-value-preserved c =
    let e : c.len.result ≡ length c.loop-value.earlier.items = c.len.ensures ∙ c.loop-value.earlier.ok.0 in
    record {
      read = rw c.in_ok-push.ensures.items (goes_on (earlier_behind c.args.most) _ _ _ c.value-item.result c.in_ok-entry.entry _ c.loop-value-test.true c.value-item.is (rw e at c.in_ok-entry.ensures.gives) c.loop-value.invariant.read);
      stores = λ _. stored_first (StoresEarlier c.args.most) _ _ c.value-item.result c.loop-value-test.true c.value-item.is c.loop-value.invariant.stores (earlier_stored c.args.most _ _ c.in_ok-entry.entry c.in_ok-entry.ensures.gives);
    }

pub returns-clause-gives : goal.returns-clause-gives
returns-clause-gives c = is_done (earlier_behind c.args.most) _ _ _ _ c.loop-value-test.false c.loop-value.invariant.read
