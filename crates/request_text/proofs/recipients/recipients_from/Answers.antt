use Rattle.std.proofs.lemmas.List.Elements.{All-push}
use Rattle.std.proofs.lemmas.Result.{err_from_is_err_and}
use Rattle.json_fields.proofs.Loops.{goes_on, ends, is_done, stored_first}
use Rattle.json_fields.specs.declared.fault.FieldFault.TheVariants.{Memory}
use Rattle.request_text.specs.PlainRequest.{IsRecipient}
use Rattle.request_text.specs.declared.fault.Refusal.TheVariants.{Field}
use Rattle.request_text.specs.RequestText.{recipient_behind}
use Rattle.request_text.specs.Stores.{StoresRecipient}
use Rattle.request_text.proofs.Stored.{recipient_stored}
use Rattle.request_text.proofs.recipients.recipients_from.Goals as goal

pub returns-in_err-recipient-clause-gives : goal.returns-in_err-recipient-clause-gives
returns-in_err-recipient-clause-gives c =
    let p = err_from_is_err_and c.from_residual.result c.from_residual.ensures.1 in
    rw (p.1, p.2) (ends (Field Memory) c.in_err-recipient.field-0.0 recipient_behind _ _ _ c.value-item.result _ c.loop-value-test.true c.value-item.is (rw c.deref.ensures.value at c.in_err-recipient.ensures.gives) c.loop-value.invariant.read)

pub returns-in_err-recipient-clause-short : goal.returns-in_err-recipient-clause-short
returns-in_err-recipient-clause-short c m =
    let p = err_from_is_err_and c.from_residual.result c.from_residual.ensures.1 in
    stored_first StoresRecipient _ _ c.value-item.result c.loop-value-test.true c.value-item.is c.loop-value.invariant.stores (c.in_err-recipient.ensures.short (cc (p.1, p.2, m)))

pub returns-in_err-push-clause-short : goal.returns-in_err-push-clause-short
returns-in_err-push-clause-short c m =
    stored_first StoresRecipient _ _ c.value-item.result c.loop-value-test.true c.value-item.is c.loop-value.invariant.stores (recipient_stored _ _ c.in_ok-recipient.recipient c.in_ok-recipient.ensures.gives)

pub loop-value-preserved : goal.loop-value-preserved
loop-value-preserved c = record {
  read = rw c.in_ok-push.ensures.items (goes_on recipient_behind _ _ _ c.value-item.result c.in_ok-recipient.recipient _ c.loop-value-test.true c.value-item.is (rw c.deref.ensures.value at c.in_ok-recipient.ensures.gives) c.loop-value.invariant.read);
  are = rw c.in_ok-push.ensures.items (All-push IsRecipient _ _ c.loop-value.invariant.are c.in_ok-recipient.ensures.is);
  stores = λ _. stored_first StoresRecipient _ _ c.value-item.result c.loop-value-test.true c.value-item.is c.loop-value.invariant.stores (recipient_stored _ _ c.in_ok-recipient.recipient c.in_ok-recipient.ensures.gives);
}

pub returns-clause-gives : goal.returns-clause-gives
returns-clause-gives c = is_done recipient_behind _ _ _ _ c.loop-value-test.false c.loop-value.invariant.read
