use Rattle.std.proofs.Common.{refl, sym}
use Rattle.std.proofs.lemmas.Result.{err_from_is_err_and}
use Rattle.std.specs.Prelude.{IsOk, codes}
use Rattle.json_fields.specs.Fields.{hash_at}
use Rattle.json_fields.proofs.Loops.{goes_on, ends, is_done, stored_first}
use Rattle.wallet_text.proofs.entries.abandoned_from.Goals as goal

pub returns-in_err-txid-clause-gives : goal.returns-in_err-txid-clause-gives
returns-in_err-txid-clause-gives c =
    let p = err_from_is_err_and c.from_residual.result c.from_residual.ensures.1 in
    rw (p.1, p.2) (ends _ c.in_err-txid.field-0.0 (λ _. hash_at (codes "abandoned")) _ _ _ c.value-item.result _ c.loop-value-test.true c.value-item.is (λ _. sym c.in_err-txid.ensures.exact) c.loop-value.invariant.read)

pub returns-in_err-push-clause-short : goal.returns-in_err-push-clause-short
returns-in_err-push-clause-short c m =
    stored_first (λ e. IsOk (hash_at (codes "abandoned") e)) _ _ c.value-item.result c.loop-value-test.true c.value-item.is c.loop-value.invariant.stores (rw (sym c.in_ok-txid.ensures.exact) refl)

pub loop-value-preserved : goal.loop-value-preserved
loop-value-preserved c = record {
  read = rw c.in_ok-push.ensures.items (goes_on (λ _. hash_at (codes "abandoned")) _ _ _ c.value-item.result c.in_ok-txid.txid _ c.loop-value-test.true c.value-item.is (sym c.in_ok-txid.ensures.exact) c.loop-value.invariant.read);
  stores = λ _. stored_first (λ e. IsOk (hash_at (codes "abandoned") e)) _ _ c.value-item.result c.loop-value-test.true c.value-item.is c.loop-value.invariant.stores (rw (sym c.in_ok-txid.ensures.exact) refl);
}

pub returns-clause-gives : goal.returns-clause-gives
returns-clause-gives c = is_done (λ _. hash_at (codes "abandoned")) _ _ _ _ c.loop-value-test.false c.loop-value.invariant.read
