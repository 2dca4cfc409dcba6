use Rattle.std.proofs.Common.{codes, refl, sym}
use Rattle.std.proofs.lemmas.List.Elements.{All-push}
use Rattle.std.proofs.lemmas.Result.{err_from_is_err_and}
use Rattle.std.specs.Prelude.{IsOk}
use Rattle.json_fields.proofs.Loops.{goes_on, ends, is_done, stored_first}
use Rattle.json_fields.specs.Fields.{IsPoint, coin_at}
use Rattle.json_fields.specs.declared.fault.FieldFault.TheVariants.{Memory}
use Rattle.request_text.proofs.coins.coins_from.Goals as goal

pub returns-in_err-coin-clause-gives : goal.returns-in_err-coin-clause-gives
returns-in_err-coin-clause-gives c =
    let p = err_from_is_err_and c.from_residual.result c.from_residual.ensures.1 in
    rw (p.1, p.2) (ends Memory c.in_err-coin.field-0.0 (λ _. coin_at (codes "coins")) _ _ _ c.value-item.result _ c.loop-value-test.true c.value-item.is (λ _. sym c.in_err-coin.ensures.exact) c.loop-value.invariant.read)

pub returns-in_err-push-clause-short : goal.returns-in_err-push-clause-short
returns-in_err-push-clause-short c m =
    stored_first (λ e. IsOk (coin_at (codes "coins") e)) _ _ c.value-item.result c.loop-value-test.true c.value-item.is c.loop-value.invariant.stores (rw (sym c.in_ok-coin.ensures.exact) refl)

pub loop-value-preserved : goal.loop-value-preserved
loop-value-preserved c = record {
  read = rw c.in_ok-push.ensures.items (goes_on (λ _. coin_at (codes "coins")) _ _ _ c.value-item.result c.in_ok-coin.coin _ c.loop-value-test.true c.value-item.is (sym c.in_ok-coin.ensures.exact) c.loop-value.invariant.read);
  are = rw c.in_ok-push.ensures.items (All-push IsPoint _ _ c.loop-value.invariant.are c.in_ok-coin.ensures.is);
  stores = λ _. stored_first (λ e. IsOk (coin_at (codes "coins") e)) _ _ c.value-item.result c.loop-value-test.true c.value-item.is c.loop-value.invariant.stores (rw (sym c.in_ok-coin.ensures.exact) refl);
}

pub returns-clause-gives : goal.returns-clause-gives
returns-clause-gives c = is_done (λ _. coin_at (codes "coins")) _ _ _ _ c.loop-value-test.false c.loop-value.invariant.read
