use Rattle.std.proofs.Common.{◌≡◌, Err, ap}
use Rattle.std.proofs.lemmas.Result.{err_from_is_err_and}
use Rattle.fund_base.proofs.Repeat.{so_far_none, so_far_more, so_far_all, so_far_fails}
use Rattle.tx_codec.specs.Reading.{input_at}
use Rattle.tx_codec.specs.declared.fault.TxFault.{TxFault}
use Rattle.tx_codec.specs.declared.fault.TxFault.TheVariants.{Memory}
use Rattle.tx_codec.proofs.Counts.{first_given, first_more, first_none, first_read}
use Rattle.tx_codec.proofs.reading.inputs_of.Goals as goal

pub returns-in_err-input-clause-gives : goal.returns-in_err-input-clause-gives
returns-in_err-input-clause-gives c =
    let p = err_from_is_err_and c.from_residual.result c.from_residual.ensures.1 in
    rw (p.1, p.2) (so_far_fails _ _ _ _ _ _ _ _ c.loop-test.true c.in_err-input.ensures.gives c.loop.invariant.so_far)

pub returns-in_err-input-clause-short : goal.returns-in_err-input-clause-short
returns-in_err-input-clause-short c =
    let p = err_from_is_err_and c.from_residual.result c.from_residual.ensures.1 in
    rw (p.1, p.2) (λ is. let short : c.in_err-input.field-0.0 ≡ Memory = cc in first_read _ _ _ c.loop.invariant.first (c.in_err-input.ensures.short (ap (λ (x : TxFault). Err x) short)))

pub returns-in_err-push-clause-short : goal.returns-in_err-push-clause-short
returns-in_err-push-clause-short c = λ _. first_given _ _ _ _ _ c.loop.invariant.first c.in_ok-input.ensures.gives

pub loop-init : goal.loop-init
loop-init c = record { so_far = rw c.new-inputs.ensures.items (so_far_none (λ _. input_at) c.args.count c.args.cursor.now); first = first_none _ }

pub loop-preserved : goal.loop-preserved
loop-preserved c = record {
  so_far = rw c.in_ok-push.ensures.items (so_far_more (λ _. input_at) _ _ _ _ _ _ _ c.loop-test.true c.in_ok-input.ensures.gives c.loop.invariant.so_far);
  first = first_more _ _ _ _ _ c.loop.invariant.first c.in_ok-input.ensures.gives;
}

pub returns-clause-gives : goal.returns-clause-gives
returns-clause-gives c = so_far_all (λ _. input_at) _ _ _ _ _ c.loop-test.false c.loop.invariant.so_far
