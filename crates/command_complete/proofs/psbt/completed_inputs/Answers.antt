use Rattle.std.proofs.Common.{Err, ap}
use Rattle.std.proofs.lemmas.Result.{err_from_is_err_and}
use Rattle.command_complete.specs.declared.fault.CompleteFault.{CompleteFault}
use Rattle.command_complete.proofs.LoopLaws.{all_done, first_at, first_can, input_fits, one_more, same_fault}
use Rattle.command_complete.proofs.psbt.completed_inputs.Goals as goal

pub completed_input-requires-clause-spent : goal.completed_input-requires-clause-spent
completed_input-requires-clause-spent c =
    input_fits c.args.book.now c.args.inputs.now c.args.spent.now c.completing.i c.index-inputs-i.result c.index-spent-i.result c.completing-test.true c.requires.lengths c.index-inputs-i.is c.index-spent-i.is c.requires.fit

pub completing-preserved : goal.completing-preserved
completing-preserved c =
    rw c.in_ok-push.ensures.items
    (one_more c.args.book.now c.args.inputs.now c.args.spent.now c.completing.i c.index-inputs-i.result c.index-spent-i.result c.completing-test.true c.requires.lengths c.index-inputs-i.is c.index-spent-i.is c.completing.completed.items c.in_ok-known.known c.completing.invariant
    c.in_ok-known.ensures.completed)

pub returns-in_err-known-clause-fault : goal.returns-in_err-known-clause-fault
returns-in_err-known-clause-fault c =
    let p = err_from_is_err_and c.from_residual.result c.from_residual.ensures.1 in
    rw (p.1, p.2)
    (λ other. first_at c.args.book.now c.args.inputs.now c.args.spent.now c.completing.i c.index-inputs-i.result c.index-spent-i.result c.completing-test.true c.requires.lengths c.index-inputs-i.is c.index-spent-i.is c.completing.completed.items c.in_err-known.field-0.0
    c.completing.invariant (c.in_err-known.ensures.fault other))

pub returns-clause-completed : goal.returns-clause-completed
returns-clause-completed c = all_done c.args.book.now c.args.inputs.now c.args.spent.now c.completing.i c.completing.completed.items c.completing-test.false c.requires.lengths c.completing.invariant

pub returns-in_err-known-clause-memory : goal.returns-in_err-known-clause-memory
returns-in_err-known-clause-memory c =
    let p = err_from_is_err_and c.from_residual.result c.from_residual.ensures.1 in
    rw (p.1, p.2) (λ memory. first_can c.args.book.now c.args.inputs.now c.args.spent.now c.completing.i c.index-inputs-i.result c.index-spent-i.result c.completing-test.true c.requires.lengths c.index-inputs-i.is c.index-spent-i.is c.completing.completed.items c.completing.invariant (c.in_err-known.ensures.memory (ap (λ (e : CompleteFault). Err e) (same_fault c.in_err-known.field-0.0 memory))))

pub returns-in_err-push-clause-memory : goal.returns-in_err-push-clause-memory
returns-in_err-push-clause-memory c = λ memory. first_can c.args.book.now c.args.inputs.now c.args.spent.now c.completing.i c.index-inputs-i.result c.index-spent-i.result c.completing-test.true c.requires.lengths c.index-inputs-i.is c.index-spent-i.is c.completing.completed.items c.completing.invariant (c.in_ok-known.known, c.in_ok-known.ensures.completed)
