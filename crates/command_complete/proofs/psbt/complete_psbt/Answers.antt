use Rattle.std.proofs.Common.{◌∙◌, Err, ap}
use Rattle.std.proofs.lemmas.Result.{err_from_is_err_and}
use Rattle.command_complete.specs.declared.fault.CompleteFault.{CompleteFault}
use Rattle.psbt_codec.specs.PartialTransaction.{PartialTransaction}
use Rattle.psbt_codec.specs.declared.psbt.Psbt.TheInside.{Inside}
use Rattle.command_complete.proofs.PsbtLaws.{completed_of, first_can_of, first_of, fits_of, lengths_of}
use Rattle.command_complete.proofs.LoopLaws.{first_done, same_fault}
use Rattle.command_complete.proofs.psbt.complete_psbt.Goals as goal

pub completed_inputs-requires-clause-lengths : goal.completed_inputs-requires-clause-lengths
completed_inputs-requires-clause-lengths c =
    lengths_of c.args.psbt.now c.deref.result.now c.deref-2.result.now (c.deref.ensures.value ∙ ap (λ (i : Inside). i.tx.inputs) c.psbt-inside.view_is ∙ ap (λ (p : PartialTransaction). p.tx.inputs) c.psbt.view_is)
    (c.deref-2.ensures.value ∙ ap (λ (i : Inside). i.spent.items) c.psbt-inside.view_is ∙ ap (λ (p : PartialTransaction). p.spent) c.psbt.view_is) c.requires.psbt

pub completed_inputs-requires-clause-fit : goal.completed_inputs-requires-clause-fit
completed_inputs-requires-clause-fit c =
    fits_of c.args.psbt.now c.deref.result.now c.deref-2.result.now (c.deref.ensures.value ∙ ap (λ (i : Inside). i.tx.inputs) c.psbt-inside.view_is ∙ ap (λ (p : PartialTransaction). p.tx.inputs) c.psbt.view_is)
    (c.deref-2.ensures.value ∙ ap (λ (i : Inside). i.spent.items) c.psbt-inside.view_is ∙ ap (λ (p : PartialTransaction). p.spent) c.psbt.view_is) c.requires.psbt

pub returns-in_err-spent-clause-fault : goal.returns-in_err-spent-clause-fault
returns-in_err-spent-clause-fault c =
    let p = err_from_is_err_and c.from_residual.result c.from_residual.ensures.1 in
    rw (p.1, p.2)
    (λ other. first_of c.args.psbt.now c.deref.result.now c.deref-2.result.now (c.deref.ensures.value ∙ ap (λ (i : Inside). i.tx.inputs) c.psbt-inside.view_is ∙ ap (λ (p : PartialTransaction). p.tx.inputs) c.psbt.view_is)
    (c.deref-2.ensures.value ∙ ap (λ (i : Inside). i.spent.items) c.psbt-inside.view_is ∙ ap (λ (p : PartialTransaction). p.spent) c.psbt.view_is) c.args.book.now c.in_err-spent.field-0.0 (c.in_err-spent.ensures.fault other))

pub returns-clause-completed : goal.returns-clause-completed
returns-clause-completed c =
    completed_of c.args.psbt.now c.deref.result.now c.deref-2.result.now (c.deref.ensures.value ∙ ap (λ (i : Inside). i.tx.inputs) c.psbt-inside.view_is ∙ ap (λ (p : PartialTransaction). p.tx.inputs) c.psbt.view_is)
    (c.deref-2.ensures.value ∙ ap (λ (i : Inside). i.spent.items) c.psbt-inside.view_is ∙ ap (λ (p : PartialTransaction). p.spent) c.psbt.view_is) c.args.book.now c.in_ok-tx.tx c.in_ok-spent.spent.items
    (c.in_ok-tx.ensures ∙ ap (λ (p : PartialTransaction). p.tx) c.psbt.view_is) c.in_ok-spent.ensures.completed

pub returns-clause-psbt : goal.returns-clause-psbt
returns-clause-psbt c = c.completions_are_psbts.ensures c.args.book.now c.args.psbt.now (record { tx = c.in_ok-tx.tx; spent = c.in_ok-spent.spent.items }) c.requires.psbt (returns-clause-completed c)

pub returns-in_err-spent-clause-memory : goal.returns-in_err-spent-clause-memory
returns-in_err-spent-clause-memory c =
    let p = err_from_is_err_and c.from_residual.result c.from_residual.ensures.1 in
    rw (p.1, p.2)
    (λ memory. first_can_of c.args.psbt.now c.deref.result.now c.deref-2.result.now (c.deref.ensures.value ∙ ap (λ (i : Inside). i.tx.inputs) c.psbt-inside.view_is ∙ ap (λ (p : PartialTransaction). p.tx.inputs) c.psbt.view_is)
    (c.deref-2.ensures.value ∙ ap (λ (i : Inside). i.spent.items) c.psbt-inside.view_is ∙ ap (λ (p : PartialTransaction). p.spent) c.psbt.view_is) c.args.book.now (c.in_err-spent.ensures.memory (ap (λ (e : CompleteFault). Err e) (same_fault c.in_err-spent.field-0.0 memory))))

pub returns-in_err-tx-clause-memory : goal.returns-in_err-tx-clause-memory
returns-in_err-tx-clause-memory c =
    λ memory. first_can_of c.args.psbt.now c.deref.result.now c.deref-2.result.now (c.deref.ensures.value ∙ ap (λ (i : Inside). i.tx.inputs) c.psbt-inside.view_is ∙ ap (λ (p : PartialTransaction). p.tx.inputs) c.psbt.view_is)
    (c.deref-2.ensures.value ∙ ap (λ (i : Inside). i.spent.items) c.psbt-inside.view_is ∙ ap (λ (p : PartialTransaction). p.spent) c.psbt.view_is) c.args.book.now (first_done c.args.book.now _ _ c.in_ok-spent.ensures.completed)
