use Rattle.std.proofs.Common.{◌∙◌, Some, ap, refl, sym}
use Rattle.std.specs.Option.{option_copied}
use Rattle.tx_codec.specs.Transaction.{Transaction}
use Rattle.command_complete.proofs.InputLaws.{completed_is}
use Rattle.command_complete.proofs.input.completed_input.Goals as goal

pub returns-in_err-whole-clause-memory : goal.returns-in_err-whole-clause-memory
returns-in_err-whole-clause-memory c = λ _. (
  record { whole = Some c.in-Some.whole.now; paid = c.args.known.now.paid },
  completed_is c.args.book.now c.args.input.now c.args.known.now c.in-Some.whole.now (record { whole = Some c.in-Some.whole.now; paid = c.args.known.now.paid }) c.requires.texts c.requires.spent (sym c.due_for.ensures ∙ ap option_copied c.in-Some.is) (c.has_told.ensures.0 c.if-not-has_told.false) refl refl,
)

pub returns-in_err-paid-clause-memory : goal.returns-in_err-paid-clause-memory
returns-in_err-paid-clause-memory c = λ _. (
  record { whole = Some c.in-Some.whole.now; paid = c.args.known.now.paid },
  completed_is c.args.book.now c.args.input.now c.args.known.now c.in-Some.whole.now (record { whole = Some c.in-Some.whole.now; paid = c.args.known.now.paid }) c.requires.texts c.requires.spent (sym c.due_for.ensures ∙ ap option_copied c.in-Some.is) (c.has_told.ensures.0 c.if-not-has_told.false) refl refl,
)

pub returns-clause-completed : goal.returns-clause-completed
returns-clause-completed c =
    completed_is c.args.book.now c.args.input.now c.args.known.now c.in-Some.whole.now (record { whole = Some c.in_ok-whole.whole; paid = c.in_ok-paid.paid }) c.requires.texts c.requires.spent (sym c.due_for.ensures ∙ ap option_copied c.in-Some.is) (c.has_told.ensures.0 c.if-not-has_told.false) (ap (λ (t : Transaction). Some t) c.in_ok-whole.ensures)
    c.in_ok-paid.ensures
