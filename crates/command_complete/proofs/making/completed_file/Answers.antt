use Rattle.std.proofs.Common.{◌∙◌, List, Vec, Global, ℕ, subst, sym}
use Rattle.std.specs.Prelude.{IfErr, IfOk}
use Rattle.command_complete.specs.Made.{IsCompletedText}
use Rattle.command_complete.specs.Stops.{StopsAtPsbt}
use Rattle.command_complete.proofs.TextLaws.{text_of_bytes, text_of_line}
use Rattle.command_complete.proofs.making.completed_file.Goals as goal

pub returns-then-has_bytes-clause-made : goal.returns-then-has_bytes-clause-made
returns-then-has_bytes-clause-made c =
    subst (λ (t : List ℕ). IfOk c.completed_bytes.result (λ (printed : Vec ℕ Global). IsCompletedText c.args.book.now t printed.items)) (sym (text_of_bytes c.args.file.now (sym c.has_bytes.ensures ∙ c.if-has_bytes.true)))
    c.completed_bytes.ensures.made

pub returns-then-has_bytes-clause-stop : goal.returns-then-has_bytes-clause-stop
returns-then-has_bytes-clause-stop c =
    subst (λ (t : List ℕ). IfErr c.completed_bytes.result (StopsAtPsbt c.args.book.now t)) (sym (text_of_bytes c.args.file.now (sym c.has_bytes.ensures ∙ c.if-has_bytes.true))) c.completed_bytes.ensures.stop

pub returns-clause-made : goal.returns-clause-made
returns-clause-made c =
    subst (λ (t : List ℕ). IfOk c.completed_text.result (λ (printed : Vec ℕ Global). IsCompletedText c.args.book.now t printed.items)) (c.line_of.ensures ∙ sym (text_of_line c.args.file.now (sym c.has_bytes.ensures ∙ c.if-has_bytes.false)))
    c.completed_text.ensures.made

pub returns-clause-stop : goal.returns-clause-stop
returns-clause-stop c =
    subst (λ (t : List ℕ). IfErr c.completed_text.result (StopsAtPsbt c.args.book.now t)) (c.line_of.ensures ∙ sym (text_of_line c.args.file.now (sym c.has_bytes.ensures ∙ c.if-has_bytes.false))) c.completed_text.ensures.stop
