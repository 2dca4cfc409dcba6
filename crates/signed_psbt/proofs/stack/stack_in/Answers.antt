use Rattle.std.proofs.Common.{◌≡◌, ◌∙◌, ℕ, List, Err, Ok, ap, length, subst, sym}
use Rattle.std.proofs.lemmas.Bool.{eqb-false, eqb-true}
use Rattle.fund_base.specs.Cursor.{At}
use Rattle.tx_codec.specs.Reading.{stack_at}
use Rattle.signed_psbt.proofs.StackLaws.{none_read, some_read, stack_is, stack_left, stack_none}
use Rattle.signed_psbt.proofs.stack.stack_in.Goals as goal

pub returns-in_default : goal.returns-in_default
returns-in_default c = λ other fits is.
    let n = none_read c.new-cursor.result c.stack_of-read.new.cursor c.stack_of-read.result c.stack_of-read.ensures (sym c.in_default.is ∙ c.in_ok-stack.ensures.0) c.in_ok-stack.ensures.1 in
    stack_none c.args.bytes.now n.0 (subst (λ (a : At). stack_at a ≡ Err n.0) c.new-cursor.ensures n.1) other fits is

pub returns-then-not-is_empty : goal.returns-then-not-is_empty
returns-then-not-is_empty c = λ other fits is.
    let new = c.stack_of-read.new.cursor in
    let stack = c.in-Some.stack in
    let read = subst (λ (a : At). stack_at a ≡ Ok (stack, new)) c.new-cursor.ensures (some_read c.new-cursor.result new c.stack_of-read.result stack c.stack_of-read.ensures (sym c.in-Some.is ∙ c.in_ok-stack.ensures.0)) in
    let rest = ap (λ (l : List ℕ). length l) c.rest.ensures.value in
    stack_left c.args.bytes.now new stack read (λ z. eqb-false _ _ (sym c.is_empty.ensures ∙ c.if-not-is_empty.true) (rest ∙ z)) other fits is

pub returns : goal.returns
returns c =
    let new = c.stack_of-read.new.cursor in
    let stack = c.in-Some.stack in
    let read = subst (λ (a : At). stack_at a ≡ Ok (stack, new)) c.new-cursor.ensures (some_read c.new-cursor.result new c.stack_of-read.result stack c.stack_of-read.ensures (sym c.in-Some.is ∙ c.in_ok-stack.ensures.0)) in
    let rest = ap (λ (l : List ℕ). length l) c.rest.ensures.value in
    stack_is c.args.bytes.now new stack c.are_bytes.ensures.bytes read (sym rest ∙ eqb-true _ _ (sym c.is_empty.ensures ∙ c.if-not-is_empty.false))
