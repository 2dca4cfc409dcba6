use Rattle.std.proofs.Common.{◌≡◌, ◌∙◌, ℕ, Option, true, false, sym, ap}
use Rattle.std.specs.Prelude.{is_none, is_some}
use Rattle.known_fees.specs.Worth.{worth_of}
use Rattle.known_fees.proofs.WorthSteps.{foreign_here, foreign_later, none_if, some_if}
use Rattle.known_fees.proofs.worth.foreign_input.Goals as goal

pub returns-then-is_none : goal.returns-then-is_none
returns-then-is_none c =
    let x = c.input-item.result in
    let here : is_none (worth_of c.args.book.now c.args.txs.now x.prev) ≡ true = none_if (worth_of c.args.book.now c.args.txs.now x.prev) (ap (λ (r : Option ℕ). is_some r) (sym c.worth.ensures) ∙ c.if-is_none.ensures) in
    sym (foreign_here c.args.book.now c.args.txs.now c.args.inputs.now c.loop-input.input-index x c.loop-input-test.true c.input-item.is c.loop-input.invariant here)

pub loop-input-preserved : goal.loop-input-preserved
loop-input-preserved c =
    let x = c.input-item.result in
    let here : is_none (worth_of c.args.book.now c.args.txs.now x.prev) ≡ false = some_if (worth_of c.args.book.now c.args.txs.now x.prev) (ap (λ (r : Option ℕ). is_some r) (sym c.worth.ensures) ∙ c.if-is_none.ensures) in
    foreign_later c.args.book.now c.args.txs.now c.args.inputs.now c.loop-input.input-index x c.loop-input-test.true c.input-item.is c.loop-input.invariant here
