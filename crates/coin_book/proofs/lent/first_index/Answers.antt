use Rattle.std.proofs.Common.{◌∙◌, sym, arith}
use Rattle.coin_book.specs.Invariant.{weigher}
use Rattle.coin_book.proofs.LentSteps.{first_ends, first_here, first_more, first_over}
use Rattle.coin_book.proofs.lent.first_index.Goals as goal

pub returns-in_err-script : goal.returns-in_err-script
returns-in_err-script c = λ height.
    rw c.from_residual.ensures (first_ends (weigher c.args.weights.now.entries) c.args.tx.now c.loop-index.scripts c.loop-index.index c.loop-index.invariant c.in_err-script.ensures.steps.0 height)

pub returns-then-is_listed : goal.returns-then-is_listed
returns-then-is_listed c =
    first_here (weigher c.args.weights.now.entries) c.args.tx.now c.loop-index.scripts c.loop-index.index c.in_ok-script.script.now c.next.new.self c.loop-index.invariant c.in_ok-script.ensures.steps (omega (arith, c.loop-index-test.true))
    (sym c.is_listed.ensures ∙ c.if-is_listed.true)

pub loop-index-preserved : goal.loop-index-preserved
loop-index-preserved c =
    first_more (weigher c.args.weights.now.entries) c.args.tx.now c.loop-index.scripts c.loop-index.index c.in_ok-script.script.now c.next.new.self c.loop-index.invariant c.in_ok-script.ensures.steps (omega (arith, c.loop-index-test.true))
    (sym c.is_listed.ensures ∙ c.if-is_listed.false)

pub returns : goal.returns
returns c = first_over (weigher c.args.weights.now.entries) c.args.tx.now c.loop-index.scripts c.loop-index.index c.loop-index.invariant (omega (arith, c.loop-index-test.false))
