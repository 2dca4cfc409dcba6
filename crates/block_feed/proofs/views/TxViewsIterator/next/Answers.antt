use Rattle.std.proofs.Common.{rules, ◌∙◌, Err, ap, length, refl, sym}
use Rattle.tx_codec.specs.Reading.{tx_at}
use Rattle.tx_codec.proofs.LentSteps.{no_more_left, none_left, one_left}
use Rattle.block_feed.proofs.views.TxViewsIterator.next.Goals as goal

pub returns-then-self-eq0-clause-steps : goal.returns-then-self-eq0-clause-steps
returns-then-self-eq0-clause-steps c =
    let none = sym c.self.view_is ∙ none_left tx_at c.self.inside.left c.self.inside.cursor c.if-self-eq0.true in
    (none, none)

pub returns-in-Ok-clause-steps : goal.returns-in-Ok-clause-steps
returns-in-Ok-clause-steps c = sym c.self.view_is ∙ one_left tx_at c.self.inside.left c.self.inside.cursor c.pass_tx.new.cursor c.in-Ok.tx c.if-self-eq0.false c.in-Ok.ensures.exact

pub returns-in-Ok-clause-goes : goal.returns-in-Ok-clause-goes
returns-in-Ok-clause-goes c =
    let step = sym c.self.view_is ∙ one_left tx_at c.self.inside.left c.self.inside.cursor c.pass_tx.new.cursor c.in-Ok.tx c.if-self-eq0.false c.in-Ok.ensures.exact in
    let shorter = ap length step in search rules

pub returns-in-Err-clause-steps : goal.returns-in-Err-clause-steps
returns-in-Err-clause-steps c =
    let none = no_more_left tx_at c.self.inside.left c.self.inside.cursor c.in-Err.field-0 (c.in-Err.ensures.exact (λ is. c.in-Err.ensures.never_short (λ k. Err (is k)))) in
    (sym c.self.view_is ∙ none, none_left tx_at 0 c.pass_tx.new.cursor refl)
