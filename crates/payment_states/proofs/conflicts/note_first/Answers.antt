use Rattle.std.proofs.Common.{◌∙◌, sym, ap}
use Rattle.std.specs.Prelude.{option_map}
use Rattle.std.proofs.lemmas.Option.{same_Some}
use Rattle.coin_book.specs.declared.coin.Spend.{Spend}
use Rattle.payment_states.proofs.ConflictSteps.{noted}
use Rattle.payment_states.proofs.conflicts.note_first.Goals as goal

pub returns-in_ok-insert-in-Some-clause-told : goal.returns-in_ok-insert-in-Some-clause-told
returns-in_ok-insert-in-Some-clause-told c k e =
    let first = sym c.first_spend.ensures ∙ c.in-Some.is in
    (noted c.args.book.now.confirmed c.args.point.now c.in-Some.spend c.args.names.now.entries c.insert.new.self.entries first c.in_ok-insert-in-Some.ensures.updates.0 k).0
    (same_Some c.in-Some.spend.place k (sym (ap (option_map (λ (s : Spend). s.place)) first) ∙ e))

pub returns-in_ok-insert-in-Some-clause-kept : goal.returns-in_ok-insert-in-Some-clause-kept
returns-in_ok-insert-in-Some-clause-kept c k h =
    (noted c.args.book.now.confirmed c.args.point.now c.in-Some.spend c.args.names.now.entries c.insert.new.self.entries (sym c.first_spend.ensures ∙ c.in-Some.is) c.in_ok-insert-in-Some.ensures.updates.0 k).1 h
