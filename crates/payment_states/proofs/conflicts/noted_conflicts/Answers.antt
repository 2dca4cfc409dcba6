use Rattle.std.proofs.Common.{◌∙◌, ℕ, List, length, map, sym, ap}
use Rattle.std.specs.Prelude.{option_and_then, nat_eq}
use Rattle.std.specs.Map.{lookup}
use Rattle.std.proofs.lemmas.List.{length-map}
use Rattle.payment_states.specs.PendingView.{parents}
use Rattle.payment_states.proofs.ConflictSteps.{conflicts_are}
use Rattle.payment_states.proofs.conflicts.noted_conflicts.Goals as goal

pub returns-clause-conflicts : goal.returns-clause-conflicts
returns-clause-conflicts c =
    c.in_ok-txids.ensures.names
    ∙ ap (map (option_and_then (λ k. lookup (nat_eq k) c.own_conflicts.new.names.entries))) (c.deref-2.ensures.value ∙ c.in_ok-places.ensures.least)
    ∙ conflicts_are c.args.book.now.confirmed c.args.pending.now c.args.parents.now c.deref.result.now c.own_conflicts.new.names.entries c.requires.graph (c.deref.ensures.value ∙ c.in_ok-own.ensures.places) c.in_ok-own.ensures.told

pub least_of_kin-requires-clause-same : goal.least_of_kin-requires-clause-same
least_of_kin-requires-clause-same c =
    c.deref.ensures.len ∙ c.in_ok-own.ensures.len
    ∙ sym (ap (λ (l : List (List ℕ)). length l) c.requires.graph ∙ length-map c.args.pending.now (parents c.args.book.now.confirmed c.args.pending.now))

pub returns-clause-len : goal.returns-clause-len
returns-clause-len c =
    c.in_ok-txids.ensures.len ∙ c.deref-2.ensures.len ∙ c.in_ok-places.ensures.len
    ∙ ap (λ (l : List (List ℕ)). length l) c.requires.graph
    ∙ length-map c.args.pending.now (parents c.args.book.now.confirmed c.args.pending.now)
