use Rattle.std.proofs.Common.{◌≡◌, ◌∙◌, List, length, map, ap}
use Rattle.payment_states.specs.ByPlace.{view_by}
use Rattle.payment_states.specs.Candidates.{is_pending, is_pending_state}
use Rattle.payment_states.specs.Graph.{below}
use Rattle.payment_states.specs.declared.state.Payment.{Payment}
use Rattle.payment_states.proofs.ChoiceSteps.{claimed_are}
use Rattle.payment_states.proofs.FactSteps.{payments_count, pending_are}
use Rattle.payment_facts.proofs.left_out.spoken_by.Goals as goal

pub spoken_for-requires : goal.spoken_for-requires
spoken_for-requires c =
    c.deref.ensures.len ∙ c.in_ok-pending.ensures.len
    ∙ ap (λ (ps : List Payment). length ps) (c.payments.ensures ∙ c.in_ok-states.ensures)
    ∙ payments_count (view_by c.args.book.now.confirmed c.args.txs.now c.args.abandoned.now)

pub returns-clause-claimed : goal.returns-clause-claimed
returns-clause-claimed c =
    let w = view_by c.args.book.now.confirmed c.args.txs.now c.args.abandoned.now in
    let flags : c.deref.result.now ≡ map (is_pending w) (below (length w.pending)) = c.deref.ensures.value ∙ c.in_ok-pending.ensures.pending ∙ ap (map (λ (p : Payment). is_pending_state p.state)) (c.payments.ensures ∙ c.in_ok-states.ensures) ∙ pending_are w in
    λ o. c.in_ok-spoken.ensures.claimed o ∙ claimed_are w c.deref.result.now o flags
