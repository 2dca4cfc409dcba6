use Rattle.std.proofs.Common.{◌≡◌, ◌∙◌, ◌&&◌, Bool, false, List, length, map, sym, ap}
use Rattle.std.specs.Prelude.{slice_index_or}
use Rattle.std.specs.List.{list_any}
use Rattle.coin_book.specs.Spends.{has_input}
use Rattle.fund_base.specs.Outpoints.{same_outpoint}
use Rattle.fund_base.specs.declared.outpoint.OutPoint.{OutPoint}
use Rattle.fund_files.specs.declared.chain.Chain.{Chain}
use Rattle.fund_files.specs.declared.whole_chain.WholeChain.TheInside.{Inside}
use Rattle.payment_states.proofs.Below.{length-map_below}
use Rattle.payment_states.proofs.ChoiceSteps.{claimed_are}
use Rattle.payment_states.proofs.FactSteps.{opened, pending_are}
use Rattle.payment_states.specs.Candidates.{is_pending, is_pending_state}
use Rattle.payment_states.specs.Graph.{below}
use Rattle.payment_states.specs.Payments.{payments_of}
use Rattle.payment_states.specs.PendingView.{no_tx, view_of}
use Rattle.payment_states.specs.declared.state.Payment.{Payment}
use Rattle.tx_codec.specs.Transaction.{Transaction}
use Rattle.fund_desk.proofs.ready.known_of.Goals as goal

pub spoken_for-requires : goal.spoken_for-requires
spoken_for-requires c =
    let k = c.args.held.now in
    let view = view_of k.wallet k.book in
    let flags : c.in_ok-pending.pending.items ≡ map (is_pending view) (below (length k.wallet.pending)) =
    c.in_ok-pending.ensures.pending
    ∙ ap (map (λ (p : Payment). is_pending_state p.state)) (opened k.wallet k.book c.payments.result.now (c.payments.ensures ∙ c.in_ok-states.ensures ∙ ap (λ (x : Chain). payments_of x.wallet x.book) c.held.view_is))
    ∙ pending_are view in
    let txs = c.deref.ensures.value ∙ ap (λ (i : Inside). i.wallet.pending) c.held-inside.view_is ∙ ap (λ (x : Chain). x.wallet.pending) c.held.view_is in
    ap (λ (l : List Bool). length l) (c.deref-2.ensures.value ∙ flags)
    ∙ length-map_below (is_pending view) (length k.wallet.pending)
    ∙ sym (ap (λ (ts : List Transaction). length ts) txs)

pub returns : goal.returns
returns c =
    let k = c.args.held.now in
    let view = view_of k.wallet k.book in
    let flags : c.in_ok-pending.pending.items ≡ map (is_pending view) (below (length k.wallet.pending)) =
    c.in_ok-pending.ensures.pending
    ∙ ap (map (λ (p : Payment). is_pending_state p.state)) (opened k.wallet k.book c.payments.result.now (c.payments.ensures ∙ c.in_ok-states.ensures ∙ ap (λ (x : Chain). payments_of x.wallet x.book) c.held.view_is))
    ∙ pending_are view in
    let txs = c.deref.ensures.value ∙ ap (λ (i : Inside). i.wallet.pending) c.held-inside.view_is ∙ ap (λ (x : Chain). x.wallet.pending) c.held.view_is in
    let points = c.deref-3.ensures.value ∙ ap (λ (i : Inside). i.wallet.locked) c.held-inside.view_is ∙ ap (λ (x : Chain). x.wallet.locked) c.held.view_is in
    record {
      states = c.in_ok-states.ensures ∙ ap (λ (x : Chain). payments_of x.wallet x.book) c.held.view_is;
      pending = flags;
      claimed = λ o. c.in_ok-spoken.ensures.claimed o
          ∙ (λ j. list_any (λ i. slice_index_or (c.deref-2.ensures.value j) i false && has_input o (slice_index_or (txs j) i no_tx).inputs) (below (length (txs j))))
          ∙ claimed_are view c.in_ok-pending.pending.items o flags;
      locked = λ o. c.in_ok-spoken.ensures.locked o ∙ ap (λ (os : List OutPoint). list_any (λ x. same_outpoint x o) os) points;
    }
