use Rattle.std.proofs.Common.{◌≡◌, ◌∙◌, ◌&&◌, Bool, false, List, length, sym, ap}
use Rattle.std.specs.Prelude.{slice_index_or}
use Rattle.std.specs.List.{list_any}
use Rattle.indexmap.specs.IndexSet.{contains}
use Rattle.fund_base.specs.Outpoints.{same_outpoint}
use Rattle.fund_base.specs.declared.outpoint.OutPoint.{OutPoint}
use Rattle.tx_codec.specs.Transaction.{Transaction}
use Rattle.wallet_text.specs.PlainWallet.{PlainWallet}
use Rattle.coin_book.specs.Spends.{has_input}
use Rattle.payment_states.specs.Candidates.{is_claimed, is_locked, is_pending}
use Rattle.payment_states.specs.Graph.{below}
use Rattle.payment_states.specs.PendingView.{no_tx, view_of}
use Rattle.payment_states.proofs.Below.{length-map_below}
use Rattle.payment_states.proofs.ChoiceSteps.{claimed_are}
use Rattle.payment_states.proofs.FactSteps.{opened}
use Rattle.coin_totals.proofs.ClassLaws.{all_are}
use Rattle.coin_totals.proofs.classes.coin_classes.Goals as goal

pub spoken_for-requires : goal.spoken_for-requires
spoken_for-requires c =
    ap (λ (l : List Bool). length l) (c.deref-2.ensures.value ∙ c.in_ok-facts.ensures.pending)
    ∙ length-map_below (is_pending (view_of c.args.wallet.now c.args.book.now)) (length c.args.wallet.now.pending)
    ∙ sym (ap (λ (ts : List Transaction). length ts) c.deref.ensures.value ∙ ap (λ (w : PlainWallet). length w.pending) c.wallet.view_is)

pub returns : goal.returns
returns c =
    let wallet = c.args.wallet.now in
    let h = c.args.book.now in
    let w = view_of wallet h in
    let facts = c.in_ok-facts.facts in
    let txs : c.deref.result.now ≡ wallet.pending = c.deref.ensures.value ∙ ap (λ (w : PlainWallet). w.pending) c.wallet.view_is in
    let claimed : (o : OutPoint) → contains same_outpoint c.in_ok-spoken.spoken.claimed o ≡ is_claimed w o =
    λ o. c.in_ok-spoken.ensures.claimed o
    ∙ (λ k. list_any (λ i. slice_index_or (c.deref-2.ensures.value k) i false && has_input o (slice_index_or (txs k) i no_tx).inputs) (below (length (txs k))))
    ∙ claimed_are w facts.pending.items o c.in_ok-facts.ensures.pending in
    let locked : (o : OutPoint) → contains same_outpoint c.in_ok-spoken.spoken.locked o ≡ is_locked wallet o =
    λ o. c.in_ok-spoken.ensures.locked o ∙ ap (λ (os : List OutPoint). list_any (λ x. same_outpoint x o) os) (c.deref-3.ensures.value ∙ ap (λ (w : PlainWallet). w.locked) c.wallet.view_is) in
    c.in_ok-all.ensures
    ∙ all_are wallet h c.args.tip facts.pending.items facts.safe.items c.in_ok-facts.ensures.pending c.in_ok-facts.ensures.safe (contains same_outpoint c.in_ok-spoken.spoken.claimed) (contains same_outpoint c.in_ok-spoken.spoken.locked) c.args.states.now
    (opened wallet h c.args.states.now c.requires.states) claimed locked
