use Rattle.std.proofs.Common.{◌≡◌, ◌∙◌, ◌&&◌, not, ℕ, List, [], map, length, vec_len, Option, Vec, Global, sym, ap}
use Rattle.std.specs.Prelude.{bytes_eq, slice_index_or}
use Rattle.std.specs.List.{list_any}
use Rattle.std.proofs.lemmas.Result.{IfOk-weaker}
use Rattle.indexmap.specs.IndexSet.{contains}
use Rattle.tx_codec.specs.Transaction.{Transaction}
use Rattle.wallet_text.specs.PlainWallet.{PlainWallet}
use Rattle.coin_book.specs.Coins.{coins_of}
use Rattle.payment_states.specs.Candidates.{is_mine, is_own, is_replaced_by, replaces}
use Rattle.payment_states.specs.Graph.{below}
use Rattle.payment_states.specs.Payments.{payments_in}
use Rattle.payment_states.specs.ByPlace.{place_if}
use Rattle.payment_states.specs.PendingView.{no_tx, view_of}
use Rattle.payment_states.specs.declared.state.Payment.{Payment}
use Rattle.payment_states.proofs.FactSteps.{doubts_are, opened, payments_count, replaces_is}
use Rattle.payment_states.proofs.pending_facts.own_doubts.Goals as goal

pub doubts_of-requires : goal.doubts_of-requires
doubts_of-requires c =
    let w = view_of c.args.wallet.now c.args.book.now in
    ap (λ (ps : List Payment). length ps) (c.payments-2.ensures ∙ opened c.args.wallet.now c.args.book.now c.args.states.now c.requires.states)
    ∙ payments_count w
    ∙ sym (ap (λ (ts : List Transaction). length ts) c.deref.ensures.value ∙ ap (λ (w : PlainWallet). length w.pending) c.wallet.view_is)

pub returns-clause-doubts : goal.returns-clause-doubts
returns-clause-doubts c =
    let w = view_of c.args.wallet.now c.args.book.now in
    let coins = coins_of c.args.book.now in
    let payments : c.payments-2.result.now ≡ payments_in w = c.payments-2.ensures ∙ opened c.args.wallet.now c.args.book.now c.args.states.now c.requires.states in
    let told : (t : List ℕ) → contains bytes_eq c.in_ok-replacers.replacers t ≡ replaces w t =
    λ t. c.in_ok-replacers.ensures t ∙ ap (λ (ps : List Payment). list_any (λ (p : Payment). is_replaced_by t p.state) ps) (c.payments.ensures ∙ opened c.args.wallet.now c.args.book.now c.args.states.now c.requires.states) ∙ replaces_is w t in
    let txs : c.deref.result.now ≡ c.args.wallet.now.pending = c.deref.ensures.value ∙ ap (λ (w : PlainWallet). w.pending) c.wallet.view_is in
    let given : List (Option ℕ) = map (λ i. place_if (not (is_mine coins (slice_index_or c.deref.result.now i no_tx) && not (contains bytes_eq c.in_ok-replacers.replacers (slice_index_or (map (λ (p : Payment). p.txid) c.payments-2.result.now) i [])))) 0) (below (length c.deref.result.now)) in
    let wanted : List (Option ℕ) = map (λ i. place_if (not (is_own w coins i)) 0) (below (length c.args.wallet.now.pending)) in
    let same : given ≡ wanted =
    (λ k. map (λ i. place_if (not (is_mine coins (slice_index_or (txs k) i no_tx) && not (contains bytes_eq c.in_ok-replacers.replacers (slice_index_or (map (λ (p : Payment). p.txid) (payments k)) i [])))) 0) (below (length (txs k))))
    ∙ doubts_are w coins (contains bytes_eq c.in_ok-replacers.replacers) told in
    IfOk-weaker c.doubts_of.result (λ (v : Vec (Option ℕ) Global). v.items ≡ given) (λ (v : Vec (Option ℕ) Global). v.items ≡ wanted) (λ v h. h ∙ same) c.doubts_of.ensures.doubts

pub returns-clause-len : goal.returns-clause-len
returns-clause-len c =
    let same : length c.deref.result.now ≡ length c.args.wallet.now.pending =
    ap (λ (ts : List Transaction). length ts) c.deref.ensures.value ∙ ap (λ (w : PlainWallet). length w.pending) c.wallet.view_is in
    IfOk-weaker c.doubts_of.result (λ (v : Vec (Option ℕ) Global). vec_len v ≡ length c.deref.result.now) (λ (v : Vec (Option ℕ) Global). vec_len v ≡ length c.args.wallet.now.pending) (λ v h. h ∙ same) c.doubts_of.ensures.len
