use Rattle.std.proofs.Common.{◌≡◌, ◌∙◌, ℕ, ◌<◌, ◌&&◌, not, List, [], ◌∷◌, ◌++◌, length, map, get_or, Option, sym, ap, arith}
use Rattle.std.specs.Prelude.{bytes_eq, slice_index_or}
use Rattle.std.specs.List.{list_all}
use Rattle.std.proofs.lemmas.List.{get_or_default}
use Rattle.indexmap.specs.IndexSet.{contains}
use Rattle.tx_codec.specs.Transaction.{Transaction}
use Rattle.tx_codec.specs.declared.tx.TxIn.{TxIn}
use Rattle.coin_book.specs.Coins.{coins_of}
use Rattle.payment_states.specs.Candidates.{is_coin, is_mine}
use Rattle.payment_states.specs.Graph.{below}
use Rattle.payment_states.specs.ByPlace.{place_if}
use Rattle.payment_states.specs.PendingView.{no_tx}
use Rattle.payment_states.specs.declared.state.Payment.{Payment}
use Rattle.payment_states.proofs.Below.{get_or_map, map_below_more}
use Rattle.payment_states.proofs.claims.doubts_of.Goals as goal

pub loop-place-init : goal.loop-place-init
unfolding below
loop-place-init c = (c.new-doubts.ensures.items, c.new-doubts.ensures.len)

pub loop-place-preserved : goal.loop-place-preserved
loop-place-preserved c =
    let i = c.loop-place.place in
    let txs = c.args.txs.now in
    let payments = c.args.payments.now in
    let coins = coins_of c.args.book.now in
    let f : ℕ → Option ℕ = λ i. place_if (not (is_mine coins (slice_index_or txs i no_tx) && not (contains bytes_eq c.args.replacers.now (slice_index_or (map (λ (p : Payment). p.txid) payments) i [])))) 0 in
    let read : c.deref.result.now ≡ (get_or txs i no_tx).inputs = c.deref.ensures.value ∙ ap (λ (t : Transaction). t.inputs) (c.tx.view_is ∙ c.index-txs-place.is ∙ get_or_default txs i c.index-txs-place.result no_tx c.loop-place-test.true) in
    let in_list : i < length payments = omega arith in
    let name : c.index-payments-place.result.txid ≡ get_or (map (λ (p : Payment). p.txid) payments) i [] = ap (λ (p : Payment). p.txid) c.index-payments-place.is ∙ sym (get_or_map (λ (p : Payment). p.txid) payments i [] c.index-payments-place.result in_list) in
    let mine : c.is_mine-mine.result ≡ is_mine coins (get_or txs i no_tx) = c.is_mine-mine.ensures ∙ ap (λ (is : List TxIn). list_all (λ (x : TxIn). is_coin coins x.prev) is) read in
    let here : c.place_if.result ≡ f i =
    c.place_if.ensures ∙ ap (λ b. place_if b 0) (c.is_doubtful.ensures ∙ (λ k. not (mine k && not ((c.is_replacer-replaces.ensures ∙ ap (contains bytes_eq c.args.replacers.now) name) k)))) in
    (c.in_ok-push.ensures.items ∙ (λ k. c.loop-place.invariant.0 k ++ here k ∷ []) ∙ sym (map_below_more f i), omega (arith, c.in_ok-push.ensures.len))

pub returns-clause-doubts : goal.returns-clause-doubts
returns-clause-doubts c =
    let f : ℕ → Option ℕ = λ i. place_if (not (is_mine (coins_of c.args.book.now) (slice_index_or c.args.txs.now i no_tx) && not (contains bytes_eq c.args.replacers.now (slice_index_or (map (λ (p : Payment). p.txid) c.args.payments.now) i [])))) 0 in
    let e : c.loop-place.place ≡ length c.args.txs.now = omega arith in
    c.loop-place.invariant.0 ∙ ap (λ n. map f (below n)) e

pub returns-clause-len : goal.returns-clause-len
returns-clause-len c = omega (arith, c.loop-place.invariant.1)
