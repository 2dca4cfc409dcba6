use Rattle.std.proofs.Common.{◌∙◌, ◌||◌, true, cond, ℕ, List, ap, arith, refl, subst, sym}
use Rattle.std.specs.Prelude.{All, bytes_eq}
use Rattle.std.specs.List.{list_any}
use Rattle.std.proofs.lemmas.List.{take_all}
use Rattle.std.proofs.lemmas.List.Elements.{All-nil}
use Rattle.std.proofs.lemmas.Slice.Eq.{bytes_eq-Decides}
use Rattle.fund_base.specs.Outpoints.{same_outpoint}
use Rattle.tx_codec.specs.Transaction.{Transaction}
use Rattle.tx_codec.specs.declared.tx.TxIn.{TxIn}
use Rattle.tx_codec.specs.Txid.{txid_of}
use Rattle.coin_book.specs.Spends.{has_input}
use Rattle.coin_book.specs.Watched.{IsWatched, PlainWatched}
use Rattle.fund_files.proofs.WatchedLaws.{sets, watched_more}
use Rattle.fund_files.proofs.watched.watched_for.Goals as goal

pub loop-tx-init : goal.loop-tx-init
loop-tx-init c = All-nil (IsWatched _)

pub loop-tx-preserved : goal.loop-tx-preserved
loop-tx-preserved c =
    let t = c.tx-item.result in
    let inputs = c.deref.ensures.value ∙ ap (λ (x : Transaction). x.inputs) c.tx.view_is in
    watched_more c.loop-tx.points.keys c.add_inputs.new.points.keys c.loop-tx.txids.keys c.insert.new.self.keys c.args.pending.now c.loop-tx.tx-index t c.loop-tx-test.true c.tx-item.is
    (λ o. c.in_ok-add_inputs.ensures o ∙ ap (λ (is : List TxIn). list_any (same_outpoint o) c.loop-tx.points.keys || has_input o is) inputs)
    (λ id. c.in_ok-insert.ensures.updates.0 id ∙ ap (λ (own : List ℕ). cond (bytes_eq own id) true (list_any (bytes_eq id) c.loop-tx.txids.keys)) c.txid.ensures)
    ((bytes_eq-Decides (txid_of t) (txid_of t)).1 refl) c.loop-tx.invariant

pub returns : goal.returns
returns c =
    subst (λ (w : PlainWatched). All (IsWatched w) c.args.pending.now) (sym c.these.ensures)
    (subst (λ (ts : List Transaction). All (IsWatched (sets c.loop-tx.points.keys c.loop-tx.txids.keys)) ts) (take_all c.loop-tx.tx-index c.args.pending.now (omega (arith, c.loop-tx-test.false))) c.loop-tx.invariant)
