use Rattle.std.proofs.Common.{◌≢◌, ◌∙◌, ◌+◌, ap, refl, sym, subst, All, true≢false}
use Rattle.std.specs.Prelude.{bytes_eq, nat_le}
use Rattle.indexmap.specs.IndexSet.{insert_key}
use Rattle.tx_codec.specs.Transaction.{Transaction}
use Rattle.tx_codec.specs.Txid.{txid_of}
use Rattle.coin_book.specs.Faults.{fault_of}
use Rattle.coin_book.specs.History.{History, with_pending}
use Rattle.coin_book.specs.Invariant.{history_of}
use Rattle.coin_book.specs.Watched.{IsWatched, PlainWatched}
use Rattle.coin_book.proofs.PendingSteps.{one_waiting, pending_fault, pending_fits, pending_full, pending_kept}
use Rattle.coin_book.proofs.WatchSteps.{history_is, watched_is}
use Rattle.coin_book.proofs.watching.Watching.add_pending.Goals as goal

pub returns-in-Err-clause-exact : goal.returns-in-Err-clause-exact
returns-in-Err-clause-exact c = λ other.
    let fresh = subst (λ (h : History). All (λ (p : Transaction). txid_of p ≢ txid_of c.args.tx.now) h.pending) (sym (history_is c.self.view_is)) c.requires.fresh in
    sym (ap (λ (h : History). fault_of (with_pending h c.args.tx.now)) (history_is c.self.view_is))
    ∙ (pending_fault _ c.self.inside.watched c.self.inside.weights.entries c.self.inside.ledger c.self.inside.pending.entries c.self.inside.txids.keys c.self.inside.count c.args.tx.now c.in-Err.fault c.self.invariant (c.is_watched.ensures.yes c.if-not-is_watched.false) fresh (c.in-Err.ensures.exact other)).1

pub returns-in-Err-clause-full : goal.returns-in-Err-clause-full
returns-in-Err-clause-full c = λ other.
    let fresh = subst (λ (h : History). All (λ (p : Transaction). txid_of p ≢ txid_of c.args.tx.now) h.pending) (sym (history_is c.self.view_is)) c.requires.fresh in
    (pending_fault _ c.self.inside.watched c.self.inside.weights.entries c.self.inside.ledger c.self.inside.pending.entries c.self.inside.txids.keys c.self.inside.count c.args.tx.now c.in-Err.fault c.self.invariant (c.is_watched.ensures.yes c.if-not-is_watched.false) fresh (c.in-Err.ensures.exact other)).0

pub returns-then-not-fits-clause-exact : goal.returns-then-not-fits-clause-exact
returns-then-not-fits-clause-exact c = λ _.
    sym (ap (λ (h : History). fault_of (with_pending h c.args.tx.now)) (history_is c.self.view_is))
    ∙ pending_full _ c.self.inside.watched c.self.inside.weights.entries c.self.inside.ledger c.self.inside.pending.entries c.self.inside.txids.keys c.self.inside.count c.args.tx.now c.count_beside-more.result c.self.invariant (c.is_watched.ensures.yes c.if-not-is_watched.false) c.count_beside-more.ensures
    (sym (λ k. nat_le (c.len.ensures.len k + c.len-2.ensures.len k + c.count_beside-more.result) 100_000) ∙ sym c.fits.ensures ∙ c.if-not-fits.true)

pub returns-in-Err-clause-short : goal.returns-in-Err-clause-short
returns-in-Err-clause-short c = λ _ _.
    pending_fits _ _ c.self.inside.watched c.self.inside.weights.entries c.self.inside.ledger c.self.inside.pending.entries c.self.inside.txids.keys c.self.inside.count c.args.tx.now c.count_beside-more.result _ _ _
    (history_is c.self.view_is) c.self.invariant (c.is_watched.ensures.yes c.if-not-is_watched.false) c.count_beside-more.ensures c.len.ensures.len c.len-2.ensures.len c.fits.ensures c.if-not-fits.false

pub returns-in_err-keep_waiting-clause-short : goal.returns-in_err-keep_waiting-clause-short
returns-in_err-keep_waiting-clause-short c = λ _ _.
    pending_fits _ _ c.self.inside.watched c.self.inside.weights.entries c.self.inside.ledger c.self.inside.pending.entries c.self.inside.txids.keys c.self.inside.count c.args.tx.now c.count_beside-more.result _ _ _
    (history_is c.self.view_is) c.self.invariant (c.is_watched.ensures.yes c.if-not-is_watched.false) c.count_beside-more.ensures c.len.ensures.len c.len-2.ensures.len c.fits.ensures c.if-not-fits.false

pub invariant_of-self-2 : goal.invariant_of-self-2
invariant_of-self-2 c =
    let fresh = subst (λ (h : History). All (λ (p : Transaction). txid_of p ≢ txid_of c.args.tx.now) h.pending) (sym (history_is c.self.view_is)) c.requires.fresh in
    pending_kept _ _ c.self.inside.watched c.self.inside.weights.entries c.self.inside.ledger c.self.inside.pending.entries c.in-Ok.coins.entries c.keep_waiting.new.pending.entries c.self.inside.txids.keys c.keep_waiting.new.txids.keys c.self.inside.count c.args.tx.now
    c.count_beside-more.result c.self.invariant (c.is_watched.ensures.yes c.if-not-is_watched.false) fresh c.in-Ok.ensures.made c.count_beside-more.ensures
    (sym (λ k. nat_le (c.len.ensures.len k + c.len-2.ensures.len k + c.count_beside-more.result) 100_000) ∙ sym c.fits.ensures ∙ c.if-not-fits.false)
    c.in-Ok.ensures.exact c.in_ok-keep_waiting.ensures.pending
    (c.in_ok-keep_waiting.ensures.txids ∙ (λ k. insert_key bytes_eq c.self.inside.txids.keys (c.txid-id.ensures k)))
    (one_waiting (history_of c.self.inside.wallet.value c.self.inside.blocks.items c.self.inside.waiting.items) c.args.tx.now c.self.inside.waiting.items c.keep_waiting.new.waiting.items refl c.in_ok-keep_waiting.ensures.waiting)

pub returns-clause-added : goal.returns-clause-added
returns-clause-added c =
    sym (one_waiting (history_of c.self.inside.wallet.value c.self.inside.blocks.items c.self.inside.waiting.items) c.args.tx.now c.self.inside.waiting.items c.keep_waiting.new.waiting.items refl c.in_ok-keep_waiting.ensures.waiting)
    ∙ ap (λ (h : History). with_pending h c.args.tx.now) (history_is c.self.view_is)

pub returns-clause-exact : goal.returns-clause-exact
returns-clause-exact c =
    pending_fits _ _ c.self.inside.watched c.self.inside.weights.entries c.self.inside.ledger c.self.inside.pending.entries c.self.inside.txids.keys c.self.inside.count c.args.tx.now c.count_beside-more.result _ _ _
    (history_is c.self.view_is) c.self.invariant (c.is_watched.ensures.yes c.if-not-is_watched.false) c.count_beside-more.ensures c.len.ensures.len c.len-2.ensures.len c.fits.ensures c.if-not-fits.false

pub returns-then-not-is_watched-clause-short : goal.returns-then-not-is_watched-clause-short
returns-then-not-is_watched-clause-short c = λ seen is.
    absurd (true≢false (sym (c.is_watched.ensures.no (subst (λ (w : PlainWatched). IsWatched w c.args.tx.now) (sym (watched_is c.self.view_is)) seen)) ∙ c.if-not-is_watched.true))
