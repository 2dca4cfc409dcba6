use Rattle.std.proofs.Common.{◌∙◌, ◌+◌, ◌≤◌, ℕ, List, ap, inr, refl, sym, subst, arith, length}
use Rattle.std.specs.Prelude.{◌^◌}
use Rattle.std.proofs.lemmas.List.{length-map}
use Rattle.block_feed.specs.Block.{ChainBlock}
use Rattle.tx_codec.specs.Txid.{txid_of}
use Rattle.coin_book.specs.Faults.{fault_behind, fault_of}
use Rattle.coin_book.specs.History.{Confirmed, History, confirmed_in, with_block}
use Rattle.coin_book.specs.Invariant.{history_of, points_in, weigher}
use Rattle.coin_book.specs.Short.{IsShortFor}
use Rattle.coin_book.specs.declared.fault.BookFault.TheVariants.{Memory}
use Rattle.coin_book.proofs.BlockSteps.{block_fault, holds_shown, kept_chain, sound_shown}
use Rattle.coin_book.proofs.ShortSteps.{same_fault, short_block}
use Rattle.coin_book.proofs.WatchSteps.{history_is}
use Rattle.coin_book.proofs.watching.Watching.add_raw.Goals as goal

pub returns-in-Err-clause-exact : goal.returns-in-Err-clause-exact
returns-in-Err-clause-exact c = λ other.
    let h = history_of c.self.inside.wallet.value c.self.inside.blocks.items c.self.inside.waiting.items in
    let ws = c.self.inside.weights.entries in
    let l = c.self.inside.ledger in
    let ps = c.self.inside.pending.entries in
    let txids = c.self.inside.txids.keys in
    let k = c.self.invariant in
    let chain = kept_chain h c.self.inside.watched ws l ps txids c.self.inside.count k in
    let same = refl in
    sym (ap (λ (h : History). fault_of (with_block h c.args.block.now)) (history_is c.self.view_is))
    ∙ block_fault h c.self.inside.watched ws l ps txids c.self.inside.count c.args.block.now c.in-Err.fault k
    (sym (ap (λ (l : List Confirmed). fault_behind (points_in (weigher ws) h.confirmed) (points_in (weigher ws) l)) same) ∙ c.in-Err.ensures.exact h.confirmed chain k.count_is other)

pub returns-in-Err-clause-short : goal.returns-in-Err-clause-short
returns-in-Err-clause-short c = λ is.
    let h = history_of c.self.inside.wallet.value c.self.inside.blocks.items c.self.inside.waiting.items in
    let ws = c.self.inside.weights.entries in
    let l = c.self.inside.ledger in
    let ps = c.self.inside.pending.entries in
    let txids = c.self.inside.txids.keys in
    let k = c.self.invariant in
    let chain = kept_chain h c.self.inside.watched ws l ps txids c.self.inside.count k in
    let same = refl in
    subst (λ (h : History). IsShortFor h c.args.block.now) (history_is c.self.view_is)
    (short_block h c.self.inside.watched ws l ps txids c.self.inside.count c.args.block.now (confirmed_in c.args.block.now) k same (c.in-Err.ensures.short h.confirmed chain k.count_is (same_fault c.in-Err.fault Memory is)))

pub append-requires-clause-holds : goal.append-requires-clause-holds
append-requires-clause-holds c =
    let h = history_of c.self.inside.wallet.value c.self.inside.blocks.items c.self.inside.waiting.items in
    let ws = c.self.inside.weights.entries in
    let l = c.self.inside.ledger in
    let ps = c.self.inside.pending.entries in
    let txids = c.self.inside.txids.keys in
    let k = c.self.invariant in
    let chain = kept_chain h c.self.inside.watched ws l ps txids c.self.inside.count k in
    let same = refl in
    rw c.bytes.ensures (holds_shown c.args.self.now h c.self.inside.watched ws l c.in-Ok.more ps txids c.self.inside.count c.args.block.now _ c.self.view_is k same (c.in-Ok.ensures.holds h.confirmed chain k.count_is))

pub append-requires-clause-sound : goal.append-requires-clause-sound
append-requires-clause-sound c =
    let h = history_of c.self.inside.wallet.value c.self.inside.blocks.items c.self.inside.waiting.items in
    let ws = c.self.inside.weights.entries in
    let l = c.self.inside.ledger in
    let ps = c.self.inside.pending.entries in
    let txids = c.self.inside.txids.keys in
    let k = c.self.invariant in
    let chain = kept_chain h c.self.inside.watched ws l ps txids c.self.inside.count k in
    let same = refl in
    rw c.bytes.ensures (sound_shown c.args.self.now h c.self.inside.watched ws l ps txids c.self.inside.count c.args.block.now _ c.self.view_is k same (c.in-Ok.ensures.exact h.confirmed chain k.count_is))

pub append-requires-clause-count : goal.append-requires-clause-count
append-requires-clause-count c =
    let had = c.self.invariant.count_is ∙ ap (λ (h : History). length h.confirmed) (history_is c.self.view_is) in
    let more = ap (λ (l : List (List ℕ)). length l) c.txids.ensures ∙ length-map c.args.block.now.txs txid_of ∙ ap (λ (b : ChainBlock). length b.txs) (sym c.bytes.ensures) in
    c.in-Some.ensures.1 ∙ (λ j. had j + more j)

pub returns-in_default-clause-short : goal.returns-in_default-clause-short
returns-in_default-clause-short c = λ _.
    let h = history_of c.self.inside.wallet.value c.self.inside.blocks.items c.self.inside.waiting.items in
    let txs = ap (λ (l : List (List ℕ)). length l) c.txids.ensures ∙ length-map c.args.block.now.txs txid_of in
    let many : 2 ^ 64 ≤ length h.confirmed + length c.args.block.now.txs = omega (arith, c.in_default.ensures, c.self.invariant.count_is, txs) in
    subst (λ (h : History). IsShortFor h c.args.block.now) (history_is c.self.view_is) (inr (inr many))

pub lent_behind-requires : goal.lent_behind-requires
lent_behind-requires c =
    let txs = ap (λ (l : List (List ℕ)). length l) c.txids.ensures ∙ length-map c.args.block.now.txs txid_of in
    omega (arith, txs, c.in-Some.ensures.0, c.in-Some.ensures.1)
