use Rattle.std.proofs.Common.{◌∙◌, ◌++◌, ◌∷◌, ◌+◌, [], List, Bool, cond, Some, ap, refl, sym, subst, arith}
use Rattle.std.specs.Prelude.{nat_le}
use Rattle.std.specs.declared.snapshot.Snapshot.{Snapshot}
use Rattle.block_feed.specs.Block.{ChainBlock}
use Rattle.coin_book.specs.Faults.{fault_of}
use Rattle.coin_book.specs.History.{History, with_block}
use Rattle.coin_book.specs.Invariant.{IsLedger, history_of}
use Rattle.coin_book.specs.declared.fault.BookFault.{BookFault}
use Rattle.coin_book.proofs.BlockSteps.{block_back, block_full, block_kept, block_sound, count_shown, one_block, shown_next}
use Rattle.coin_book.proofs.ListSteps.{on_err, only_err}
use Rattle.coin_book.proofs.WatchSteps.{history_is}
use Rattle.coin_book.proofs.watching.Watching.append.Goals as goal

pub returns-in-Err-clause-exact : goal.returns-in-Err-clause-exact
returns-in-Err-clause-exact c = λ _.
    let b = c.args.block.value in
    let h = history_of c.self.inside.wallet.value c.self.inside.blocks.items c.self.inside.waiting.items in
    let ws = c.self.inside.weights.entries in
    let l = c.self.inside.ledger in
    let ps = c.self.inside.pending.entries in
    let txids = c.self.inside.txids.keys in
    let k = c.self.invariant in
    let next = shown_next c.args.self.now h c.self.inside.watched ws l c.args.more ps txids c.self.inside.count c.left_of-left.result b c.self.view_is k c.requires.holds c.requires.sound c.left_of-left.ensures in
    sym (ap (λ (h : History). fault_of (with_block h b)) (history_is c.self.view_is))
    ∙ block_full h b c.self.inside.watched ws l c.args.more ps txids c.self.inside.count c.left_of-left.result next
    (sym (λ j. nat_le (c.len.ensures.len j + c.len-2.ensures.len j + c.left_of-left.result) 100_000) ∙ c.in-Err.ensures.full.1)
    ∙ ap (λ (e : BookFault). Some e) (sym c.in-Err.ensures.full.0)

pub invariant_of-self : goal.invariant_of-self
invariant_of-self c =
    subst (λ (bs : List (Snapshot ChainBlock)). IsLedger (history_of c.self.inside.wallet.value bs c.self.inside.waiting.items) c.self.inside.watched c.self.inside.weights.entries c.self.inside.ledger c.self.inside.pending.entries c.self.inside.txids.keys c.self.inside.count)
    (sym c.in_err-reserve.ensures.items) c.self.invariant

pub returns-in_err-reserve-clause-added : goal.returns-in_err-reserve-clause-added
returns-in_err-reserve-clause-added c = only_err _ c.from_residual.result c.from_residual.ensures.0

pub returns-in_err-reserve-clause-kept : goal.returns-in_err-reserve-clause-kept
returns-in_err-reserve-clause-kept c =
    on_err c.from_residual.result (ap (λ (bs : List (Snapshot ChainBlock)). record { history = history_of c.self.inside.wallet.value bs c.self.inside.waiting.items; watched = c.self.inside.watched }) c.in_err-reserve.ensures.items ∙ c.self.view_is)

pub invariant_of-self-in_err-append : goal.invariant_of-self-in_err-append
invariant_of-self-in_err-append c =
    block_back _ c.self.inside.watched c.self.inside.weights.entries c.self.inside.ledger c.append.new.self c.self.inside.pending.entries c.self.inside.txids.keys c.self.inside.count
    (subst (λ (bs : List (Snapshot ChainBlock)). IsLedger (history_of c.self.inside.wallet.value bs c.self.inside.waiting.items) c.self.inside.watched c.self.inside.weights.entries c.self.inside.ledger c.self.inside.pending.entries c.self.inside.txids.keys c.self.inside.count)
    (sym c.in_ok-reserve.ensures.items) c.self.invariant)
    c.in_err-append.ensures.kept_coins c.in_err-append.ensures.kept_heights c.in_err-append.ensures.kept_spends

pub invariant_of-self-2 : goal.invariant_of-self-2
invariant_of-self-2 c =
    let b = c.args.block.value in
    let h = history_of c.self.inside.wallet.value c.self.inside.blocks.items c.self.inside.waiting.items in
    let ws = c.self.inside.weights.entries in
    let l = c.self.inside.ledger in
    let ps = c.self.inside.pending.entries in
    let txids = c.self.inside.txids.keys in
    let k = c.self.invariant in
    let next = shown_next c.args.self.now h c.self.inside.watched ws l c.args.more ps txids c.self.inside.count c.left_of-left.result b c.self.view_is k c.requires.holds c.requires.sound c.left_of-left.ensures in
    let room = c.in_ok-reserve.ensures.ok in
    let pushed = c.push.ensures.items ∙ ap (λ (b : Bool). cond b (c.reserve.new.self.items ++ c.args.block ∷ []) c.reserve.new.self.items) (c.push.ensures.succeeds (omega arith)) in
    block_kept h _ b c.self.inside.watched ws l c.args.more c.append.new.self ps c.settle.new.pending.entries txids c.self.inside.count c.left_of-left.result c.args.count next
    (record {
      coins = c.in_ok-append.ensures.coins;
      heights = c.in_ok-append.ensures.heights;
      spends = c.in_ok-append.ensures.spends;
      heights_apart = c.in_ok-append.ensures.heights_apart;
    })
    (sym (λ j. nat_le (c.len.ensures.len j + c.len-2.ensures.len j + c.left_of-left.result) 100_000) ∙ c.in-Ok.ensures.fits) c.settle.ensures
    (count_shown c.args.self.now h c.self.inside.watched c.self.inside.count c.args.count b c.self.view_is k.count_is c.requires.count)
    (one_block c.self.inside.wallet.value c.self.inside.waiting.items c.self.inside.blocks.items c.reserve.new.self.items c.push.new.self.items c.args.block b refl c.in_ok-reserve.ensures.items pushed)

pub returns-clause-exact : goal.returns-clause-exact
returns-clause-exact c =
    let b = c.args.block.value in
    let h = history_of c.self.inside.wallet.value c.self.inside.blocks.items c.self.inside.waiting.items in
    let ws = c.self.inside.weights.entries in
    let l = c.self.inside.ledger in
    let ps = c.self.inside.pending.entries in
    let txids = c.self.inside.txids.keys in
    let k = c.self.invariant in
    let next = shown_next c.args.self.now h c.self.inside.watched ws l c.args.more ps txids c.self.inside.count c.left_of-left.result b c.self.view_is k c.requires.holds c.requires.sound c.left_of-left.ensures in
    sym (ap (λ (h : History). fault_of (with_block h b)) (history_is c.self.view_is))
    ∙ block_sound h b c.self.inside.watched ws l c.args.more ps txids c.self.inside.count c.left_of-left.result next
    (sym (λ j. nat_le (c.len.ensures.len j + c.len-2.ensures.len j + c.left_of-left.result) 100_000) ∙ c.in-Ok.ensures.fits)

pub returns-in_err-reserve-clause-short : goal.returns-in_err-reserve-clause-short
returns-in_err-reserve-clause-short c = λ _.
    let b = c.args.block.value in
    let h = history_of c.self.inside.wallet.value c.self.inside.blocks.items c.self.inside.waiting.items in
    let ws = c.self.inside.weights.entries in
    let l = c.self.inside.ledger in
    let ps = c.self.inside.pending.entries in
    let txids = c.self.inside.txids.keys in
    let k = c.self.invariant in
    let next = shown_next c.args.self.now h c.self.inside.watched ws l c.args.more ps txids c.self.inside.count c.left_of-left.result b c.self.view_is k c.requires.holds c.requires.sound c.left_of-left.ensures in
    sym (ap (λ (h : History). fault_of (with_block h b)) (history_is c.self.view_is))
    ∙ block_sound h b c.self.inside.watched ws l c.args.more ps txids c.self.inside.count c.left_of-left.result next
    (sym (λ j. nat_le (c.len.ensures.len j + c.len-2.ensures.len j + c.left_of-left.result) 100_000) ∙ c.in-Ok.ensures.fits)

pub returns-in_err-append-clause-short : goal.returns-in_err-append-clause-short
returns-in_err-append-clause-short c = λ _.
    let b = c.args.block.value in
    let h = history_of c.self.inside.wallet.value c.self.inside.blocks.items c.self.inside.waiting.items in
    let ws = c.self.inside.weights.entries in
    let l = c.self.inside.ledger in
    let ps = c.self.inside.pending.entries in
    let txids = c.self.inside.txids.keys in
    let k = c.self.invariant in
    let next = shown_next c.args.self.now h c.self.inside.watched ws l c.args.more ps txids c.self.inside.count c.left_of-left.result b c.self.view_is k c.requires.holds c.requires.sound c.left_of-left.ensures in
    sym (ap (λ (h : History). fault_of (with_block h b)) (history_is c.self.view_is))
    ∙ block_sound h b c.self.inside.watched ws l c.args.more ps txids c.self.inside.count c.left_of-left.result next
    (sym (λ j. nat_le (c.len.ensures.len j + c.len-2.ensures.len j + c.left_of-left.result) 100_000) ∙ c.in-Ok.ensures.fits)
