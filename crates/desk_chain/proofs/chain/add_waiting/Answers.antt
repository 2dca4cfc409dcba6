use Rattle.std.specs.Prelude.{List, Bool, [], ◌∷◌, ◌++◌}
use Rattle.std.proofs.Common.{ap, arith, cond, subst, ◌∙◌}
use Rattle.tx_codec.specs.Transaction.{Transaction}
use Rattle.tx_codec.specs.Txid.{txid_of}
use Rattle.wallet_text.specs.PlainWallet.{PlainWallet}
use Rattle.wallet_text.specs.WalletRules.{IsWallet}
use Rattle.desk_chain.proofs.ChainLaws.{fresh_book, wallet_more}
use Rattle.desk_chain.proofs.TxidLaws.{same_kept, told_ok}
use Rattle.desk_chain.proofs.chain.add_waiting.Goals as goal

pub add_pending-requires-clause-fresh : goal.add_pending-requires-clause-fresh
add_pending-requires-clause-fresh c = fresh_book c.args.book.now.pending c.args.wallet.now.pending (txid_of c.args.tx) c.requires.same c.requires.fresh

pub invariant_of-wallet-2 : goal.invariant_of-wallet-2
invariant_of-wallet-2 c =
    let w : PlainWallet = record {
      height = c.wallet.inside.height;
      hash = c.wallet.inside.hash;
      scripts = c.wallet.inside.scripts.items;
      change = c.wallet.inside.change;
      earlier = c.wallet.inside.earlier.items;
      pending = c.wallet.inside.pending.items;
      abandoned = c.wallet.inside.abandoned.items;
      locked = c.wallet.inside.locked.items;
    } in
    let room = c.in_ok-reserve.ensures.ok in
    let pushed = c.push.ensures.items ∙ ap (λ (b : Bool). cond b (c.reserve.new.self.items ++ c.args.tx ∷ []) c.reserve.new.self.items) (c.push.ensures.succeeds (omega arith)) ∙ ap (λ (ts : List Transaction). ts ++ c.args.tx ∷ []) c.in_ok-reserve.ensures.items in
    wallet_more w c.args.wallet.now c.args.tx c.push.new.self.items c.wallet.view_is pushed (subst IsWallet c.wallet.view_is c.wallet.invariant) c.requires.text c.requires.fresh c.requires.first

pub returns-clause-txids : goal.returns-clause-txids
returns-clause-txids c =
    let e = c.in_ok-reserve-2.ensures in
    let kept = same_kept c.args.wallet.now.pending c.args.txids.now c.reserve-2.new.self e.txids e.parents c.requires.txids in
    told_ok c.add.result (c.add.ensures.succeeds e.room) (c.add.ensures.added c.args.wallet.now.pending) kept
