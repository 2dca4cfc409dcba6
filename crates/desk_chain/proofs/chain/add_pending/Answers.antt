use Rattle.std.specs.Prelude.{◌≡◌, OnErr, OnOk, false}
use Rattle.std.proofs.Common.{subst, sym}
use Rattle.fund_files.specs.Chain.{IsChain}
use Rattle.fund_files.specs.declared.chain.Chain.{Chain}
use Rattle.tx_codec.specs.Txid.{txid_of}
use Rattle.desk_machine.specs.Machine.{is_later, is_repeat, with_pending}
use Rattle.desk_chain.specs.PendingTxids.{AreTxidsOf}
use Rattle.desk_chain.proofs.ChainLaws.{added_either, book_pending, chain_with, held_either, kept_either}
use Rattle.desk_chain.proofs.TxidLaws.{txids_either}
use Rattle.desk_chain.proofs.chain.add_pending.Goals as goal

pub add_waiting-requires-clause-txids : goal.add_waiting-requires-clause-txids
add_waiting-requires-clause-txids c = subst (λ (x : Chain). AreTxidsOf x.wallet.pending c.args.txids.now) (sym c.held.view_is) c.requires.txids

pub add_waiting-requires-clause-fresh : goal.add_waiting-requires-clause-fresh
add_waiting-requires-clause-fresh c = subst (λ (x : Chain). is_repeat x.wallet.pending (txid_of c.args.tx) ≡ false) (sym c.held.view_is) c.requires.fresh

pub add_waiting-requires-clause-first : goal.add_waiting-requires-clause-first
add_waiting-requires-clause-first c = subst (λ (x : Chain). is_later x.wallet.pending c.args.tx ≡ false) (sym c.held.view_is) c.requires.first

pub add_waiting-requires-clause-same : goal.add_waiting-requires-clause-same
add_waiting-requires-clause-same c =
    let i : Chain = record { wallet = c.held.inside.wallet; book = c.held.inside.book; tip = c.held.inside.tip } in
    book_pending i (subst IsChain (sym c.held.view_is) c.requires.held)

pub returns-clause-added : goal.returns-clause-added
returns-clause-added c =
    let i : Chain = record { wallet = c.held.inside.wallet; book = c.held.inside.book; tip = c.held.inside.tip } in
    subst (λ (x : Chain). OnOk c.add_waiting.result (chain_with i c.add_waiting.new.wallet c.add_waiting.new.book ≡ with_pending x c.args.tx)) c.held.view_is
    (added_either c.add_waiting.result i c.add_waiting.new.wallet c.args.tx c.add_waiting.new.book c.add_waiting.ensures.wallet c.add_waiting.ensures.book)

pub returns-clause-held : goal.returns-clause-held
returns-clause-held c =
    let i : Chain = record { wallet = c.held.inside.wallet; book = c.held.inside.book; tip = c.held.inside.tip } in
    held_either c.add_waiting.result i c.add_waiting.new.wallet c.args.tx c.add_waiting.new.book c.add_waiting.ensures.wallet c.add_waiting.ensures.book c.add_waiting.ensures.kept_wallet c.add_waiting.ensures.kept_book
    (subst IsChain (sym c.held.view_is) c.requires.held) c.requires.text (subst (λ (x : Chain). is_repeat x.wallet.pending (txid_of c.args.tx) ≡ false) (sym c.held.view_is) c.requires.fresh)
    (subst (λ (x : Chain). is_later x.wallet.pending c.args.tx ≡ false) (sym c.held.view_is) c.requires.first)

pub returns-clause-kept : goal.returns-clause-kept
returns-clause-kept c =
    let i : Chain = record { wallet = c.held.inside.wallet; book = c.held.inside.book; tip = c.held.inside.tip } in
    subst (λ (x : Chain). OnErr c.add_waiting.result (chain_with i c.add_waiting.new.wallet c.add_waiting.new.book ≡ x)) c.held.view_is (kept_either c.add_waiting.result i c.add_waiting.new.wallet c.add_waiting.new.book c.add_waiting.ensures.kept_wallet c.add_waiting.ensures.kept_book)

pub returns-clause-txids : goal.returns-clause-txids
returns-clause-txids c =
    txids_either c.add_waiting.result c.held.inside.wallet c.add_waiting.new.wallet c.args.tx c.add_waiting.new.txids c.add_waiting.ensures.wallet c.add_waiting.ensures.kept_wallet c.add_waiting.ensures.txids c.add_waiting.ensures.kept_txids
