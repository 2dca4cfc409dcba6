use Rattle.std.proofs.Common.{◌≤◌, ◌∙◌, List, map, sym, ap, subst, All}
use Rattle.std.specs.Prelude.{sum_by}
use Rattle.std.proofs.lemmas.List.Elements.{All-weaker}
use Rattle.tx_codec.specs.Transaction.{Transaction}
use Rattle.tx_codec.specs.TransactionText.{IsTransaction}
use Rattle.tx_codec.specs.Txid.{txid_of}
use Rattle.tx_codec.specs.declared.tx.TxOut.{TxOut}
use Rattle.wallet_text.specs.WalletRules.{IsWallet}
use Rattle.payment_states.specs.PendingView.{no_tx, view_of}
use Rattle.fee_bump.proofs.GoesSteps.{replaced_all}
use Rattle.fee_bump.proofs.bump.replacing.Goals as goal

pub txid_set-requires-clause-same : goal.txid_set-requires-clause-same
txid_set-requires-clause-same c = c.deref-3.ensures.value ∙ c.in_ok-names.ensures ∙ ap (map txid_of) (c.deref.ensures.value ∙ sym c.deref-2.ensures.value)

pub terms-requires-clause-txs : goal.terms-requires-clause-txs
terms-requires-clause-txs c = c.deref-4.ensures.value ∙ c.in_ok-txs.ensures.value

pub terms-requires-clause-names : goal.terms-requires-clause-names
terms-requires-clause-names c = c.in_ok-names.ensures ∙ ap (map txid_of) (c.deref.ensures.value ∙ sym c.deref-4.ensures.value)

pub terms-requires-clause-gone : goal.terms-requires-clause-gone
terms-requires-clause-gone c = c.in_ok-gone.ensures ∙ ap (map txid_of) (c.deref-2.ensures.value ∙ sym c.deref-4.ensures.value)

-- outputs of at most 21,000,000 bitcoin
abbrev IsPaid : Transaction → Type 0
IsPaid t = sum_by (λ (x : TxOut). x.value) t.outputs ≤ 2_100_000_000_000_000

pub terms-requires-clause-money : goal.terms-requires-clause-money
terms-requires-clause-money c =
    let rules : IsWallet c.args.wallet.now = subst IsWallet c.wallet.view_is c.wallet.invariant in
    subst (λ (ts : List Transaction). All IsPaid ts) (sym (c.deref-4.ensures.value ∙ c.in_ok-txs.ensures.value))
    (replaced_all IsPaid (view_of c.args.wallet.now c.args.book.now) c.args.place (All-weaker IsTransaction IsPaid (λ t k. k.money) c.args.wallet.now.pending rules.pending))

pub terms-requires-clause-payment : goal.terms-requires-clause-payment
terms-requires-clause-payment c =
    let rules : IsWallet c.args.wallet.now = subst IsWallet c.wallet.view_is c.wallet.invariant in
    (rules.pending c.args.place no_tx c.requires.place).money
