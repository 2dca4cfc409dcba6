use Rattle.std.proofs.Common.{◌≡◌, ◌∙◌, ◌-◌, ℕ, List, min, ap, rules}
use Rattle.std.specs.Prelude.{sum_by, unwrap_or}
use Rattle.fund_base.specs.declared.outpoint.OutPoint.{OutPoint}
use Rattle.tx_codec.specs.Transaction.{Transaction}
use Rattle.tx_codec.specs.declared.tx.TxOut.{TxOut}
use Rattle.known_fees.specs.Worth.{fee_in, value_spent, worth_of}
use Rattle.known_fees.proofs.WorthSteps.{capped_fee}
use Rattle.known_fees.proofs.worth.fee_in.Goals as goal

pub returns-clause-value : goal.returns-clause-value
unfolding fee_in
returns-clause-value c =
    let outputs : ℕ = sum_by (λ (x : TxOut). x.value) c.args.tx.now.outputs in
    let spent : c.worth_together-spent.result ≡ min (value_spent c.args.book.now c.args.txs.now c.args.tx.now) 4_200_000_000_000_000 =
    c.worth_together-spent.ensures ∙ ap (λ (ps : List OutPoint). min (sum_by (λ o. unwrap_or (worth_of c.args.book.now c.args.txs.now o) 0) ps) 4_200_000_000_000_000) (c.as_slice.ensures.keys ∙ c.in_ok-points.ensures) in
    let capped : c.min.result ≡ min (c.worth_together-spent.result - c.taken.result) 2_100_000_000_000_000 = search rules in
    capped
    ∙ (λ k. min (spent k - (c.taken.ensures ∙ ap (λ (os : List TxOut). min (sum_by (λ (x : TxOut). x.value) os) 4_200_000_000_000_000) (c.deref.ensures.value ∙ ap (λ (t : Transaction). t.outputs) c.tx.view_is)) k) 2_100_000_000_000_000)
    ∙ capped_fee (value_spent c.args.book.now c.args.txs.now c.args.tx.now) outputs c.requires.money
