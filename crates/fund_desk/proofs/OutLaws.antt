-- A payment that is given out.
use Rattle.std.specs.Prelude.{ℕ, ◌≡◌, List}
use Rattle.std.proofs.Common.{ap, ◌∙◌, subst}
use Rattle.coin_candidates.specs.declared.candidate.Candidate.{Candidate}
use Rattle.fund_base.specs.declared.outpoint.OutPoint.{OutPoint}
use Rattle.fund_files.specs.declared.chain.Chain.{Chain}
use Rattle.fund_payment.specs.Report.{psbt_of}
use Rattle.fund_plan.specs.Pays.{payment_of}
use Rattle.fund_plan.specs.Selection.{PlainFunded}
use Rattle.psbt_codec.specs.PartialTransaction.{PartialTransaction}
use Rattle.psbt_codec.specs.Psbt.{IsPsbt, written}
use Rattle.request_text.specs.PlainRequest.{PlainRequest}
use Rattle.tx_codec.specs.Transaction.{Transaction}
use Rattle.tx_codec.specs.Txid.{txid_of}
use Rattle.desk_machine.specs.State.{Payment, points}
use Rattle.fund_desk.specs.Given.{IsWrittenOut}
use Rattle.fund_desk.specs.declared.committing.Given.{Given}

abbrev pub payment : List ℕ → List OutPoint → Payment
payment txid coins = record { txid = txid; coins = coins }

-- the parts that were made are those that are given out, the PSBT in the request's version
pub out_is : (k : Chain) (r : PlainRequest) (f : PlainFunded) (g : Given) (p : PartialTransaction) (tx : Transaction) (coins : List Candidate) (version : ℕ) → p ≡ psbt_of k.book r k.wallet.change f → IsPsbt p → tx ≡ p.tx → g.txid ≡ txid_of tx
    → g.psbt.items ≡ written version p → version ≡ r.psbt
    → g.payment ≡ payment g.txid (points coins) → coins ≡ f.coins → IsWrittenOut k r f g
unfolding psbt_of
out_is k r f g p tx coins version is fits own id bytes asked pay same =
    let t : Transaction = payment_of r k.wallet.change f in
    let named : g.txid ≡ txid_of t = id ∙ ap txid_of (own ∙ ap (λ (x : PartialTransaction). x.tx) is) in
    record {
      txid_is = named;
      psbt_is = bytes ∙ ap (λ (v : ℕ). written v p) asked ∙ ap (written r.psbt) is;
      payment_is = pay ∙ ap (λ (n : List ℕ). payment n (points coins)) named ∙ ap (λ (cs : List Candidate). payment (txid_of t) (points cs)) same;
      fits = subst IsPsbt is fits;
    }
