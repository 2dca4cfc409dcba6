-- A payment that is given out to be signed.
use Rattle.std.specs.Prelude.{ℕ, ◌≡◌, ◌≢◌, List, Some, None}
use Rattle.fund_files.specs.declared.chain.Chain.{Chain}
use Rattle.fund_payment.specs.Report.{psbt_of}
use Rattle.fund_payment.specs.Shown.{ShowsCoins}
use Rattle.fund_plan.specs.Pays.{payment_of}
use Rattle.fund_plan.specs.Selection.{PlainFunded}
use Rattle.psbt_codec.specs.Psbt.{IsPsbt, written}
use Rattle.request_text.specs.PlainRequest.{PlainRequest}
use Rattle.tx_codec.specs.Txid.{txid_of}
use Rattle.desk_machine.specs.Machine.{by_funded, funded_of, psbt_at, stay}
use Rattle.desk_machine.specs.Replies.{Reply, Committed}
use Rattle.desk_machine.specs.State.{Job, Payment, PlainDesk, candidates_in, points}
use Rattle.desk_machine.specs.Taken.{first_taken}
use Rattle.fund_desk.specs.declared.committing.Given.{Given}

-- it is what is given out of this payment, its PSBT in the version that the request asks for
pub record IsWrittenOut (k : Chain) (r : PlainRequest) (f : PlainFunded) (g : Given) : Type 0 where
  pub txid_is : g.txid ≡ txid_of (payment_of r k.wallet.change f)
  pub psbt_is : g.psbt.items ≡ written r.psbt (psbt_of k.book r k.wallet.change f)
  pub payment_is : g.payment ≡ record { txid = txid_of (payment_of r k.wallet.change f); coins = points f.coins }
  pub fits : IsPsbt (psbt_of k.book r k.wallet.change f)

-- It is the payment that the job's last turn came to, and none of its coins is taken. Its PSBT shows its coins.
pub record IsGiven (k : Chain) (committed : List Payment) (j : Job) (g : Given) : Type 0 where
  pub funded : PlainFunded
  pub answers : funded_of j.answer ≡ Some funded
  pub free : first_taken committed (candidates_in k) j.state.plan.request funded.row funded.coins ≡ None
  pub out : IsWrittenOut k j.state.plan.request funded g
  pub shows : ShowsCoins funded.coins (psbt_at k j funded)

-- Why none is given out, whatever other jobs are open: the machine replies so and stays as it was, and the reply is no
-- commitment.
pub record IsNotGiven (k : Chain) (committed : List Payment) (j : Job) (reply : Reply) : Type 0 where
  pub refuses : (name : List ℕ) (jobs : List Job) → let d : PlainDesk = record { held = k; committed = committed; jobs = jobs } in by_funded d name j (funded_of j.answer) ≡ stay d reply
  pub other : (txid psbt : List ℕ) → reply ≢ Committed txid psbt
