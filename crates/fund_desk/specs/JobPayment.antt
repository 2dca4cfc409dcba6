-- Whether a desk gives out the payment of a job.
use Rattle.std.specs.Prelude.{ℕ, ◌≡◌, ◌≢◌, List, Some}
use Rattle.desk_machine.specs.Machine.{commit_step, stay}
use Rattle.desk_machine.specs.Replies.{Committed, Reply}
use Rattle.desk_machine.specs.State.{Job, PlainDesk, job_at}
use Rattle.fund_desk.specs.Given.{IsGiven}
use Rattle.fund_desk.specs.declared.committing.Given.{Given}

-- it is the payment of the job of this name
pub record IsPaymentOfJob (d : PlainDesk) (name : List ℕ) (g : Given) : Type 0 where
  pub job : Job
  pub stands : job_at d.jobs name ≡ Some job
  pub given : IsGiven d.held d.committed job g

-- none is: the machine replies so to a commit and stays as it was, and the reply is no commitment
pub record HasNoPayment (d : PlainDesk) (name : List ℕ) (reply : Reply) : Type 0 where
  pub refuses : commit_step d name ≡ stay d reply
  pub other : (txid psbt : List ℕ) → reply ≢ Committed txid psbt
