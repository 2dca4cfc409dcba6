-- What a job is opened with.
use Rattle.std.specs.Prelude.{ℕ, ◌≡◌, List, All, Contains, None, Ok}
use Rattle.coin_candidates.specs.declared.candidate.Candidate.{Candidate}
use Rattle.request_text.specs.RequestText.{request_of}
use Rattle.desk_machine.specs.Commits.{IsFree}
use Rattle.desk_machine.specs.State.{Job, PlainDesk, candidates_at, new_job}

-- It has this name, and no try is made and no turn had. Its request is that of the file and replaces no payment, its change is
-- paid to the wallet's script, and its candidates are exactly the coins that may be spent now and that no committed payment
-- spends, with their prices at the request's rate.
pub record IsOpenedWith (d : PlainDesk) (name request : List ℕ) (j : Job) : Type 0 where
  pub fresh : j ≡ new_job name j.state.plan
  pub asked : request_of request ≡ Ok j.state.plan.request
  pub change : j.state.plan.change ≡ d.held.wallet.change
  pub bump : j.state.plan.bump ≡ None
  pub only : All (λ (c : Candidate). Contains (candidates_at d.held j.state.plan.request.rate) c × IsFree d.committed c.coin) j.state.plan.candidates
  pub all : (c : Candidate) → Contains (candidates_at d.held j.state.plan.request.rate) c → IsFree d.committed c.coin → Contains j.state.plan.candidates c
