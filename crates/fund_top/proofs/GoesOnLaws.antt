-- A job that was left by a run of the same files ends as that run without a stop.
use Rattle.std.proofs.Common.{◌≡◌, ℕ, ◌+◌, ◌≤◌, List, Option, Some, inl, inr}
use Rattle.block_feed.specs.Block.{ChainBlock}
use Rattle.fund_shelf.specs.Causes.{ShelfView, SinkView}
use Rattle.fund_files.specs.Chain.{chain_from}
use Rattle.fund_files.specs.declared.chain.Chain.{Chain}
use Rattle.fund_outside.specs.Kept.{KeeperView, KeptJob}
use Rattle.fund_plan.specs.Outcome.{most_tries, tries_at}
use Rattle.kept_job.specs.Kept.{IsKeptAt}
use Rattle.request_text.specs.PlainRequest.{PlainRequest}
use Rattle.wallet_text.specs.PlainWallet.{PlainWallet}
use Rattle.command_end.specs.Names.{Sources}
use Rattle.command_end.specs.declared.status.Status.{Status}
use Rattle.command_end.specs.declared.status.Status.TheVariants as statuses
use Rattle.command_inputs.specs.Cause.{cause_of}
use Rattle.command_inputs.specs.Digest.{digest_in}
use Rattle.command_inputs.specs.Outcome.{plan_of, planned_after}
use Rattle.command_inputs.specs.Outcome as dues
use Rattle.command_inputs.specs.Inputs.{AreInputs}
use Rattle.command_inputs.specs.Names.{Payment}
use Rattle.command_resume.proofs.OneLaws.{by_reading, ready_not_refused}
use Rattle.command_resume.proofs.RefusedLaws.{kept_limit, kept_not_saved}
use Rattle.command_resume.specs.Statuses as resumes
use Rattle.fund_top.specs.Statuses.{Ends, GoesOnUninterrupted, IsJobOf, WhereResuming}
use Rattle.fund_top.specs.Words.{Command, Coins, Fund, Resume, Check, Work, Desk, Further}
use Rattle.fund_top.proofs.CommandEnds.{resume_back}

-- what is due by one reading of the files is due by another
module _ (files : List ℕ → List ℕ) (s : Sources) (p : Payment) (o : Option KeptJob) (v w : PlainWallet) (us bs : List ChainBlock) (q r : PlainRequest) (n : ℕ) (h : AreInputs files s p v us q) (k : AreInputs files s p w bs r) where
  kept_there : IsKeptAt (plan_of (chain_from w bs) r) (digest_in files s p) n o → IsKeptAt (plan_of (chain_from v us) q) (digest_in files s p) n o
  kept_there kept = by_reading files s p w v bs us r q k h (λ (x : Chain) (y : PlainRequest). IsKeptAt (plan_of x y) (digest_in files s p) n o) kept

  due_there : (due : dues.Outcome) → planned_after (chain_from v us) q (n + q.tries) ≡ due → planned_after (chain_from w bs) r (n + r.tries) ≡ due
  due_there due is = by_reading files s p v w us bs q r h k (λ (x : Chain) (y : PlainRequest). planned_after x y (n + y.tries) ≡ due) is

  left_there : (keeper' : KeeperView) (job : List ℕ) → IsKeptAt (plan_of (chain_from v us) q) (digest_in files s p) (n + q.tries) (keeper'.jobs job) → IsKeptAt (plan_of (chain_from w bs) r) (digest_in files s p) (n + r.tries) (keeper'.jobs job)
  left_there keeper' job kept = by_reading files s p v w us bs q r h k (λ (x : Chain) (y : PlainRequest). IsKeptAt (plan_of x y) (digest_in files s p) (n + y.tries) (keeper'.jobs job)) kept

-- files that hold such a request aren't refused, nor is its job but where all its tries are made
limit_spent : (told_files told told_jobs : Type 0) (s : Sources) (p : Payment) (job : List ℕ) (shelf : ShelfView) (sink sink' : SinkView) (keeper : KeeperView) (w : PlainWallet) (blocks : List ChainBlock) (r : PlainRequest) (n : ℕ)
    → resumes.EndsLimited told_files told told_jobs s p job shelf sink sink' keeper → told_files → told_jobs → IsJobOf shelf.files keeper s p job w blocks r n → most_tries ≤ tries_at (plan_of (chain_from w blocks) r) n
limit_spent tf t tj s p job shelf sink sink' keeper w blocks r n (inl h) f j k = absurd (ready_not_refused shelf.files s p w blocks r (cause_of h.0) k.inputs k.plan (h.2 f))
limit_spent tf t tj s p job shelf sink sink' keeper w blocks r n (inr h) f j k = (kept_limit shelf.files s p (keeper.jobs job) w blocks r n h.0 k.inputs k.kept (h.3 f j)).1

goes_on : (told_files told told_jobs : Type 0) (s : Sources) (p : Payment) (job : List ℕ) (shelf shelf' : ShelfView) (sink sink' : SinkView) (keeper keeper' : KeeperView) (status : Status)
    → resumes.Ends told_files told told_jobs s p job shelf shelf' sink sink' keeper keeper' status → told_files → told → told_jobs → GoesOnUninterrupted s p job shelf shelf' sink sink' keeper keeper' status
goes_on tf t tj s p job shelf shelf' sink sink' keeper keeper' statuses.Done h f u j = λ w blocks r n k.
    let i = h.2 in
    let kept = kept_there shelf.files s p (keeper.jobs job) i.wallet w i.blocks blocks i.asked r n (i.inputs f) k.inputs k.kept in
    ((h.0, h.1, due_there shelf.files s p (keeper.jobs job) i.wallet w i.blocks blocks i.asked r n (i.inputs f) k.inputs (dues.Funded h.0 h.1) (i.uninterrupted f j n kept), h.3 f, h.4 u), λ e. absurd cc)
goes_on tf t tj s p job shelf shelf' sink sink' keeper keeper' statuses.NoSelection h f u j = λ w blocks r n k.
    let i = h.2 in
    let kept = kept_there shelf.files s p (keeper.jobs job) i.wallet w i.blocks blocks i.asked r n (i.inputs f) k.inputs k.kept in
    ((h.0, h.1, due_there shelf.files s p (keeper.jobs job) i.wallet w i.blocks blocks i.asked r n (i.inputs f) k.inputs (dues.NoSelection h.0 h.1) (i.uninterrupted f j n kept), h.3 f, h.4 u), λ e. absurd cc)
goes_on tf t tj s p job shelf shelf' sink sink' keeper keeper' statuses.Unfinished h f u j = λ w blocks r n k.
    let i = h.1 in
    let kept = kept_there shelf.files s p (keeper.jobs job) i.wallet w i.blocks blocks i.asked r n (i.inputs f) k.inputs k.kept in (
      (h.0, due_there shelf.files s p (keeper.jobs job) i.wallet w i.blocks blocks i.asked r n (i.inputs f) k.inputs (dues.Unfinished h.0) (i.uninterrupted f j n kept), h.3 u),
      λ e. record { inputs = k.inputs; plan = k.plan; kept = left_there shelf.files s p (keeper.jobs job) i.wallet w i.blocks blocks i.asked r n (i.inputs f) k.inputs keeper' job ((h.4 j).kept f n kept) },
    )
goes_on tf t tj s p job shelf shelf' sink sink' keeper keeper' statuses.Saved h f u j = λ w blocks r n k. absurd (kept_not_saved shelf.files s p (keeper.jobs job) w blocks r n h.0 k.inputs k.kept (h.3 f j) h.1)
goes_on tf t tj s p job shelf shelf' sink sink' keeper keeper' statuses.Usage h f u j = absurd h
goes_on tf t tj s p job shelf shelf' sink sink' keeper keeper' statuses.Input h f u j = λ w blocks r n k. (ready_not_refused shelf.files s p w blocks r (cause_of h.0) k.inputs k.plan (h.2 f), λ e. absurd cc)
goes_on tf t tj s p job shelf shelf' sink sink' keeper keeper' statuses.Limit h f u j = λ w blocks r n k. (limit_spent tf t tj s p job shelf sink sink' keeper w blocks r n h f j k, λ e. absurd cc)
goes_on tf t tj s p job shelf shelf' sink sink' keeper keeper' statuses.ReadFault h f u j = λ w blocks r n k. (tt, λ e. absurd cc)
goes_on tf t tj s p job shelf shelf' sink sink' keeper keeper' statuses.WriteFault h f u j = λ w blocks r n k. (tt, λ e. absurd cc)
goes_on tf t tj s p job shelf shelf' sink sink' keeper keeper' statuses.KeepFault h f u j = λ w blocks r n k. (tt, λ e. absurd cc)
goes_on tf t tj s p job shelf shelf' sink sink' keeper keeper' statuses.Memory h f u j = λ w blocks r n k. (tt, λ e. absurd cc)
goes_on tf t tj s p job shelf shelf' sink sink' keeper keeper' statuses.CheckRefused h f u j = absurd h
goes_on tf t tj s p job shelf shelf' sink sink' keeper keeper' statuses.Settle h f u j = absurd h

pub ends_uninterrupted : (told_files told told_jobs : Type 0) (c : Command) (shelf shelf' : ShelfView) (sink sink' : SinkView) (keeper keeper' : KeeperView) (status : Status) → Ends told_files told told_jobs c shelf shelf' sink sink' keeper keeper' status → told_files → told → told_jobs
    → WhereResuming (Some c) (λ s p job. GoesOnUninterrupted s p job shelf shelf' sink sink' keeper keeper' status)
ends_uninterrupted tf t tj (Coins s) shelf shelf' sink sink' keeper keeper' status h f u j = tt
ends_uninterrupted tf t tj (Fund s p job) shelf shelf' sink sink' keeper keeper' status h f u j = tt
ends_uninterrupted tf t tj (Resume s p job) shelf shelf' sink sink' keeper keeper' status h f u j = goes_on tf t tj s p job shelf shelf' sink sink' keeper keeper' status (resume_back tf t tj s p job shelf shelf' sink sink' keeper keeper' status h) f u j
ends_uninterrupted tf t tj (Check s p report) shelf shelf' sink sink' keeper keeper' status h f u j = tt
ends_uninterrupted tf t tj (Work number count) shelf shelf' sink sink' keeper keeper' status h f u j = tt
ends_uninterrupted tf t tj (Desk s script) shelf shelf' sink sink' keeper keeper' status h f u j = tt
ends_uninterrupted tf t tj (Further c) shelf shelf' sink sink' keeper keeper' status h f u j = tt
