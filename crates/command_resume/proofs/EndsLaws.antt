-- What the status tells of how a job ended.
use Rattle.std.proofs.Common.{◌≡◌, ◌∙◌, ℕ, List, Option, Some, None, inl, inr, refl, sym, ap, subst}
use Rattle.std.specs.Prelude.{◌⊎◌}
use Rattle.fund_shelf.specs.Causes.{Rose, ShelfView, SinkView}
use Rattle.block_feed.specs.Block.{ChainBlock}
use Rattle.fund_files.specs.Chain.{chain_from}
use Rattle.fund_files.specs.declared.chain.Chain.{Chain}
use Rattle.fund_files.specs.declared.refusal.File.{File}
use Rattle.fund_outside.specs.Kept.{KeeperView, KeptJob}
use Rattle.fund_plan.specs.State.{PlanState}
use Rattle.fund_plan.specs.declared.outcome.Outcome.{Outcome as Answer}
use Rattle.fund_plan.specs.declared.outcome.Outcome.TheVariants as answers
use Rattle.fund_steps.specs.Plan.{IsPlan}
use Rattle.request_text.specs.PlainRequest.{PlainRequest}
use Rattle.wallet_text.specs.PlainWallet.{PlainWallet}
use Rattle.kept_job.specs.Continued.{HasContinued}
use Rattle.command_end.specs.Names.{Sources}
use Rattle.command_end.specs.declared.status.Status.{Status}
use Rattle.command_end.specs.declared.status.Status.TheVariants as statuses
use Rattle.command_inputs.specs.Cause.{Cause, cause_of, status_of_cause}
use Rattle.command_inputs.specs.Digest.{digest_in}
use Rattle.command_inputs.specs.Outcome as payments
use Rattle.command_inputs.specs.Outcome.{plan_of}
use Rattle.command_inputs.specs.Inputs.{AreInputs, IsUnread}
use Rattle.command_inputs.specs.Meant.{AreRefusedFor}
use Rattle.command_inputs.specs.Names.{Payment}
use Rattle.command_inputs.specs.Results as payment_ends
use Rattle.command_inputs.specs.Results.{IsLogLost}
use Rattle.command_resume.proofs.OneLaws.{gone_due, gone_not_kept, one_cause, one_fault, ready_not_refused}
use Rattle.command_resume.proofs.UninterruptedLaws.{told_gone}
use Rattle.command_resume.specs.Outcome.{AreReady, ComesTo, Gone, IsGone, NotKept, Outcome, Refused, by_answer_on, status_of}
use Rattle.command_resume.specs.Resumed.{HasGone}
use Rattle.command_resume.specs.Statuses.{Ends, EndsLimited, EndsNotKept, EndsUnwritten, IsReport}
use Rattle.command_resume.specs.Words.{kept_status}

-- nothing failed
pub record NoneFailed (s : Sources) (p : Payment) (shelf shelf' : ShelfView) (sink sink' : SinkView) (keeper keeper' : KeeperView) : Type 0 where
  pub reads : (file : File) → IsUnread s p file shelf shelf' → ⊥
  pub log : Rose (shelf.writes p.log) (shelf'.writes p.log) → ⊥
  pub sinks : Rose sink.faults sink'.faults → ⊥
  pub keepers : Rose keeper.faults keeper'.faults → ⊥

-- what a plan comes to that goes on is no refusal of the files
answer_on_not : (k : Chain) (r : PlainRequest) (st : PlanState) (a : Answer) (cause : Cause) → by_answer_on k r st a ≡ payments.Refused cause → ⊥
answer_on_not k r st answers.Unfinished cause e = absurd (cc)
answer_on_not k r st answers.NoSelection cause e = absurd (cc)
answer_on_not k r st (answers.Funded f) cause e = absurd (cc)

pub gone_not : (files : List ℕ → List ℕ) (s : Sources) (p : Payment) (o : Option KeptJob) (due : payments.Outcome) → IsGone files s p o due → (cause : Cause) → due ≡ payments.Refused cause → ⊥
gone_not files s p o due h cause is = answer_on_not (chain_from h.wallet h.blocks) h.asked h.state h.answer cause (sym h.due_is ∙ is)

-- ---- files that are in order

ready_not : (files : List ℕ → List ℕ) (s : Sources) (p : Payment) (cause : Cause) → AreReady files s p → AreRefusedFor files s p cause → ⊥
ready_not files s p cause h due = ready_not_refused files s p h.wallet h.blocks h.asked cause h.inputs h.plan due

report_ready : (told_files told_jobs : Type 0) (files : List ℕ → List ℕ) (s : Sources) (p : Payment) (o : Option KeptJob) (report : List ℕ) (log : Option (List ℕ)) → told_files → IsReport told_files told_jobs files s p o report log → AreReady files s p
report_ready told_files told_jobs files s p o report (Some log) t (inl f) = record { wallet = f.wallet; blocks = f.blocks; asked = f.asked; inputs = f.inputs t; plan = f.gone.rules }
report_ready told_files told_jobs files s p o report (Some log) t (inr f) = record { wallet = f.wallet; blocks = f.blocks; asked = f.asked; inputs = f.inputs t; plan = f.gone.rules }
report_ready told_files told_jobs files s p o report None t f = record { wallet = f.wallet; blocks = f.blocks; asked = f.asked; inputs = f.inputs t; plan = f.gone.rules }

-- where a log is lost its writing failed
log_lost : (p : Payment) (log : Option (List ℕ)) (shelf shelf' : ShelfView) → IsLogLost p log shelf shelf' → Rose (shelf.writes p.log) (shelf'.writes p.log)
log_lost p (Some log) shelf shelf' h = h
log_lost p None shelf shelf' h = absurd h

-- ---- where the files are refused and none wasn't read

refused_so : (status : Status) (told_files told : Type 0) (s : Sources) (p : Payment) (shelf : ShelfView) (sink sink' : SinkView) → payment_ends.EndsRefused status told_files told s p shelf sink sink' → told_files → (cause : Cause) → AreRefusedFor shelf.files s p cause → status ≡ status_of_cause cause
refused_so status told_files told s p shelf sink sink' h t cause due = sym h.1 ∙ ap status_of_cause (one_cause shelf.files s p (cause_of h.0) cause (h.2 t) due)

pub resume_refused : (told_files told told_jobs : Type 0) (s : Sources) (p : Payment) (job : List ℕ) (shelf shelf' : ShelfView) (sink sink' : SinkView) (keeper keeper' : KeeperView) (status : Status)
    → Ends told_files told told_jobs s p job shelf shelf' sink sink' keeper keeper' status → told_files → ((file : File) → IsUnread s p file shelf shelf' → ⊥) → (cause : Cause) → AreRefusedFor shelf.files s p cause
    → (status ≡ status_of_cause cause) ⊎ (status ≡ statuses.Memory)
resume_refused tf told tj s p job shelf shelf' sink sink' keeper keeper' statuses.Done h t none cause due = absurd (ready_not shelf.files s p cause (report_ready tf tj shelf.files s p (keeper.jobs job) h.0 (Some h.1) t (inl h.2)) due)
resume_refused tf told tj s p job shelf shelf' sink sink' keeper keeper' statuses.NoSelection h t none cause due = absurd (ready_not shelf.files s p cause (report_ready tf tj shelf.files s p (keeper.jobs job) h.0 (Some h.1) t (inr h.2)) due)
resume_refused tf told tj s p job shelf shelf' sink sink' keeper keeper' statuses.Unfinished h t none cause due = absurd (ready_not shelf.files s p cause (report_ready tf tj shelf.files s p (keeper.jobs job) h.0 None t h.1) due)
resume_refused tf told tj s p job shelf shelf' sink sink' keeper keeper' statuses.Usage h t none cause due = absurd h
resume_refused tf told tj s p job shelf shelf' sink sink' keeper keeper' statuses.CheckRefused h t none cause due = absurd h
resume_refused tf told tj s p job shelf shelf' sink sink' keeper keeper' statuses.Settle h t none cause due = absurd h
resume_refused tf told tj s p job shelf shelf' sink sink' keeper keeper' statuses.Input h t none cause due = inl (refused_so statuses.Input tf told s p shelf sink sink' h t cause due)
resume_refused tf told tj s p job shelf shelf' sink sink' keeper keeper' statuses.Limit h t none cause due = by h
  where
    by : EndsLimited tf told tj s p job shelf sink sink' keeper → (statuses.Limit ≡ status_of_cause cause) ⊎ (statuses.Limit ≡ statuses.Memory)
    by (inl r) = inl (refused_so statuses.Limit tf told s p shelf sink sink' r t cause due)
    by (inr k) = absurd (ready_not shelf.files s p cause (k.5 t) due)
resume_refused tf told tj s p job shelf shelf' sink sink' keeper keeper' statuses.ReadFault h t none cause due = absurd (none h.0 h.1)
resume_refused tf told tj s p job shelf shelf' sink sink' keeper keeper' statuses.WriteFault h t none cause due = absurd (ready_not shelf.files s p cause (report_ready tf tj shelf.files s p (keeper.jobs job) h.0 h.1 t h.2) due)
resume_refused tf told tj s p job shelf shelf' sink sink' keeper keeper' statuses.KeepFault h t none cause due = absurd (ready_not shelf.files s p cause (h.2 t) due)
resume_refused tf told tj s p job shelf shelf' sink sink' keeper keeper' statuses.Memory h t none cause due = inr refl
resume_refused tf told tj s p job shelf shelf' sink sink' keeper keeper' statuses.Saved h t none cause due = absurd (ready_not shelf.files s p cause (h.5 t) due)

-- ---- where nothing failed

-- where all is told, the plan went on from the job of the files
pub gone_there : (told_files told_jobs : Type 0) (files : List ℕ → List ℕ) (s : Sources) (p : Payment) (o : Option KeptJob) (k : Chain) (r : PlainRequest) (st : PlanState) (a : Answer) → told_files → told_jobs → HasGone told_files told_jobs files s p o k r st a
    → HasContinued (Unit {0}) (plan_of k r) (digest_in files s p) o r.tries st a
gone_there told_files told_jobs files s p o k r st a t u g =
    subst (λ (d : List ℕ). HasContinued (Unit {0}) (plan_of k r) d o r.tries st a) (g.named t) (told_gone told_jobs (plan_of k r) g.digest o r.tries st a u g.gone)

-- a plan that went on ends with the status of what is due
gone_so : (files : List ℕ → List ℕ) (s : Sources) (p : Payment) (o : Option KeptJob) (w : PlainWallet) (blocks : List ChainBlock) (r : PlainRequest) (st : PlanState) (a : Answer) → AreInputs files s p w blocks r → IsPlan (plan_of (chain_from w blocks) r)
    → HasContinued (Unit {0}) (plan_of (chain_from w blocks) r) (digest_in files s p) o r.tries st a → (due : Outcome) → ComesTo files s p o due → payment_ends.status_of (by_answer_on (chain_from w blocks) r st a) ≡ status_of due
gone_so files s p o w blocks r st a inputs rules g (Refused cause) is = absurd (ready_not_refused files s p w blocks r cause inputs rules is)
gone_so files s p o w blocks r st a inputs rules g (NotKept fault) is = absurd (gone_not_kept files s p o fault w blocks r st a inputs g is)
gone_so files s p o w blocks r st a inputs rules g (Gone d) is = ap (λ (x : payments.Outcome). payment_ends.status_of x) (sym (gone_due files s p o d w blocks r st a inputs g is))

-- a refusal of the files is due
refusal_so : (status : Status) (told_files told : Type 0) (s : Sources) (p : Payment) (o : Option KeptJob) (shelf : ShelfView) (sink sink' : SinkView) → payment_ends.EndsRefused status told_files told s p shelf sink sink' → told_files → (due : Outcome) → ComesTo shelf.files s p o due → status ≡ status_of due
refusal_so status tf told s p o shelf sink sink' h t (Refused cause) is = refused_so status tf told s p shelf sink sink' h t cause is
refusal_so status tf told s p o shelf sink sink' h t (NotKept fault) is = absurd (ready_not_refused shelf.files s p is.wallet is.blocks is.asked (cause_of h.0) is.inputs is.plan (h.2 t))
refusal_so status tf told s p o shelf sink sink' h t (Gone d) is = absurd (ready_not_refused shelf.files s p is.wallet is.blocks is.asked (cause_of h.0) is.inputs is.plan (h.2 t))

-- and a refusal of the job
kept_so : (status : Status) (told_files told told_jobs : Type 0) (s : Sources) (p : Payment) (job : List ℕ) (shelf : ShelfView) (sink sink' : SinkView) (keeper : KeeperView) → EndsNotKept status told_files told told_jobs s p job shelf sink sink' keeper → told_files → told_jobs → (due : Outcome) → ComesTo shelf.files s p (keeper.jobs job) due
    → status ≡ status_of due
kept_so status tf told tj s p job shelf sink sink' keeper h t u (Refused cause) is = absurd (ready_not shelf.files s p cause (h.5 t) is)
kept_so status tf told tj s p job shelf sink sink' keeper h t u (NotKept fault) is = sym h.1 ∙ ap kept_status (one_fault shelf.files s p (keeper.jobs job) h.0 fault (h.3 t u) is)
kept_so status tf told tj s p job shelf sink sink' keeper h t u (Gone d) is = absurd (gone_not_kept shelf.files s p (keeper.jobs job) h.0 is.wallet is.blocks is.asked is.state is.answer is.inputs is.gone (h.3 t u))

-- what wasn't written or printed failed
unwritten_not : (told_files told told_jobs : Type 0) (s : Sources) (p : Payment) (job : List ℕ) (shelf shelf' : ShelfView) (sink sink' : SinkView) (keeper keeper' : KeeperView) → EndsUnwritten told_files told told_jobs s p job shelf shelf' sink sink' keeper keeper' → NoneFailed s p shelf shelf' sink sink' keeper keeper' → ⊥
unwritten_not tf told tj s p job shelf shelf' sink sink' keeper keeper' (report, log, is, inl l) none = none.log (log_lost p log shelf shelf' l.0)
unwritten_not tf told tj s p job shelf shelf' sink sink' keeper keeper' (report, log, is, inr l) none = none.sinks l.0

pub resume_complete : (told_files told told_jobs : Type 0) (s : Sources) (p : Payment) (job : List ℕ) (shelf shelf' : ShelfView) (sink sink' : SinkView) (keeper keeper' : KeeperView) (status : Status)
    → Ends told_files told told_jobs s p job shelf shelf' sink sink' keeper keeper' status → told_files → told_jobs → NoneFailed s p shelf shelf' sink sink' keeper keeper' → (due : Outcome) → ComesTo shelf.files s p (keeper.jobs job) due
    → (status ≡ status_of due) ⊎ (status ≡ statuses.Memory)
resume_complete tf told tj s p job shelf shelf' sink sink' keeper keeper' statuses.Done h t u none due is =
    let f = h.2 in
    inl (gone_so shelf.files s p (keeper.jobs job) f.wallet f.blocks f.asked f.state (answers.Funded f.funded) (f.inputs t) f.gone.rules (gone_there tf tj shelf.files s p (keeper.jobs job) (chain_from f.wallet f.blocks) f.asked f.state (answers.Funded f.funded) t u f.gone) due is)
resume_complete tf told tj s p job shelf shelf' sink sink' keeper keeper' statuses.NoSelection h t u none due is =
    let f = h.2 in
    inl (gone_so shelf.files s p (keeper.jobs job) f.wallet f.blocks f.asked f.state answers.NoSelection (f.inputs t) f.gone.rules (gone_there tf tj shelf.files s p (keeper.jobs job) (chain_from f.wallet f.blocks) f.asked f.state answers.NoSelection t u f.gone) due is)
resume_complete tf told tj s p job shelf shelf' sink sink' keeper keeper' statuses.Unfinished h t u none due is =
    let f = h.1 in
    inl (gone_so shelf.files s p (keeper.jobs job) f.wallet f.blocks f.asked f.state answers.Unfinished (f.inputs t) f.gone.rules (gone_there tf tj shelf.files s p (keeper.jobs job) (chain_from f.wallet f.blocks) f.asked f.state answers.Unfinished t u f.gone) due is)
resume_complete tf told tj s p job shelf shelf' sink sink' keeper keeper' statuses.Usage h t u none due is = absurd h
resume_complete tf told tj s p job shelf shelf' sink sink' keeper keeper' statuses.CheckRefused h t u none due is = absurd h
resume_complete tf told tj s p job shelf shelf' sink sink' keeper keeper' statuses.Settle h t u none due is = absurd h
resume_complete tf told tj s p job shelf shelf' sink sink' keeper keeper' statuses.Input h t u none due is = inl (refusal_so statuses.Input tf told s p (keeper.jobs job) shelf sink sink' h t due is)
resume_complete tf told tj s p job shelf shelf' sink sink' keeper keeper' statuses.Limit h t u none due is = by h
  where
    by : EndsLimited tf told tj s p job shelf sink sink' keeper → (statuses.Limit ≡ status_of due) ⊎ (statuses.Limit ≡ statuses.Memory)
    by (inl r) = inl (refusal_so statuses.Limit tf told s p (keeper.jobs job) shelf sink sink' r t due is)
    by (inr k) = inl (kept_so statuses.Limit tf told tj s p job shelf sink sink' keeper k t u due is)
resume_complete tf told tj s p job shelf shelf' sink sink' keeper keeper' statuses.ReadFault h t u none due is = absurd (none.reads h.0 h.1)
resume_complete tf told tj s p job shelf shelf' sink sink' keeper keeper' statuses.WriteFault h t u none due is = absurd (unwritten_not tf told tj s p job shelf shelf' sink sink' keeper keeper' h none)
resume_complete tf told tj s p job shelf shelf' sink sink' keeper keeper' statuses.KeepFault h t u none due is = absurd (none.keepers h.0)
resume_complete tf told tj s p job shelf shelf' sink sink' keeper keeper' statuses.Memory h t u none due is = inr refl
resume_complete tf told tj s p job shelf shelf' sink sink' keeper keeper' statuses.Saved h t u none due is = inl (kept_so statuses.Saved tf told tj s p job shelf sink sink' keeper h t u due is)
