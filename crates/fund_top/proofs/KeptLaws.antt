-- A job that is refused for a fault of its own.
use Rattle.std.proofs.Common.{◌≡◌, ◌∙◌, ℕ, List, Option, Some, None, inl, inr, refl, sym, ap}
use Rattle.std.specs.Prelude.{◌⊎◌}
use Rattle.fund_shelf.specs.Causes.{Rose, ShelfView, SinkView}
use Rattle.fund_files.specs.Chain.{chain_from}
use Rattle.fund_files.specs.declared.refusal.File.{File}
use Rattle.fund_outside.specs.Kept.{KeeperView, KeptJob}
use Rattle.fund_plan.specs.declared.outcome.Outcome.TheVariants as answers
use Rattle.kept_job.specs.declared.fault.KeptFault.{KeptFault}
use Rattle.command_end.specs.Names.{Sources}
use Rattle.command_end.specs.declared.status.Status.{Status}
use Rattle.command_end.specs.declared.status.Status.TheVariants as statuses
use Rattle.command_inputs.specs.Cause.{cause_of}
use Rattle.command_inputs.specs.Inputs.{IsUnread}
use Rattle.command_inputs.specs.Names.{Payment}
use Rattle.command_inputs.specs.Results as payments
use Rattle.command_resume.proofs.EndsLaws.{gone_there}
use Rattle.command_resume.proofs.OneLaws.{gone_not_kept, one_fault, ready_not_refused}
use Rattle.command_resume.specs.Outcome.{IsNotKept}
use Rattle.command_resume.specs.Statuses.{Ends, EndsLimited, EndsNotKept, IsReport}
use Rattle.command_resume.specs.Words.{kept_status}

-- no report is due from it
report_not_kept : (told_files told_jobs : Type 0) (files : List ℕ → List ℕ) (s : Sources) (p : Payment) (o : Option KeptJob) (report : List ℕ) (log : Option (List ℕ)) (fault : KeptFault) → told_files → told_jobs → IsReport told_files told_jobs files s p o report log → IsNotKept files s p o fault → ⊥
report_not_kept tf tj files s p o report (Some log) fault t u (inl f) x =
    gone_not_kept files s p o fault f.wallet f.blocks f.asked f.state (answers.Funded f.funded) (f.inputs t) (gone_there tf tj files s p o (chain_from f.wallet f.blocks) f.asked f.state (answers.Funded f.funded) t u f.gone) x
report_not_kept tf tj files s p o report (Some log) fault t u (inr f) x =
    gone_not_kept files s p o fault f.wallet f.blocks f.asked f.state answers.NoSelection (f.inputs t) (gone_there tf tj files s p o (chain_from f.wallet f.blocks) f.asked f.state answers.NoSelection t u f.gone) x
report_not_kept tf tj files s p o report None fault t u f x =
    gone_not_kept files s p o fault f.wallet f.blocks f.asked f.state answers.Unfinished (f.inputs t) (gone_there tf tj files s p o (chain_from f.wallet f.blocks) f.asked f.state answers.Unfinished t u f.gone) x

-- nor are its files refused
files_not_refused : (status : Status) (told_files told : Type 0) (s : Sources) (p : Payment) (o : Option KeptJob) (shelf : ShelfView) (sink sink' : SinkView) (fault : KeptFault) → payments.EndsRefused status told_files told s p shelf sink sink' → told_files → IsNotKept shelf.files s p o fault → ⊥
files_not_refused status tf told s p o shelf sink sink' fault h t x = ready_not_refused shelf.files s p x.wallet x.blocks x.asked (cause_of h.0) x.inputs x.plan (h.2 t)

-- where it is refused, it is for this fault
same_fault : (status : Status) (told_files told told_jobs : Type 0) (s : Sources) (p : Payment) (job : List ℕ) (shelf : ShelfView) (sink sink' : SinkView) (keeper : KeeperView) (fault : KeptFault) → EndsNotKept status told_files told told_jobs s p job shelf sink sink' keeper → told_files → told_jobs
    → IsNotKept shelf.files s p (keeper.jobs job) fault → status ≡ kept_status fault
same_fault status tf told tj s p job shelf sink sink' keeper fault h t u x = sym h.1 ∙ ap kept_status (one_fault shelf.files s p (keeper.jobs job) h.0 fault (h.3 t u) x)

limit_refused : (told_files told told_jobs : Type 0) (s : Sources) (p : Payment) (job : List ℕ) (shelf : ShelfView) (sink sink' : SinkView) (keeper : KeeperView) (fault : KeptFault) → EndsLimited told_files told told_jobs s p job shelf sink sink' keeper → told_files → told_jobs
    → IsNotKept shelf.files s p (keeper.jobs job) fault → statuses.Limit ≡ kept_status fault
limit_refused tf told tj s p job shelf sink sink' keeper fault (inl h) t u x = absurd (files_not_refused statuses.Limit tf told s p (keeper.jobs job) shelf sink sink' fault h t x)
limit_refused tf told tj s p job shelf sink sink' keeper fault (inr h) t u x = same_fault statuses.Limit tf told tj s p job shelf sink sink' keeper fault h t u x

-- where its files were read and the keeper didn't fail, the status is that of its fault, or out of memory
pub job_refused : (told_files told told_jobs : Type 0) (s : Sources) (p : Payment) (job : List ℕ) (shelf shelf' : ShelfView) (sink sink' : SinkView) (keeper keeper' : KeeperView) (status : Status)
    → Ends told_files told told_jobs s p job shelf shelf' sink sink' keeper keeper' status → told_files → told_jobs → ((file : File) → IsUnread s p file shelf shelf' → ⊥) → (Rose keeper.faults keeper'.faults → ⊥) → (fault : KeptFault) → IsNotKept shelf.files s p (keeper.jobs job) fault
    → (status ≡ kept_status fault) ⊎ (status ≡ statuses.Memory)
job_refused tf told tj s p job shelf shelf' sink sink' keeper keeper' statuses.Done h t u none keeps fault x = absurd (report_not_kept tf tj shelf.files s p (keeper.jobs job) h.0 (Some h.1) fault t u (inl h.2) x)
job_refused tf told tj s p job shelf shelf' sink sink' keeper keeper' statuses.NoSelection h t u none keeps fault x = absurd (report_not_kept tf tj shelf.files s p (keeper.jobs job) h.0 (Some h.1) fault t u (inr h.2) x)
job_refused tf told tj s p job shelf shelf' sink sink' keeper keeper' statuses.Unfinished h t u none keeps fault x = absurd (report_not_kept tf tj shelf.files s p (keeper.jobs job) h.0 None fault t u h.1 x)
job_refused tf told tj s p job shelf shelf' sink sink' keeper keeper' statuses.Usage h t u none keeps fault x = absurd h
job_refused tf told tj s p job shelf shelf' sink sink' keeper keeper' statuses.Input h t u none keeps fault x = absurd (files_not_refused statuses.Input tf told s p (keeper.jobs job) shelf sink sink' fault h t x)
job_refused tf told tj s p job shelf shelf' sink sink' keeper keeper' statuses.Limit h t u none keeps fault x = inl (limit_refused tf told tj s p job shelf sink sink' keeper fault h t u x)
job_refused tf told tj s p job shelf shelf' sink sink' keeper keeper' statuses.ReadFault h t u none keeps fault x = absurd (none h.0 h.1)
job_refused tf told tj s p job shelf shelf' sink sink' keeper keeper' statuses.WriteFault h t u none keeps fault x = absurd (report_not_kept tf tj shelf.files s p (keeper.jobs job) h.0 h.1 fault t u h.2 x)
job_refused tf told tj s p job shelf shelf' sink sink' keeper keeper' statuses.KeepFault h t u none keeps fault x = absurd (keeps h.0)
job_refused tf told tj s p job shelf shelf' sink sink' keeper keeper' statuses.Memory h t u none keeps fault x = inr refl
job_refused tf told tj s p job shelf shelf' sink sink' keeper keeper' statuses.Saved h t u none keeps fault x = inl (same_fault statuses.Saved tf told tj s p job shelf sink sink' keeper fault h t u x)
job_refused tf told tj s p job shelf shelf' sink sink' keeper keeper' statuses.CheckRefused h t u none keeps fault x = absurd h
job_refused tf told tj s p job shelf shelf' sink sink' keeper keeper' statuses.Settle h t u none keeps fault x = absurd h
