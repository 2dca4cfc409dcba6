-- Why nothing is loaded of a job, and why it isn't gone on with: each cause of a piece is one of the whole.
use Rattle.std.proofs.Common.{◌≡◌, ◌∙◌, ℕ, List, Option, Some, None, Result, inl, inr, refl, sym, ap, subst}
use Rattle.std.specs.Prelude.{IfErr, IfOk, MatchResult}
use Rattle.std.proofs.lemmas.Result.{MatchResult-weaker}
use Rattle.sha2.specs.Sha256.{sha256}
use Rattle.closing_log.specs.Log.{PlainLog, PlainSection}
use Rattle.closing_log.specs.Gives as texts
use Rattle.closing_log.specs.LogText.{IsLogText}
use Rattle.closing_log.specs.declared.fault.LogTextFault.{LogTextFault}
use Rattle.closing_log.specs.declared.fault.LogTextFault.TheVariants as text
use Rattle.fund_outside.specs.Kept.{KeptJob, saved_in}
use Rattle.fund_plan.specs.Resumed.{AreAccepted, CanRestore, IsCheckFault, IsNotRestored, restored_at}
use Rattle.fund_plan.specs.State.{PlanState, moved, told}
use Rattle.fund_plan.specs.declared.outcome.Outcome.{Outcome}
use Rattle.fund_plan.specs.declared.fault.CheckAt.{CheckAt}
use Rattle.fund_plan.specs.declared.fault.CheckAt.TheVariants as check
use Rattle.fund_plan.specs.declared.fault.PlanSavedFault.{PlanSavedFault}
use Rattle.fund_plan.specs.declared.fault.PlanSavedFault.TheVariants as planned
use Rattle.fund_steps.specs.Plan.{PlainPlan}
use Rattle.search_keep.specs.SavedText.{CanBeSaved, PlainSaved}
use Rattle.search_keep.specs.declared.fault.SavedFault.{SavedFault}
use Rattle.search_keep.specs.declared.fault.SavedFault.TheVariants as saved_faults
use Rattle.kept_job.specs.Faults.{of_check, of_plan, of_text}
use Rattle.kept_job.specs.Continued.{IsSettled}
use Rattle.kept_job.specs.Jobs.{HasDue, HasParts, HasSaved, IsLoaded, IsOfLog}
use Rattle.kept_job.specs.Loading.{IsNoText, IsNotDue, IsNotSaved, IsOfOther, IsPositionOf}
use Rattle.kept_job.specs.Refused.{IsNotLoaded, IsNotResumed, IsPartFault}
use Rattle.kept_job.specs.Resuming.{HasResumed, IsLeftAs}
use Rattle.kept_job.specs.declared.fault.KeptFault.{KeptFault}
use Rattle.kept_job.specs.declared.fault.KeptFault.TheVariants.{NoJob, Form, JobElse, Spent, Part, LongLog, Parts, Section, IllFormed, Log, Failed, Memory}
use Rattle.kept_job.specs.declared.loading.Loaded.{Loaded}

-- ---- a saved text

-- a text that isn't read, of a job
no_text : (job : KeptJob) (e : KeptFault) → IsNoText job.saved e → IsNotSaved (Some job) e
no_text job NoJob h = absurd h
no_text job (Form place) h = record { job = job; is = refl; first = h }
no_text job (JobElse kept given) h = absurd h
no_text job Spent h = absurd h
no_text job (Part number) h = absurd h
no_text job LongLog h = absurd h
no_text job (Parts kept given) h = absurd h
no_text job (Section i) h = absurd h
no_text job IllFormed h = absurd h
no_text job (Log i f) h = absurd h
no_text job Failed h = absurd h
no_text job Memory h = tt

-- what is read of a job's text
position_read : (o : Option KeptJob) (t : Option (List ℕ)) (r : Result PlainSaved KeptFault) → t ≡ saved_in o → IsPositionOf t r → MatchResult r (HasSaved o) (IsNotSaved o)
position_read o t r e h = by o (subst (λ (x : Option (List ℕ)). IsPositionOf x r) e h)
  where
    by : (o : Option KeptJob) → IsPositionOf (saved_in o) r → MatchResult r (HasSaved o) (IsNotSaved o)
    by None is = subst (λ (x : Result PlainSaved KeptFault). MatchResult x (HasSaved None) (IsNotSaved None)) (sym is) refl
    by (Some job) is = MatchResult-weaker r is (λ s text. record { job = job; is = refl; text = text }) (no_text job)

pub position_found : (o : Option KeptJob) (t : Option (List ℕ)) (r : Result PlainSaved KeptFault) → t ≡ saved_in o → IsPositionOf t r → IfOk r (HasSaved o)
position_found o t r e h = MatchResult-weaker r (position_read o t r e h) (λ s has. has) (λ f not. tt)

pub position_refused : (o : Option KeptJob) (t : Option (List ℕ)) (r : Result PlainSaved KeptFault) → t ≡ saved_in o → IsPositionOf t r → IfErr r (IsNotSaved o)
position_refused o t r e h = MatchResult-weaker r (position_read o t r e h) (λ s has. tt) (λ f not. not)

-- ---- loading

-- the parts of a job that another call left as they were
pub parts_after : (now then : List ℕ → Option KeptJob) (job : List ℕ) (m n : ℕ) (bytes : List ℕ) → then ≡ now → m ≡ n → HasParts (then job) m bytes → HasParts (now job) n bytes
parts_after now then job m n bytes same e h = subst (λ (k : ℕ). HasParts (now job) k bytes) e (subst (λ (jobs : List ℕ → Option KeptJob). HasParts (jobs job) m bytes) same h)

pub fault_after : (now then : List ℕ → Option KeptJob) (job : List ℕ) (m n : ℕ) (f : KeptFault) → then ≡ now → m ≡ n → IsPartFault (then job) m f → IsPartFault (now job) n f
fault_after now then job m n f same e h = subst (λ (k : ℕ). IsPartFault (now job) k f) e (subst (λ (jobs : List ℕ → Option KeptJob). IsPartFault (jobs job) m f) same h)

module _ (now : List ℕ) (o : Option KeptJob) where
  pub not_saved : (e : KeptFault) → IsNotSaved o e → IsNotLoaded now o e
  not_saved NoJob h = h
  not_saved (Form place) h = h
  not_saved (JobElse kept given) h = absurd h
  not_saved Spent h = absurd h
  not_saved (Part number) h = absurd h
  not_saved LongLog h = absurd h
  not_saved (Parts kept given) h = absurd h
  not_saved (Section i) h = absurd h
  not_saved IllFormed h = absurd h
  not_saved (Log i f) h = absurd h
  not_saved Failed h = tt
  not_saved Memory h = tt

  pub not_due : (s : PlainSaved) (e : KeptFault) → HasSaved o s → IsNotDue s now e → IsNotLoaded now o e
  not_due s NoJob has h = absurd h
  not_due s (Form place) has h = absurd h
  not_due s (JobElse kept given) has h = record { saved = s; has = has; kept_is = h.0; given_is = h.1; other = h.2 }
  not_due s Spent has h = record { saved = s; has = has; own = h.0; tries = h.1 }
  not_due s (Part number) has h = absurd h
  not_due s LongLog has h = absurd h
  not_due s (Parts kept given) has h = absurd h
  not_due s (Section i) has h = absurd h
  not_due s IllFormed has h = absurd h
  not_due s (Log i f) has h = absurd h
  not_due s Failed has h = absurd h
  not_due s Memory has h = absurd h

  pub not_joined : (s : PlainSaved) (e : KeptFault) → HasDue now o s → IsPartFault o s.parts e → IsNotLoaded now o e
  not_joined s NoJob due h = absurd h
  not_joined s (Form place) due h = absurd h
  not_joined s (JobElse kept given) due h = absurd h
  not_joined s Spent due h = absurd h
  not_joined s (Part number) due h = (s, due, h)
  not_joined s LongLog due h = (s, due, h)
  not_joined s (Parts kept given) due h = absurd h
  not_joined s (Section i) due h = absurd h
  not_joined s IllFormed due h = absurd h
  not_joined s (Log i f) due h = absurd h
  not_joined s Failed due h = tt
  not_joined s Memory due h = tt

  pub not_same : (s : PlainSaved) (bytes : List ℕ) (e : KeptFault) → HasDue now o s → HasParts o s.parts bytes → IsOfOther s (sha256 bytes) e → IsNotLoaded now o e
  not_same s bytes NoJob due parts h = absurd h
  not_same s bytes (Form place) due parts h = absurd h
  not_same s bytes (JobElse kept given) due parts h = absurd h
  not_same s bytes Spent due parts h = absurd h
  not_same s bytes (Part number) due parts h = absurd h
  not_same s bytes LongLog due parts h = absurd h
  not_same s bytes (Parts kept given) due parts h = record { saved = s; bytes = bytes; due = due; parts = parts; kept_is = h.0; given_is = h.1; other = h.2 }
  not_same s bytes (Section i) due parts h = absurd h
  not_same s bytes IllFormed due parts h = absurd h
  not_same s bytes (Log i f) due parts h = absurd h
  not_same s bytes Failed due parts h = absurd h
  not_same s bytes Memory due parts h = absurd h

  pub not_read : (s : PlainSaved) (bytes : List ℕ) (f : LogTextFault) → HasDue now o s → HasParts o s.parts bytes → IsOfLog s (sha256 bytes) → texts.IsLogTextFault bytes f → IsNotLoaded now o (of_text f)
  not_read s bytes (text.Form place sections) due parts same h = (s, bytes, due, parts, same, record { place = place; first = h.0; count = h.1 })
  not_read s bytes text.Memory due parts same h = tt

-- ---- going on

module _ (p : PlainPlan) (now : List ℕ) (o : Option KeptJob) (m : ℕ) where
  pub unloaded : (e : KeptFault) → IsNotLoaded now o e → IsNotResumed p now o m e
  unloaded NoJob h = h
  unloaded (Form place) h = h
  unloaded (JobElse kept given) h = h
  unloaded Spent h = h
  unloaded (Part number) h = h
  unloaded LongLog h = h
  unloaded (Parts kept given) h = h
  unloaded (Section i) h = inl h
  unloaded IllFormed h = absurd h
  unloaded (Log i f) h = absurd h
  unloaded Failed h = tt
  unloaded Memory h = tt

  module _ (sv : PlainSaved) (l : PlainLog) (bytes : List ℕ) (loaded : IsLoaded now o sv l bytes) where
    of_saved_text : (f : SavedFault) → IsNotRestored p now sv l (planned.Saved f) → IsNotResumed p now o m (of_plan (planned.Saved f))
    of_saved_text (saved_faults.Form place) h = absurd h
    of_saved_text (saved_faults.JobElse kept given) h = record { saved = sv; has = loaded.due.has; kept_is = h.0; given_is = h.1; other = h.2 }
    of_saved_text saved_faults.Spent h = record { saved = sv; has = loaded.due.has; own = h.0; tries = h.1 }
    of_saved_text saved_faults.IllFormed h = record { saved = sv; log = l; bytes = bytes; loaded = loaded; refused = h }
    of_saved_text saved_faults.Memory h = absurd h

    of_section : (at : CheckAt) → IsNotRestored p now sv l (planned.False at) → IsNotResumed p now o m (of_plan (planned.False at))
    of_section (check.Section i) h = inr (record { saved = sv; log = l; bytes = bytes; loaded = loaded; refused = h })
    of_section (check.Log i f) h = inl (record { saved = sv; log = l; bytes = bytes; loaded = loaded; refused = h })
    of_section check.Memory h = absurd h

    pub unrestored : (f : PlanSavedFault) → IsNotRestored p now sv l f → IsNotResumed p now o m (of_plan f)
    unrestored (planned.Saved f) h = of_saved_text f h
    unrestored (planned.False at) h = of_section at h
    unrestored planned.Memory h = tt

    pub found_out : (at : CheckAt) → CanRestore p now sv l → IsSettled (told (moved (restored_at p sv l) m)) → IsCheckFault p (moved (restored_at p sv l) m).stand.past.closed at
        → IsNotResumed p now o m (of_check at)
    found_out (check.Section i) can settled h = absurd h
    found_out (check.Log i f) can settled h = inr (record { saved = sv; log = l; bytes = bytes; loaded = loaded; can = can; settled = settled; fault = h })
    found_out check.Memory can settled h = tt

    -- the plan came to an answer, and its log isn't accepted
    pub found_at : (s : PlanState) (outcome : Outcome) (at : CheckAt) → CanRestore p now sv l → s ≡ moved (restored_at p sv l) m → outcome ≡ told s → IsSettled outcome
        → IsCheckFault s.plan s.stand.past.closed at → IsNotResumed p now o m (of_check at)
    found_at s outcome at can stands is settled h =
        found_out at can (subst IsSettled (is ∙ ap told stands) settled) (subst (λ (x : PlanState). IsCheckFault x.plan x.stand.past.closed at) stands h)

-- ---- gone on

-- what a plan came to that went on from what was loaded
pub has_resumed : (told_jobs : Type 0) (p : PlainPlan) (now : List ℕ) (o : Option KeptJob) (m : ℕ) (l : Loaded) (s : PlanState) (outcome : Outcome)
    → (told_jobs → IsLoaded now o l.saved l.log l.behind.bytes) → l.behind.parts ≡ l.saved.parts → CanBeSaved l.saved → CanRestore p now l.saved l.log → s ≡ moved (restored_at p l.saved l.log) m → outcome ≡ told s
    → (IsSettled outcome → AreAccepted s.plan s.stand.past.closed) → ((bytes : List ℕ) × IsLogText bytes l.log)
    → HasResumed told_jobs p now o m s (record { outcome = outcome; behind = l.behind })
has_resumed told_jobs p now o m l s outcome loaded counted saves can stands is accepted read = record {
  gone = record {
    saved = l.saved;
    log = l.log;
    bytes = l.behind.bytes;
    loaded = loaded;
    can = can;
    stands = stands;
    comes_to = is;
    accepted = λ settled. subst (λ (q : PlainPlan). AreAccepted q s.stand.past.closed) (ap (λ (x : PlanState). x.plan) stands) (accepted settled);
  };
  can = saves;
  parts_are = counted;
  bytes_are = refl;
  read = read;
}

-- ---- what a fault leaves

pub left_alike : (old new : PlanState) (e : KeptFault) → new ≡ old → IsLeftAs old new e
left_alike old new NoJob h = h
left_alike old new (Form place) h = h
left_alike old new (JobElse kept given) h = h
left_alike old new Spent h = h
left_alike old new (Part number) h = h
left_alike old new LongLog h = h
left_alike old new (Parts kept given) h = h
left_alike old new (Section i) h = h
left_alike old new IllFormed h = h
left_alike old new (Log i f) h = tt
left_alike old new Failed h = h
left_alike old new Memory h = tt

-- a log that isn't accepted is found out where tries were made
pub left_checked : (old new : PlanState) (p : PlainPlan) (sections : List PlainSection) (at : CheckAt) → IsCheckFault p sections at → IsLeftAs old new (of_check at)
left_checked old new p sections (check.Section i) h = absurd h
left_checked old new p sections (check.Log i f) h = tt
left_checked old new p sections check.Memory h = tt
