-- What is loaded of a kept job is what was kept, and what goes on from it comes to what a run without a stop comes to.
use Rattle.std.proofs.Common.{◌≡◌, ◌∙◌, ℕ, ◌≤◌, ◌<◌, ◌+◌, Bool, true, false, List, [], ◌∷◌, length, take, Option, Some, None, inl, inr, refl, sym, ap, subst, arith}
use Rattle.std.specs.Prelude.{if◌then◌else◌, IfSome}
use Rattle.sha2.specs.Sha256.{sha256}
use Rattle.std.proofs.lemmas.Option.{same_Some}
use Rattle.closing_log.proofs.LogLaws.{one_log}
use Rattle.closing_log.specs.Log.{PlainLog, PlainSection}
use Rattle.closing_log.specs.LogText.{IsLogText, text_of}
use Rattle.fund_outside.specs.Kept.{KeptJob, parts_in}
use Rattle.fund_plan.proofs.EndLaws.{new_told}
use Rattle.fund_plan.proofs.GoingLaws.{new_log, new_tries}
use Rattle.fund_plan.proofs.KeepLaws.{accepted_on, log_on, told_on, tries_on}
use Rattle.fund_plan.proofs.RefusedLaws.{kept_no_cause, new_accepted}
use Rattle.fund_plan.specs.Outcome.{log_at, most_tries, stand_after, tries_at}
use Rattle.fund_plan.specs.Resumed.{AreAccepted, CanRestore, IsCheckFault, IsStandOf, log_digest, log_in, restored_at, saved_at}
use Rattle.fund_plan.specs.State.{PlanState, end_in, moved, told}
use Rattle.fund_plan.specs.Outcome.{end_at, is_partial}
use Rattle.fund_plan.specs.Steps.{steps_of}
use Rattle.fund_plan.specs.declared.fault.CheckAt.TheVariants as check
use Rattle.fund_plan.specs.declared.fault.PlanSavedFault.{PlanSavedFault}
use Rattle.fund_plan.specs.declared.fault.PlanSavedFault.TheVariants as planned
use Rattle.fund_plan.specs.declared.outcome.Outcome.{Outcome}
use Rattle.fund_steps.specs.Plan.{PlainPlan}
use Rattle.log_checker.specs.declared.fault.LogFault.{LogFault}
use Rattle.pick_problem.specs.Walk.{upward}
use Rattle.search_keep.proofs.ToldLaws.{one_saved}
use Rattle.search_keep.specs.SavedText.{IsSavedText, PlainSaved}
use Rattle.search_keep.specs.declared.fault.SavedFault.TheVariants as saved_faults
use Rattle.search_run.proofs.ExactLaws.{accepted_not_refused}
use Rattle.search_run.proofs.MadeLaws.{kept_begins}
use Rattle.search_run.specs.Kept as run
use Rattle.search_run.specs.Kept.{log_of, saved_by, saved_of}
use Rattle.search_run.specs.Run.{Stand}
use Rattle.search_run.specs.Runs.{saved_with}
use Rattle.search_run.specs.Step.{AreSteps, PlainStep}
use Rattle.search_run.specs.declared.fault.VerifyFault.TheVariants as verified
use Rattle.kept_job.proofs.SizeLaws.{log_short}
use Rattle.kept_job.specs.Continued.{HasContinued}
use Rattle.kept_job.specs.Jobs.{HasParts, HasSaved, IsLoaded, IsOfLog, joined, most_bytes, with_log}
use Rattle.kept_job.specs.Kept.{IsAsAfter, IsKeptJob, IsKeptAt, new_of}
use Rattle.kept_job.specs.Refused.{IsNotGoneOn, IsNotResumed, IsOfJob}
use Rattle.kept_job.specs.declared.fault.KeptFault.{KeptFault}
use Rattle.kept_job.specs.declared.fault.KeptFault.TheVariants as faults

-- ---- what is loaded

-- the job that is there
pub own_job : (o : Option KeptJob) (a b : KeptJob) → o ≡ Some a → o ≡ Some b → a ≡ b
own_job o a b e f = same_Some a b (sym e ∙ f)

module _ (digest : List ℕ) (s : PlanState) (o : Option KeptJob) (k : IsKeptJob digest s o) where
  pub same_saved : (saved : PlainSaved) → HasSaved o saved → saved ≡ k.saved
  same_saved saved h =
      one_saved k.job.saved saved k.saved (subst (λ (j : KeptJob). IsSavedText j.saved saved) (own_job o h.job k.job h.is k.is) h.text) k.reads

  pub same_bytes : (count : ℕ) (bytes : List ℕ) → count ≡ k.saved.parts → HasParts o count bytes → bytes ≡ joined (take k.saved.parts k.job.parts)
  same_bytes count bytes e h =
      h.are
      ∙ (ap (λ (c : ℕ). joined (take c (parts_in o))) e
      ∙ ap (λ (x : Option KeptJob). joined (take k.saved.parts (parts_in x))) k.is)

  pub same_log : (saved : PlainSaved) (log : PlainLog) (bytes : List ℕ) (now : List ℕ) → IsLoaded now o saved log bytes → log ≡ log_in s
  same_log saved log bytes now h =
      let e : saved ≡ k.saved = same_saved saved h.due.has in
      let b : bytes ≡ joined (take k.saved.parts k.job.parts) = same_bytes saved.parts bytes (ap (λ (x : PlainSaved). x.parts) e) h.parts in
      one_log bytes log (log_in s) h.text (subst (λ (x : List ℕ). IsLogText x (log_in s)) (sym b) k.log_reads)

-- the digest that is kept, if it is this one
pub kept_as : (o : Option (List ℕ)) (kept digest : List ℕ) → o ≡ Some kept → IfSome o (λ own. own ≡ digest) → kept ≡ digest
kept_as None kept digest e h = absurd (cc)
kept_as (Some own) kept digest e h = sym (same_Some own kept e) ∙ h

-- ---- what is saved of a plan

module _ (job : List ℕ) (parts : ℕ) (log : Option (List ℕ)) (saved : PlainSaved) where
  made_of : (k : run.PlainSaved) → saved_with job parts log (Some k) ≡ Some saved → (saved.job ≡ job) × (saved.tries ≡ k.tries) × (saved.parts ≡ parts) × (saved.log ≡ log)
  made_of k e =
      let same : record { job = job; tries = k.tries; row = k.row; stage = k.stage; chosen = k.chosen; next = k.next; best = k.best; parts = parts; log = log } ≡ saved = cc in
      (sym (ap (λ (x : PlainSaved). x.job) same), sym (ap (λ (x : PlainSaved). x.tries) same), sym (ap (λ (x : PlainSaved). x.parts) same), sym (ap (λ (x : PlainSaved). x.log) same))

  made_by : (s : Stand) (left : List PlainStep) → saved_with job parts log (saved_by s left) ≡ Some saved → (saved.job ≡ job) × (saved.tries ≡ s.past.tries) × (saved.parts ≡ parts) × (saved.log ≡ log)
  made_by s [] e = absurd (cc)
  made_by s (x ∷ rest) e = made_of (record { tries = s.past.tries; row = x.row; stage = x.stage; chosen = upward s.walk.stack; next = s.walk.next; best = s.walk.best }) e

-- ---- going on

module _ (p : PlainPlan) (are : AreSteps (steps_of p)) where
  begins : IsStandOf (new_of p)
  begins = kept_begins p.request.seed (steps_of p) are

  module _ (n m : ℕ) (digest : List ℕ) (job : Option KeptJob) (k : IsKeptAt p digest n job) where
    -- the plan that goes on from what is loaded goes on from what was kept
    pub there : (saved : PlainSaved) (log : PlainLog) (bytes : List ℕ) → IsLoaded digest job saved log bytes
        → moved (restored_at p saved log) m ≡ moved (restored_at p k.saved (log_in (moved (new_of p) n))) m
    there saved log bytes h =
        ap (λ (x : PlainSaved). moved (restored_at p x log) m) (same_saved digest (moved (new_of p) n) job k saved h.due.has)
        ∙ ap (λ (x : PlainLog). moved (restored_at p k.saved x) m) (same_log digest (moved (new_of p) n) job k saved log bytes digest h)

    pub log_there : (saved : PlainSaved) (log : PlainLog) (bytes : List ℕ) → IsLoaded digest job saved log bytes → log_in (moved (restored_at p saved log) m) ≡ log_at p (n + m)
    log_there saved log bytes h =
        ap log_in (there saved log bytes h)
        ∙ (log_on (new_of p) n digest k.saved.parts (with_log k.saved (log_digest (moved (new_of p) n))) are begins k.saves m
        ∙ new_log (new_of p) (n + m) refl refl)

    pub goes_alike : (s : PlanState) (o : Outcome) → HasContinued (Unit {0}) p digest job m s o → IsAsAfter p (n + m) s o
    goes_alike s o g =
        let here : s ≡ moved (restored_at p k.saved (log_in (moved (new_of p) n))) m = g.stands ∙ there g.saved g.log g.bytes (g.loaded tt) in
        record {
          outcome =
              g.comes_to
              ∙ (ap told here
              ∙ (told_on (new_of p) n digest k.saved.parts (with_log k.saved (log_digest (moved (new_of p) n))) are begins k.saves m
              ∙ new_told (new_of p) (n + m) refl refl));
          tries =
              ap (λ (x : PlanState). x.stand.past.tries) here
              ∙ (tries_on (new_of p) n digest k.saved.parts (with_log k.saved (log_digest (moved (new_of p) n))) are begins k.saves m
              ∙ new_tries (new_of p) (n + m) refl refl);
          log = ap log_in g.stands ∙ log_there g.saved g.log g.bytes (g.loaded tt);
        }

-- ---- no refusal

closed_in : (b : Bool) (s : Stand) → (log_of b s).closed ≡ s.past.closed
closed_in true s = refl
closed_in false s = refl

closed_at : (p : PlainPlan) (n : ℕ) → (log_at p n).closed ≡ (stand_after p n).past.closed
unfolding log_at
closed_at p n = closed_in (is_partial (end_at p (stand_after p n))) (stand_after p n)

-- what is saved of a plan names the job and tells the tries
made_in : (digest : List ℕ) (parts : ℕ) (log : Option (List ℕ)) (saved : PlainSaved) (s : PlanState) (b : Bool) → (if b then None else saved_with digest parts log (saved_of s.stand)) ≡ Some saved
    → (saved.job ≡ digest) × (saved.tries ≡ s.stand.past.tries) × (saved.parts ≡ parts) × (saved.log ≡ log)
made_in digest parts log saved s true e = absurd (cc)
made_in digest parts log saved s false e = made_by digest parts log saved s.stand s.stand.left e

pub made_there : (digest : List ℕ) (parts : ℕ) (saved : PlainSaved) (s : PlanState) → saved_at digest parts s ≡ Some saved
    → (saved.job ≡ digest) × (saved.tries ≡ s.stand.past.tries) × (saved.parts ≡ parts) × (saved.log ≡ Some (log_digest s))
made_there digest parts saved s e = made_in digest parts (Some (log_digest s)) saved s (is_partial (end_in s)) e

-- what is saved has the digest of its own log
pub logged : (digest : List ℕ) (parts : ℕ) (saved : PlainSaved) (s : PlanState) → saved_at digest parts s ≡ Some saved → saved ≡ with_log saved (log_digest s)
logged digest parts saved s e = ap (λ (l : Option (List ℕ)). record saved { log = l }) (made_there digest parts saved s e).3

module _ (p : PlainPlan) (are : AreSteps (steps_of p)) (n m : ℕ) (digest : List ℕ) (job : Option KeptJob) (k : IsKeptAt p digest n job) where
  own : (k.saved.job ≡ digest) × (k.saved.tries ≡ tries_at p n)
  own =
      let made = made_there digest k.saved.parts (with_log k.saved (log_digest (moved (new_of p) n))) (moved (new_of p) n) k.saves in
      (made.0, made.1 ∙ new_tries (new_of p) n refl refl)

  can : (saved : PlainSaved) (log : PlainLog) (bytes : List ℕ) → IsLoaded digest job saved log bytes → CanRestore p digest saved log
  can saved log bytes h =
      let es : saved ≡ k.saved = same_saved digest (moved (new_of p) n) job k saved h.due.has in
      let el : log ≡ log_in (moved (new_of p) n) = same_log digest (moved (new_of p) n) job k saved log bytes digest h in
      let due = h.due.due.tries in
      let tried : saved.tries ≡ tries_at p n = ap (λ (x : PlainSaved). x.tries) es ∙ own.1 in
      let few : (moved (new_of p) n).stand.past.tries < most_tries = subst (λ (t : ℕ). t < most_tries) (tried ∙ sym (new_tries (new_of p) n refl refl)) due in
      let whole : CanRestore p digest (with_log k.saved (log_digest (moved (new_of p) n))) (log_in (moved (new_of p) n)) =
      accepted_on (new_of p) n digest k.saved.parts (with_log k.saved (log_digest (moved (new_of p) n))) are (kept_begins p.request.seed (steps_of p) are) k.saves few in
      let kept : CanRestore p digest k.saved (log_in (moved (new_of p) n)) = record { due = record { job = whole.due.job; tries = whole.due.tries }; can = whole.can } in
      subst (λ (x : PlainSaved). CanRestore p digest x log) (sym es) (subst (λ (x : PlainLog). CanRestore p digest k.saved x) (sym el) kept)

  not_gone_on : (e : PlanSavedFault) → IsNotGoneOn p digest job e → e ≡ planned.Memory
  not_gone_on e h = kept_no_cause p digest h.saved h.log e (can h.saved h.log h.bytes h.loaded) h.refused

  not_found_out : (saved : PlainSaved) (log : PlainLog) (bytes : List ℕ) (i : ℕ) (f : LogFault) → IsLoaded digest job saved log bytes
      → IsCheckFault p (moved (restored_at p saved log) m).stand.past.closed (check.Log i f) → ⊥
  not_found_out saved log bytes i f h fault =
      let x : PlanState = moved (restored_at p saved log) m in
      let same : x.stand.past.closed ≡ (stand_after p (n + m)).past.closed =
      sym (closed_in (is_partial (end_in x)) x.stand)
      ∙ (ap (λ (l : PlainLog). l.closed) (log_there p are n m digest job k saved log bytes h)
      ∙ closed_at p (n + m)) in
      let there : IsCheckFault p (stand_after p (n + m)).past.closed (check.Log i f) = subst (λ (ss : List PlainSection). IsCheckFault p ss (check.Log i f)) same fault in
      let e = accepted_not_refused p.request.seed (steps_of p) (stand_after p (n + m)).past.closed (verified.Log i f) (new_accepted p (n + m) are) there in
      absurd (cc)

  -- the parts are within the limit
  parts_short : length (joined (take k.saved.parts k.job.parts)) ≤ most_bytes
  parts_short =
      let text : joined (take k.saved.parts k.job.parts) ≡ text_of (log_at p n) = k.log ∙ ap (λ (l : PlainLog). text_of l) (new_log (new_of p) n refl refl) in
      subst (λ (bytes : List ℕ). length bytes ≤ most_bytes) (sym text) (log_short p n are)

  pub kept_not_refused : (fault : KeptFault) → IsNotResumed p digest job m fault → IsOfJob fault → (fault ≡ faults.Spent) × (most_tries ≤ tries_at p n)
  kept_not_refused faults.NoJob h own_fault = let e : None ≡ Some k.job = sym h ∙ k.is in absurd (cc)
  kept_not_refused (faults.Form place) h own_fault =
      absurd (h.first.whole k.saved (subst (λ (j : KeptJob). IsSavedText j.saved k.saved) (own_job job k.job h.job k.is h.is) k.reads))
  kept_not_refused (faults.JobElse kept given) h own_fault =
      absurd (h.other (ap (λ (x : PlainSaved). x.job) (same_saved digest (moved (new_of p) n) job k h.saved h.has) ∙ own.0))
  kept_not_refused faults.Spent h own_fault =
      let tried : h.saved.tries ≡ tries_at p n = ap (λ (x : PlainSaved). x.tries) (same_saved digest (moved (new_of p) n) job k h.saved h.has) ∙ own.1 in
      (refl, subst (λ (t : ℕ). most_tries ≤ t) tried h.tries)
  kept_not_refused (faults.Part number) h own_fault =
      let counted : h.0.parts ≡ k.saved.parts = ap (λ (x : PlainSaved). x.parts) (same_saved digest (moved (new_of p) n) job k h.0 h.1.has) in
      let all : number ≡ length k.job.parts = h.2.all ∙ ap (λ (x : Option KeptJob). length (parts_in x)) k.is in
      absurd (omega (arith, counted, all, h.2.counted, k.there))
  kept_not_refused faults.LongLog h own_fault =
      let e : joined (take h.0.parts (parts_in job)) ≡ joined (take k.saved.parts k.job.parts) =
      ap (λ (x : PlainSaved). joined (take x.parts (parts_in job))) (same_saved digest (moved (new_of p) n) job k h.0 h.1.has)
      ∙ ap (λ (x : Option KeptJob). joined (take k.saved.parts (parts_in x))) k.is in
      let long : most_bytes < length (joined (take k.saved.parts k.job.parts)) = subst (λ (bytes : List ℕ). most_bytes < length bytes) e h.2 in
      absurd (omega (arith, long, parts_short))
  kept_not_refused (faults.Parts kept given) h own_fault =
      let es : h.saved ≡ k.saved = same_saved digest (moved (new_of p) n) job k h.saved h.due.has in
      let eb : h.bytes ≡ text_of (log_in (moved (new_of p) n)) =
      same_bytes digest (moved (new_of p) n) job k h.saved.parts h.bytes (ap (λ (x : PlainSaved). x.parts) es) h.parts ∙ k.log in
      let there : kept ≡ log_digest (moved (new_of p) n) = kept_as k.saved.log kept (log_digest (moved (new_of p) n)) (sym (ap (λ (x : PlainSaved). x.log) es) ∙ h.kept_is) k.digest_is in
      absurd (h.other (there ∙ (sym (ap sha256 eb) ∙ sym h.given_is)))
  kept_not_refused (faults.Section i) (inl h) own_fault =
      let e : h.1 ≡ joined (take k.saved.parts k.job.parts) =
      same_bytes digest (moved (new_of p) n) job k h.0.parts h.1 (ap (λ (x : PlainSaved). x.parts) (same_saved digest (moved (new_of p) n) job k h.0 h.2.has)) h.3 in
      absurd (h.5.first.whole (log_in (moved (new_of p) n)) (subst (λ (bytes : List ℕ). IsLogText bytes (log_in (moved (new_of p) n))) (sym e) k.log_reads))
  kept_not_refused (faults.Section i) (inr h) own_fault = let e = not_gone_on (planned.False (check.Section i)) h in absurd (cc)
  kept_not_refused faults.IllFormed h own_fault = let e = not_gone_on (planned.Saved saved_faults.IllFormed) h in absurd (cc)
  kept_not_refused (faults.Log i f) (inl h) own_fault = let e = not_gone_on (planned.False (check.Log i f)) h in absurd (cc)
  kept_not_refused (faults.Log i f) (inr h) own_fault = absurd (not_found_out h.saved h.log h.bytes i f h.loaded h.fault)
  kept_not_refused faults.Failed h own_fault = absurd own_fault
  kept_not_refused faults.Memory h own_fault = absurd own_fault

  -- ---- going on

  loads : tries_at p n < most_tries → IsLoaded digest job k.saved (log_in (moved (new_of p) n)) (joined (take k.saved.parts k.job.parts))
  loads few = record {
    due = record { has = record { job = k.job; is = k.is; text = k.reads }; due = record { job = own.0; tries = subst (λ (t : ℕ). t < most_tries) (sym own.1) few } };
    parts = record {
      there = subst (λ (o : Option KeptJob). k.saved.parts ≤ length (parts_in o)) (sym k.is) k.there;
      are = ap (λ (o : Option KeptJob). joined (take k.saved.parts (parts_in o))) (sym k.is);
      fits = parts_short;
    };
    digest = subst (λ (bytes : List ℕ). IsOfLog k.saved (sha256 bytes)) (sym k.log) k.digest_is;
    text = k.log_reads;
  }

  -- with tries left a plan goes on from it
  pub kept_goes : tries_at p n < most_tries → (s : PlanState) × (o : Outcome) × HasContinued (Unit {0}) p digest job m s o
  kept_goes few =
      let l = loads few in
      let x : PlanState = moved (restored_at p k.saved (log_in (moved (new_of p) n))) m in
      let same : x.stand.past.closed ≡ (stand_after p (n + m)).past.closed =
      sym (closed_in (is_partial (end_in x)) x.stand)
      ∙ (ap (λ (g : PlainLog). g.closed) (log_there p are n m digest job k k.saved (log_in (moved (new_of p) n)) (joined (take k.saved.parts k.job.parts)) l)
      ∙ closed_at p (n + m)) in (
        x,
        told x,
        record {
          saved = k.saved;
          log = log_in (moved (new_of p) n);
          bytes = joined (take k.saved.parts k.job.parts);
          loaded = λ u. l;
          can = can k.saved (log_in (moved (new_of p) n)) (joined (take k.saved.parts k.job.parts)) l;
          stands = refl;
          comes_to = refl;
          accepted = λ settled. subst (AreAccepted p) (sym same) (new_accepted p (n + m) are);
        },
      )
