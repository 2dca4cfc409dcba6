-- A job is refused for one fault of its own at most. Each fault is told at one stage, and what is refused at a later one passed
-- those before.
use Rattle.std.proofs.Common.{◌≡◌, ◌∙◌, ℕ, List, length, take, Option, Some, None, inl, inr, refl, sym, ap, subst, arith}
use Rattle.std.specs.Prelude.{◌⊎◌, ◌≢◌}
use Rattle.std.proofs.Common.{take_all}
use Rattle.std.proofs.lemmas.Option.{same_Some}
use Rattle.sha2.specs.Sha256.{sha256}
use Rattle.closing_log.proofs.FirstFaults.{one_place}
use Rattle.closing_log.proofs.LogLaws.{one_log}
use Rattle.closing_log.proofs.WrittenLaws as log_laws
use Rattle.closing_log.specs.Log.{PlainLog}
use Rattle.closing_log.specs.LogText.{IsCount, IsLogText}
use Rattle.closing_log.specs.Exact.{IsFirstFault}
use Rattle.fund_outside.specs.Kept.{KeptJob, parts_in}
use Rattle.fund_plan.proofs.RefusedLaws.{kept_no_cause, one_check_cause, one_kept_cause}
use Rattle.fund_plan.specs.Resumed.{CanRestore, IsCheckFault, IsNotRestored, restored_at}
use Rattle.fund_plan.specs.State.{PlanState, moved, told}
use Rattle.fund_plan.specs.Steps.{steps_of}
use Rattle.search_run.proofs.ExactLaws.{accepted_not_refused}
use Rattle.search_run.specs.declared.fault.VerifyFault.TheVariants as verified
use Rattle.fund_plan.specs.declared.fault.CheckAt.TheVariants as check
use Rattle.fund_plan.specs.declared.fault.PlanSavedFault.{PlanSavedFault}
use Rattle.fund_plan.specs.declared.fault.PlanSavedFault.TheVariants as planned
use Rattle.fund_plan.specs.declared.outcome.Outcome.{Outcome}
use Rattle.fund_steps.specs.Plan.{PlainPlan}
use Rattle.log_checker.specs.declared.fault.LogFault.{LogFault}
use Rattle.search_keep.proofs.ToldLaws.{one_saved}
use Rattle.search_keep.specs.SavedText.{IsSavedText, PlainSaved}
use Rattle.search_keep.specs.declared.fault.SavedFault.TheVariants as saved_faults
use Rattle.kept_job.proofs.SameLaws.{kept_as}
use Rattle.kept_job.specs.Faults.{of_check, of_plan}
use Rattle.kept_job.specs.Continued.{HasContinued, IsSettled}
use Rattle.kept_job.specs.Jobs.{HasDue, HasParts, HasSaved, IsLoaded, IsOfLog, joined}
use Rattle.kept_job.specs.Refused.{AreTooLong, HasNoForm, IsElse, IsFoundOut, IsNoLog, IsNotGoneOn, IsNotResumed, IsOfJob, IsSpent, LacksPart}
use Rattle.kept_job.specs.declared.fault.KeptFault.{KeptFault}
use Rattle.kept_job.specs.declared.fault.KeptFault.TheVariants as faults

-- ---- what is loaded of one job

own_job : (o : Option KeptJob) (a b : KeptJob) → o ≡ Some a → o ≡ Some b → a ≡ b
own_job o a b e f = same_Some a b (sym e ∙ f)

one_position : (o : Option KeptJob) (a b : PlainSaved) → HasSaved o a → HasSaved o b → a ≡ b
one_position o a b h g = one_saved g.job.saved a b (subst (λ (j : KeptJob). IsSavedText j.saved a) (own_job o h.job g.job h.is g.is) h.text) g.text

one_join : (o : Option KeptJob) (m n : ℕ) (a b : List ℕ) → m ≡ n → HasParts o m a → HasParts o n b → a ≡ b
one_join o m n a b e h g = h.are ∙ (ap (λ (c : ℕ). joined (take c (parts_in o))) e ∙ sym g.are)

-- ---- the stages

-- at the parts
record IsPartial (o : Option KeptJob) (count : ℕ) (number : ℕ) (e : KeptFault) : Type 0 where
  fault : e ≡ faults.Part number
  lacks : LacksPart o count number

record IsLong (o : Option KeptJob) (count : ℕ) (e : KeptFault) : Type 0 where
  fault : e ≡ faults.LongLog
  long : AreTooLong o count

record IsChanged (o : Option KeptJob) (saved : PlainSaved) (e : KeptFault) : Type 0 where
  kept : List ℕ
  given : List ℕ
  bytes : List ℕ
  fault : e ≡ faults.Parts kept given
  parts : HasParts o saved.parts bytes
  kept_is : saved.log ≡ Some kept
  given_is : given ≡ sha256 bytes
  other : kept ≡ given → ⊥

record IsUnread (o : Option KeptJob) (saved : PlainSaved) (e : KeptFault) : Type 0 where
  bytes : List ℕ
  index : ℕ
  fault : e ≡ faults.Section index
  parts : HasParts o saved.parts bytes
  digest : IsOfLog saved (sha256 bytes)
  nothing : IsNoLog bytes index

abbrev IsUnjoined : Option KeptJob → PlainSaved → KeptFault → Type 0
IsUnjoined o saved e = ((number : ℕ) × IsPartial o saved.parts number e) ⊎ (IsLong o saved.parts e ⊎ (IsChanged o saved e ⊎ IsUnread o saved e))

-- the plan doesn't go on
record IsUnrestored (p : PlainPlan) (now : List ℕ) (o : Option KeptJob) (e : KeptFault) : Type 0 where
  cause : PlanSavedFault
  some : cause ≢ planned.Memory
  fault : e ≡ of_plan cause
  is : IsNotGoneOn p now o cause

record IsFalse (p : PlainPlan) (now : List ℕ) (o : Option KeptJob) (m : ℕ) (e : KeptFault) : Type 0 where
  index : ℕ
  of_log : LogFault
  fault : e ≡ faults.Log index of_log
  is : IsFoundOut p now o m index of_log

-- ---- where a job is refused

data Refusal (p : PlainPlan) (now : List ℕ) (o : Option KeptJob) (m : ℕ) (e : KeptFault) : Type 0 where
  AtName : e ≡ faults.NoJob → o ≡ None → Refusal p now o m e
  AtForm : (place : ℕ) → e ≡ faults.Form place → HasNoForm o place → Refusal p now o m e
  AtJob : (kept given : List ℕ) → e ≡ faults.JobElse kept given → IsElse now o kept given → Refusal p now o m e
  AtTries : e ≡ faults.Spent → IsSpent now o → Refusal p now o m e
  AtParts : (saved : PlainSaved) → HasDue now o saved → IsUnjoined o saved e → Refusal p now o m e
  AtPlan : IsUnrestored p now o e → Refusal p now o m e
  AtEnd : IsFalse p now o m e → Refusal p now o m e

refusal : (p : PlainPlan) (now : List ℕ) (o : Option KeptJob) (m : ℕ) (e : KeptFault) → IsOfJob e → IsNotResumed p now o m e → Refusal p now o m e
refusal p now o m faults.NoJob own h = AtName refl h
refusal p now o m (faults.Form place) own h = AtForm place refl h
refusal p now o m (faults.JobElse kept given) own h = AtJob kept given refl h
refusal p now o m faults.Spent own h = AtTries refl h
refusal p now o m (faults.Part number) own h = AtParts h.0 h.1 (inl (number, record { fault = refl; lacks = h.2 }))
refusal p now o m faults.LongLog own h = AtParts h.0 h.1 (inr (inl (record { fault = refl; long = h.2 })))
refusal p now o m (faults.Parts kept given) own h =
    AtParts h.saved h.due (inr (inr (inl (record { kept = kept; given = given; bytes = h.bytes; fault = refl; parts = h.parts; kept_is = h.kept_is; given_is = h.given_is; other = h.other }))))
refusal p now o m (faults.Section i) own (inl h) = AtParts h.0 h.2 (inr (inr (inr (record { bytes = h.1; index = i; fault = refl; parts = h.3; digest = h.4; nothing = h.5 }))))
refusal p now o m (faults.Section i) own (inr h) = AtPlan (record { cause = planned.False (check.Section i); some = λ x. absurd cc; fault = refl; is = h })
refusal p now o m faults.IllFormed own h = AtPlan (record { cause = planned.Saved saved_faults.IllFormed; some = λ x. absurd cc; fault = refl; is = h })
refusal p now o m (faults.Log i f) own (inl h) = AtPlan (record { cause = planned.False (check.Log i f); some = λ x. absurd cc; fault = refl; is = h })
refusal p now o m (faults.Log i f) own (inr h) = AtEnd (record { index = i; of_log = f; fault = refl; is = h })
refusal p now o m faults.Failed own h = absurd own
refusal p now o m faults.Memory own h = absurd own

-- ---- each stage is passed or not

module _ (now : List ℕ) (o : Option KeptJob) where
  there_not : (j : KeptJob) → o ≡ None → o ≡ Some j → ⊥
  there_not j none some = let e : None ≡ Some j = sym none ∙ some in absurd (cc)

  formed_not : (place : ℕ) (saved : PlainSaved) → HasNoForm o place → HasSaved o saved → ⊥
  formed_not place saved n h = n.first.whole saved (subst (λ (j : KeptJob). IsSavedText j.saved saved) (own_job o h.job n.job h.is n.is) h.text)

  else_not : (kept given : List ℕ) (saved : PlainSaved) → IsElse now o kept given → HasSaved o saved → saved.job ≡ now → ⊥
  else_not kept given saved n h own = n.other (ap (λ (x : PlainSaved). x.job) (one_position o n.saved saved n.has h) ∙ own)

  spent_not : (saved : PlainSaved) → IsSpent now o → HasDue now o saved → ⊥
  spent_not saved n h =
      let e : n.saved.tries ≡ saved.tries = ap (λ (x : PlainSaved). x.tries) (one_position o n.saved saved n.has h.has) in
      omega (arith, e, n.tries, h.due.tries)

  -- parts that are there aren't missing, nor too long
  lacks_not : (count number : ℕ) (bytes : List ℕ) → LacksPart o count number → HasParts o count bytes → ⊥
  lacks_not count number bytes n h = omega (arith, n.counted, n.all, h.there)

  long_not : (count : ℕ) (bytes : List ℕ) → AreTooLong o count → HasParts o count bytes → ⊥
  long_not count bytes n h =
      let e : length bytes ≡ length (joined (take count (parts_in o))) = ap length h.are in
      omega (arith, e, n, h.fits)

  no_log_not : (count : ℕ) (bytes other : List ℕ) (log : PlainLog) (index : ℕ) → IsNoLog bytes index → HasParts o count bytes → HasParts o count other → IsLogText other log → ⊥
  no_log_not count bytes other log index n a b h = n.first.whole log (subst (λ (x : List ℕ). IsLogText x log) (one_join o count count other bytes refl b a) h)

  -- parts of which the digest is saved aren't others
  changed_not : (e : KeptFault) (saved : PlainSaved) (bytes : List ℕ) → IsChanged o saved e → HasParts o saved.parts bytes → IsOfLog saved (sha256 bytes) → ⊥
  changed_not e saved bytes n parts digest =
      let same : n.bytes ≡ bytes = one_join o saved.parts saved.parts n.bytes bytes refl n.parts parts in
      n.other (kept_as saved.log n.kept (sha256 bytes) n.kept_is digest ∙ (sym (ap sha256 same) ∙ sym n.given_is))

  -- what is loaded passed the parts
  unjoined_not : (e : KeptFault) (saved other : PlainSaved) (log : PlainLog) (bytes : List ℕ) → HasDue now o saved → IsUnjoined o saved e → IsLoaded now o other log bytes → ⊥
  unjoined_not e saved other log bytes due n l = by (subst (λ (x : PlainSaved). IsUnjoined o x e) (one_position o saved other due.has l.due.has) n)
    where
      by : IsUnjoined o other e → ⊥
      by (inl h) = lacks_not other.parts h.0 bytes h.1.lacks l.parts
      by (inr (inl h)) = long_not other.parts bytes h.long l.parts
      by (inr (inr (inl h))) = changed_not e other bytes h l.parts l.digest
      by (inr (inr (inr h))) = no_log_not other.parts h.bytes bytes log h.index h.nothing h.parts l.parts l.text

  -- ---- one fault at a stage

  one_form : (a b : ℕ) → HasNoForm o a → HasNoForm o b → a ≡ b
  one_form a b h g = one_place IsSavedText g.job.saved a b (subst (λ (j : KeptJob). IsFirstFault IsSavedText j.saved a) (own_job o h.job g.job h.is g.is) h.first) g.first

  one_else : (a b c d : List ℕ) → IsElse now o a b → IsElse now o c d → faults.JobElse a b ≡ faults.JobElse c d
  one_else a b c d h g =
      ap (λ (x : List ℕ). faults.JobElse x b) (h.kept_is ∙ (ap (λ (x : PlainSaved). x.job) (one_position o h.saved g.saved h.has g.has) ∙ sym g.kept_is))
      ∙ ap (λ (x : List ℕ). faults.JobElse c x) (h.given_is ∙ sym g.given_is)

  one_section : (count : ℕ) (a b : List ℕ) (i j : ℕ) → HasParts o count a → HasParts o count b → IsNoLog a i → IsNoLog b j → i ≡ j
  one_section count a b i j pa pb h g =
      let n : IsNoLog b i = subst (λ (x : List ℕ). IsNoLog x i) (one_join o count count a b refl pa pb) h in
      let same : n.place ≡ g.place = one_place IsLogText b n.place g.place n.first g.first in
      log_laws.one_count b g.place i j (subst (λ (x : ℕ). IsCount b x i) same n.count) g.count

  -- the parts that are missing are within the limit, and then none are too long
  lacks_short : (count number : ℕ) → LacksPart o count number → AreTooLong o count → ⊥
  lacks_short count number n long =
      let all : take count (parts_in o) ≡ parts_in o = take_all count (parts_in o) (omega (arith, n.counted, n.all)) in
      let e : length (joined (take count (parts_in o))) ≡ length (joined (parts_in o)) = ap (λ (ps : List (List ℕ)). length (joined ps)) all in
      omega (arith, e, long, n.fits)

  one_changed : (saved : PlainSaved) (e f : KeptFault) → IsChanged o saved e → IsChanged o saved f → e ≡ f
  one_changed saved e f a b =
      a.fault
      ∙ (ap (λ (x : List ℕ). faults.Parts x a.given) (same_Some a.kept b.kept (sym a.kept_is ∙ b.kept_is))
      ∙ (ap (λ (x : List ℕ). faults.Parts b.kept x) (a.given_is ∙ (ap sha256 (one_join o saved.parts saved.parts a.bytes b.bytes refl a.parts b.parts) ∙ sym b.given_is))
      ∙ sym b.fault))

  one_unjoined : (saved : PlainSaved) (e f : KeptFault) → IsUnjoined o saved e → IsUnjoined o saved f → e ≡ f
  one_unjoined saved e f (inl a) (inl b) = a.1.fault ∙ (ap (λ (n : ℕ). faults.Part n) (a.1.lacks.all ∙ sym b.1.lacks.all) ∙ sym b.1.fault)
  one_unjoined saved e f (inl a) (inr (inl b)) = absurd (lacks_short saved.parts a.0 a.1.lacks b.long)
  one_unjoined saved e f (inl a) (inr (inr (inl b))) = absurd (lacks_not saved.parts a.0 b.bytes a.1.lacks b.parts)
  one_unjoined saved e f (inl a) (inr (inr (inr b))) = absurd (lacks_not saved.parts a.0 b.bytes a.1.lacks b.parts)
  one_unjoined saved e f (inr (inl a)) (inl b) = absurd (lacks_short saved.parts b.0 b.1.lacks a.long)
  one_unjoined saved e f (inr (inl a)) (inr (inl b)) = a.fault ∙ sym b.fault
  one_unjoined saved e f (inr (inl a)) (inr (inr (inl b))) = absurd (long_not saved.parts b.bytes a.long b.parts)
  one_unjoined saved e f (inr (inl a)) (inr (inr (inr b))) = absurd (long_not saved.parts b.bytes a.long b.parts)
  one_unjoined saved e f (inr (inr (inl a))) (inl b) = absurd (lacks_not saved.parts b.0 a.bytes b.1.lacks a.parts)
  one_unjoined saved e f (inr (inr (inl a))) (inr (inl b)) = absurd (long_not saved.parts a.bytes b.long a.parts)
  one_unjoined saved e f (inr (inr (inl a))) (inr (inr (inl b))) = one_changed saved e f a b
  one_unjoined saved e f (inr (inr (inl a))) (inr (inr (inr b))) = absurd (changed_not e saved b.bytes a b.parts b.digest)
  one_unjoined saved e f (inr (inr (inr a))) (inl b) = absurd (lacks_not saved.parts b.0 a.bytes b.1.lacks a.parts)
  one_unjoined saved e f (inr (inr (inr a))) (inr (inl b)) = absurd (long_not saved.parts a.bytes b.long a.parts)
  one_unjoined saved e f (inr (inr (inr a))) (inr (inr (inl b))) = absurd (changed_not f saved a.bytes b a.parts a.digest)
  one_unjoined saved e f (inr (inr (inr a))) (inr (inr (inr b))) =
      a.fault ∙ (ap (λ (n : ℕ). faults.Section n) (one_section saved.parts a.bytes b.bytes a.index b.index a.parts b.parts a.nothing b.nothing) ∙ sym b.fault)

-- what is loaded is one position and one log
one_loaded : (now : List ℕ) (o : Option KeptJob) (a b : PlainSaved) (la lb : PlainLog) (ba bb : List ℕ) → IsLoaded now o a la ba → IsLoaded now o b lb bb → (a ≡ b) × (la ≡ lb)
one_loaded now o a b la lb ba bb h g =
    let saved : a ≡ b = one_position o a b h.due.has g.due.has in
    let bytes : ba ≡ bb = one_join o a.parts b.parts ba bb (ap (λ (x : PlainSaved). x.parts) saved) h.parts g.parts in
    (saved, one_log bb la lb (subst (λ (x : List ℕ). IsLogText x la) bytes h.text) g.text)

-- a plan goes on from a job to one place, and comes to one outcome there
pub one_gone : (p : PlainPlan) (now : List ℕ) (o : Option KeptJob) (m : ℕ) (s t : PlanState) (a b : Outcome) → HasContinued (Unit {0}) p now o m s a → HasContinued (Unit {0}) p now o m t b → (s ≡ t) × (a ≡ b)
one_gone p now o m s t a b g h =
    let same = one_loaded now o g.saved h.saved g.log h.log g.bytes h.bytes (g.loaded tt) (h.loaded tt) in
    let state : s ≡ t =
    g.stands
    ∙ (ap (λ (x : PlainSaved). moved (restored_at p x g.log) m) same.0
    ∙ (ap (λ (x : PlainLog). moved (restored_at p h.saved x) m) same.1
    ∙ sym h.stands)) in
    (state, g.comes_to ∙ (ap told state ∙ sym h.comes_to))

module _ (p : PlainPlan) (now : List ℕ) (o : Option KeptJob) (m : ℕ) where
  one_unrestored : (e f : KeptFault) → IsUnrestored p now o e → IsUnrestored p now o f → e ≡ f
  one_unrestored e f a b =
      let same = one_loaded now o a.is.saved b.is.saved a.is.log b.is.log a.is.bytes b.is.bytes a.is.loaded b.is.loaded in
      let moved_over : IsNotRestored p now b.is.saved b.is.log a.cause =
      subst (λ (l : PlainLog). IsNotRestored p now b.is.saved l a.cause) same.1 (subst (λ (s : PlainSaved). IsNotRestored p now s a.is.log a.cause) same.0 a.is.refused) in
      a.fault ∙ (ap of_plan (one_kept_cause p now b.is.saved b.is.log a.cause b.cause a.some b.some moved_over b.is.refused) ∙ sym b.fault)

  -- a plan that goes on passed the plan's rules
  unrestored_not : (e : KeptFault) (saved : PlainSaved) (log : PlainLog) (bytes : List ℕ) → IsUnrestored p now o e → IsLoaded now o saved log bytes → CanRestore p now saved log → ⊥
  unrestored_not e saved log bytes a l can =
      let same = one_loaded now o a.is.saved saved a.is.log log a.is.bytes bytes a.is.loaded l in
      let moved_over : IsNotRestored p now saved log a.cause =
      subst (λ (x : PlainLog). IsNotRestored p now saved x a.cause) same.1 (subst (λ (s : PlainSaved). IsNotRestored p now s a.is.log a.cause) same.0 a.is.refused) in
      a.some (kept_no_cause p now saved log a.cause can moved_over)

  one_false : (e f : KeptFault) → IsFalse p now o m e → IsFalse p now o m f → e ≡ f
  one_false e f a b =
      let same = one_loaded now o a.is.saved b.is.saved a.is.log b.is.log a.is.bytes b.is.bytes a.is.loaded b.is.loaded in
      let there : IsCheckFault p (moved (restored_at p b.is.saved b.is.log) m).stand.past.closed (check.Log a.index a.of_log) =
      subst (λ (l : PlainLog). IsCheckFault p (moved (restored_at p b.is.saved l) m).stand.past.closed (check.Log a.index a.of_log)) same.1
      (subst (λ (s : PlainSaved). IsCheckFault p (moved (restored_at p s a.is.log) m).stand.past.closed (check.Log a.index a.of_log)) same.0 a.is.fault) in
      a.fault
      ∙ (ap of_check (one_check_cause p (moved (restored_at p b.is.saved b.is.log) m).stand.past.closed (check.Log a.index a.of_log) (check.Log b.index b.of_log) (λ x. absurd cc) (λ x. absurd cc) there b.is.fault)
      ∙ sym b.fault)

  -- how far a refusal came: its job is there, its text is one, it is of the files, it has tries, its parts are joined, and its
  -- plan goes on
  by_refusal : (e f : KeptFault) → Refusal p now o m e → Refusal p now o m f → e ≡ f
  by_refusal e f (AtName ae a) (AtName be b) = ae ∙ sym be
  by_refusal e f (AtName ae a) (AtForm place be b) = absurd (there_not now o b.job a b.is)
  by_refusal e f (AtName ae a) (AtJob kept given be b) = absurd (there_not now o b.has.job a b.has.is)
  by_refusal e f (AtName ae a) (AtTries be b) = absurd (there_not now o b.has.job a b.has.is)
  by_refusal e f (AtName ae a) (AtParts saved due b) = absurd (there_not now o due.has.job a due.has.is)
  by_refusal e f (AtName ae a) (AtPlan b) = absurd (there_not now o b.is.loaded.due.has.job a b.is.loaded.due.has.is)
  by_refusal e f (AtName ae a) (AtEnd b) = absurd (there_not now o b.is.loaded.due.has.job a b.is.loaded.due.has.is)
  by_refusal e f (AtForm place ae a) (AtName be b) = absurd (there_not now o a.job b a.is)
  by_refusal e f (AtForm place ae a) (AtForm other be b) = ae ∙ (ap (λ (n : ℕ). faults.Form n) (one_form now o place other a b) ∙ sym be)
  by_refusal e f (AtForm place ae a) (AtJob kept given be b) = absurd (formed_not now o place b.saved a b.has)
  by_refusal e f (AtForm place ae a) (AtTries be b) = absurd (formed_not now o place b.saved a b.has)
  by_refusal e f (AtForm place ae a) (AtParts saved due b) = absurd (formed_not now o place saved a due.has)
  by_refusal e f (AtForm place ae a) (AtPlan b) = absurd (formed_not now o place b.is.saved a b.is.loaded.due.has)
  by_refusal e f (AtForm place ae a) (AtEnd b) = absurd (formed_not now o place b.is.saved a b.is.loaded.due.has)
  by_refusal e f (AtJob kept given ae a) (AtName be b) = absurd (there_not now o a.has.job b a.has.is)
  by_refusal e f (AtJob kept given ae a) (AtForm place be b) = absurd (formed_not now o place a.saved b a.has)
  by_refusal e f (AtJob kept given ae a) (AtJob other now_other be b) = ae ∙ (one_else now o kept given other now_other a b ∙ sym be)
  by_refusal e f (AtJob kept given ae a) (AtTries be b) = absurd (else_not now o kept given b.saved a b.has b.own)
  by_refusal e f (AtJob kept given ae a) (AtParts saved due b) = absurd (else_not now o kept given saved a due.has due.due.job)
  by_refusal e f (AtJob kept given ae a) (AtPlan b) = absurd (else_not now o kept given b.is.saved a b.is.loaded.due.has b.is.loaded.due.due.job)
  by_refusal e f (AtJob kept given ae a) (AtEnd b) = absurd (else_not now o kept given b.is.saved a b.is.loaded.due.has b.is.loaded.due.due.job)
  by_refusal e f (AtTries ae a) (AtName be b) = absurd (there_not now o a.has.job b a.has.is)
  by_refusal e f (AtTries ae a) (AtForm place be b) = absurd (formed_not now o place a.saved b a.has)
  by_refusal e f (AtTries ae a) (AtJob kept given be b) = absurd (else_not now o kept given a.saved b a.has a.own)
  by_refusal e f (AtTries ae a) (AtTries be b) = ae ∙ sym be
  by_refusal e f (AtTries ae a) (AtParts saved due b) = absurd (spent_not now o saved a due)
  by_refusal e f (AtTries ae a) (AtPlan b) = absurd (spent_not now o b.is.saved a b.is.loaded.due)
  by_refusal e f (AtTries ae a) (AtEnd b) = absurd (spent_not now o b.is.saved a b.is.loaded.due)
  by_refusal e f (AtParts saved due a) (AtName be b) = absurd (there_not now o due.has.job b due.has.is)
  by_refusal e f (AtParts saved due a) (AtForm place be b) = absurd (formed_not now o place saved b due.has)
  by_refusal e f (AtParts saved due a) (AtJob kept given be b) = absurd (else_not now o kept given saved b due.has due.due.job)
  by_refusal e f (AtParts saved due a) (AtTries be b) = absurd (spent_not now o saved b due)
  by_refusal e f (AtParts saved due a) (AtParts other due_too b) =
      one_unjoined now o other e f (subst (λ (x : PlainSaved). IsUnjoined o x e) (one_position o saved other due.has due_too.has) a) b
  by_refusal e f (AtParts saved due a) (AtPlan b) = absurd (unjoined_not now o e saved b.is.saved b.is.log b.is.bytes due a b.is.loaded)
  by_refusal e f (AtParts saved due a) (AtEnd b) = absurd (unjoined_not now o e saved b.is.saved b.is.log b.is.bytes due a b.is.loaded)
  by_refusal e f (AtPlan a) (AtName be b) = absurd (there_not now o a.is.loaded.due.has.job b a.is.loaded.due.has.is)
  by_refusal e f (AtPlan a) (AtForm place be b) = absurd (formed_not now o place a.is.saved b a.is.loaded.due.has)
  by_refusal e f (AtPlan a) (AtJob kept given be b) = absurd (else_not now o kept given a.is.saved b a.is.loaded.due.has a.is.loaded.due.due.job)
  by_refusal e f (AtPlan a) (AtTries be b) = absurd (spent_not now o a.is.saved b a.is.loaded.due)
  by_refusal e f (AtPlan a) (AtParts saved due b) = absurd (unjoined_not now o f saved a.is.saved a.is.log a.is.bytes due b a.is.loaded)
  by_refusal e f (AtPlan a) (AtPlan b) = one_unrestored e f a b
  by_refusal e f (AtPlan a) (AtEnd b) = absurd (unrestored_not e b.is.saved b.is.log b.is.bytes a b.is.loaded b.is.can)
  by_refusal e f (AtEnd a) (AtName be b) = absurd (there_not now o a.is.loaded.due.has.job b a.is.loaded.due.has.is)
  by_refusal e f (AtEnd a) (AtForm place be b) = absurd (formed_not now o place a.is.saved b a.is.loaded.due.has)
  by_refusal e f (AtEnd a) (AtJob kept given be b) = absurd (else_not now o kept given a.is.saved b a.is.loaded.due.has a.is.loaded.due.due.job)
  by_refusal e f (AtEnd a) (AtTries be b) = absurd (spent_not now o a.is.saved b a.is.loaded.due)
  by_refusal e f (AtEnd a) (AtParts saved due b) = absurd (unjoined_not now o f saved a.is.saved a.is.log a.is.bytes due b a.is.loaded)
  by_refusal e f (AtEnd a) (AtPlan b) = absurd (unrestored_not f a.is.saved a.is.log a.is.bytes b a.is.loaded a.is.can)
  by_refusal e f (AtEnd a) (AtEnd b) = one_false e f a b

  pub one_job_fault : (e f : KeptFault) → IsOfJob e → IsOfJob f → IsNotResumed p now o m e → IsNotResumed p now o m f → e ≡ f
  one_job_fault e f oe of h g = by_refusal e f (refusal p now o m e oe h) (refusal p now o m f of g)

  -- a plan that went on to an answer has a log that is accepted
  end_not : (s : PlanState) (a : Outcome) (e : KeptFault) → HasContinued (Unit {0}) p now o m s a → IsFalse p now o m e → ⊥
  end_not s a e g b =
      let same = one_loaded now o b.is.saved g.saved b.is.log g.log b.is.bytes g.bytes b.is.loaded (g.loaded tt) in
      let state : moved (restored_at p b.is.saved b.is.log) m ≡ s =
      ap (λ (x : PlainSaved). moved (restored_at p x b.is.log) m) same.0 ∙ (ap (λ (x : PlainLog). moved (restored_at p g.saved x) m) same.1 ∙ sym g.stands) in
      let settled : IsSettled a = subst IsSettled (ap told state ∙ sym g.comes_to) b.is.settled in
      let there : IsCheckFault p s.stand.past.closed (check.Log b.index b.of_log) = subst (λ (x : PlanState). IsCheckFault p x.stand.past.closed (check.Log b.index b.of_log)) state b.is.fault in
      let e = accepted_not_refused p.request.seed (steps_of p) s.stand.past.closed (verified.Log b.index b.of_log) (g.accepted settled) there in
      absurd (cc)

  -- where a plan went on nothing is refused
  gone_by : (s : PlanState) (a : Outcome) (e : KeptFault) → HasContinued (Unit {0}) p now o m s a → Refusal p now o m e → ⊥
  gone_by s a e g (AtName be b) = let l = g.loaded tt in there_not now o l.due.has.job b l.due.has.is
  gone_by s a e g (AtForm place be b) = let l = g.loaded tt in formed_not now o place g.saved b l.due.has
  gone_by s a e g (AtJob kept given be b) = let l = g.loaded tt in else_not now o kept given g.saved b l.due.has l.due.due.job
  gone_by s a e g (AtTries be b) = let l = g.loaded tt in spent_not now o g.saved b l.due
  gone_by s a e g (AtParts saved due b) = let l = g.loaded tt in unjoined_not now o e saved g.saved g.log g.bytes due b l
  gone_by s a e g (AtPlan b) = let l = g.loaded tt in unrestored_not e g.saved g.log g.bytes b l g.can
  gone_by s a e g (AtEnd b) = end_not s a e g b

  pub gone_not_refused : (s : PlanState) (a : Outcome) (e : KeptFault) → IsOfJob e → HasContinued (Unit {0}) p now o m s a → IsNotResumed p now o m e → ⊥
  gone_not_refused s a e own g h = gone_by s a e g (refusal p now o m e own h)
