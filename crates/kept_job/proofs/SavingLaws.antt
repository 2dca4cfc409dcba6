-- What is saved of a plan is kept as its run was left.
use Rattle.std.proofs.Common.{◌≡◌, ◌∙◌, ℕ, zero, suc, ◌≤◌, ◌+◌, ◌-◌, min, false, List, [], ◌∷◌, ◌++◌, length, take, drop, Option, Some, None, refl, sym, ap, subst, arith}
use Rattle.std.proofs.lemmas.List.{append-nil}
use Rattle.closing_log.specs.Log.{PlainLog}
use Rattle.closing_log.specs.LogText.{IsLogText}
use Rattle.closing_log.specs.LogText as logs
use Rattle.fund_outside.specs.Kept.{KeptJob, parts_in}
use Rattle.fund_plan.proofs.ClaimLaws.{open_so}
use Rattle.fund_plan.proofs.EndLaws.{new_told}
use Rattle.fund_plan.proofs.GoingLaws.{new_log}
use Rattle.fund_plan.proofs.KeepLaws.{saved_on, written_on}
use Rattle.fund_plan.proofs.GivenLaws.{ended_none, never_open}
use Rattle.fund_plan.specs.Outcome.{by_end, end_at, is_partial, log_at, most_tries, outcome_at, stand_after}
use Rattle.fund_plan.specs.Resumed.{IsStandOf, log_digest, log_in, restored_at, saved_at}
use Rattle.fund_plan.specs.State.{PlanState, moved, told}
use Rattle.fund_plan.specs.Steps.{steps_of}
use Rattle.fund_plan.specs.declared.outcome.Outcome.{Outcome}
use Rattle.fund_plan.specs.declared.outcome.Outcome.TheVariants as answers
use Rattle.fund_plan.proofs.SavedLaws.{saved_where_open}
use Rattle.fund_steps.specs.Plan.{PlainPlan}
use Rattle.sha2.specs.Sha256.{sha256}
use Rattle.search_keep.proofs.ToldLaws.{one_saved}
use Rattle.search_keep.specs.SavedText.{CanBeSaved, IsSavedText, PlainSaved}
use Rattle.search_run.proofs.MadeLaws.{kept_begins}
use Rattle.search_run.proofs.RunLaws.{all_tries, runs_add}
use Rattle.search_run.specs.Kept.{log_of}
use Rattle.search_run.specs.Run.{Stand, beginning, go_on}
use Rattle.search_run.specs.Step.{AreSteps, PlainStep, is_drawn}
use Rattle.search_run.specs.declared.ending.End.{End}
use Rattle.search_run.specs.declared.ending.End.TheVariants as ends
use Rattle.kept_job.proofs.GrowLaws.{add_part, drop_front, log_grows}
use Rattle.kept_job.proofs.LogLaws.{open_reads, open_searched, small_row}
use Rattle.kept_job.proofs.SameLaws.{goes_alike, logged, made_there, own_job, same_bytes, same_saved, there}
use Rattle.kept_job.specs.Continued.{HasContinued}
use Rattle.kept_job.specs.Jobs.{HasParts, HasSaved, joined, with_log}
use Rattle.kept_job.specs.Kept.{IsKeptAt, IsLonger, new_of}
use Rattle.kept_job.specs.Saving.{IsSavedBehind, log_behind}
use Rattle.kept_job.specs.SavingRules.{CanBeKept}

-- ---- a plan that can be kept

pub can_keep : (s : PlanState) (n parts : ℕ) → AreSteps (steps_of s.plan) → IsStandOf s → told (moved s n) ≡ answers.Unfinished → 1 ≤ parts → parts ≤ (moved s n).stand.past.tries + 1 → CanBeKept (moved s n) parts
can_keep s n parts are stands is some few = record {
  unfinished = is;
  text = λ digest saved e. written_on s n digest parts saved are stands e some few;
}

-- with another digest of the log it can be saved as well
pub can_with : (saved : PlainSaved) (log : List ℕ) → CanBeSaved saved → CanBeSaved (with_log saved log)
can_with saved log can = record { stage = can.stage; best = can.best; some = can.some; parts = can.parts }

-- ---- the log of a run that is left

-- the log of a plan after these tries, which is unfinished
pub left_reads : (p : PlainPlan) (n : ℕ) → AreSteps (steps_of p) → outcome_at p n ≡ answers.Unfinished → IsLogText (logs.text_of (log_at p n)) (log_at p n)
unfolding outcome_at log_at
left_reads p n are is = by (end_at p (stand_after p n)) refl
  where
    by : (d : End) → end_at p (stand_after p n) ≡ d → IsLogText (logs.text_of (log_of (is_partial (end_at p (stand_after p n))) (stand_after p n))) (log_of (is_partial (end_at p (stand_after p n))) (stand_after p n))
    by (ends.Ended None) e = absurd (never_open p (sym (ended_none p) ∙ (sym (ap (by_end p) e) ∙ is)))
    by (ends.Ended (Some f)) e = let x = sym (ap (by_end p) e) ∙ is in absurd (cc)
    by (ends.Partial f) e = let x = sym (ap (by_end p) e) ∙ is in absurd (cc)
    by ends.Unfinished e =
        let k = open_so p (stand_after p n) e in
        let tried = all_tries p.request.seed (beginning p.request.seed (steps_of p)) (min n most_tries) k.step k.rest k.left in
        let reads : IsLogText (logs.text_of (log_of false (stand_after p n))) (log_of false (stand_after p n)) =
        open_reads (steps_of p) are (small_row p) p.request.seed (min n most_tries) k.step k.rest k.left tried.going in
        subst (λ (d : End). IsLogText (logs.text_of (log_of (is_partial d) (stand_after p n))) (log_of (is_partial d) (stand_after p n))) (sym e) reads

-- ---- what is saved first

pub first_kept : (p : PlainPlan) (n : ℕ) (digest : List ℕ) (old new : Option KeptJob) → AreSteps (steps_of p) → IsSavedBehind digest (moved (new_of p) n) 0 [] old new → IsKeptAt p digest n new
first_kept p n digest old new are h =
    let s : PlanState = moved (new_of p) n in
    let text : List ℕ = logs.text_of (log_in (moved (new_of p) n)) in
    let saved : PlainSaved = with_log h.saved.saved (sha256 text) in
    let counted : saved.parts ≡ 1 = (made_there digest 1 h.saved.saved (moved (new_of p) n) h.saved.saves).2 in
    let open_is : told (moved (new_of p) n) ≡ answers.Unfinished = (saved_where_open (moved (new_of p) n) digest 1).1 (h.saved.saved, h.saved.saves) in
    let reads : IsLogText (logs.text_of (log_in (moved (new_of p) n))) (log_in (moved (new_of p) n)) =
    subst (λ (l : PlainLog). IsLogText (logs.text_of l) l) (sym (new_log (new_of p) n refl refl)) (left_reads p n are (sym (new_told (new_of p) n refl refl) ∙ open_is)) in
    let whole : joined (take saved.parts (text ∷ [])) ≡ text = ap (λ (c : ℕ). joined (take c (text ∷ []))) counted ∙ append-nil text in
    record {
      job = record { saved = h.text; parts = text ∷ [] };
      is = h.is;
      saved = saved;
      saves =
          subst (λ (c : ℕ). saved_at digest c (moved (new_of p) n) ≡ Some h.saved.saved) (sym counted) h.saved.saves
          ∙ ap (λ (x : PlainSaved). Some x) (logged digest 1 h.saved.saved (moved (new_of p) n) h.saved.saves);
      digest_is = refl;
      text = h.saved.text_is;
      reads = h.saved.reads;
      there = omega (arith, counted);
      log = whole;
      log_reads = subst (λ (bytes : List ℕ). IsLogText bytes (log_in (moved (new_of p) n))) (sym whole) reads;
    }

-- ---- what is added

pub longer : (digest : List ℕ) (s : PlanState) (parts : ℕ) (bytes : List ℕ) (old new : Option KeptJob) → IsSavedBehind digest s parts bytes old new → IsLonger parts old new
longer digest s parts bytes old new h = record { part = log_behind (length bytes) s; parts = ap parts_in h.is }

-- the digest that is saved is that of all its parts joined
pub has_its_digest : (digest : List ℕ) (s : PlanState) (parts : ℕ) (bytes : List ℕ) (old new : Option KeptJob) (saved : PlainSaved) → IsSavedBehind digest s parts bytes old new → HasParts old parts bytes → HasSaved new saved
    → saved.log ≡ Some (sha256 (joined (take saved.parts (parts_in new))))
has_its_digest digest s parts bytes old new saved h there has =
    let part : List ℕ = log_behind (length bytes) s in
    let written : PlainSaved = with_log h.saved.saved (sha256 (bytes ++ part)) in
    let job : KeptJob = record { saved = h.text; parts = take parts (parts_in old) ++ part ∷ [] } in
    let text : IsSavedText h.text saved = subst (λ (j : KeptJob). IsSavedText j.saved saved) (own_job new has.job job has.is h.is) has.text in
    let same : saved ≡ written = one_saved h.text saved written text h.saved.reads in
    let counted : saved.parts ≡ suc parts =
    ap (λ (x : PlainSaved). x.parts) same ∙ ((made_there digest (parts + 1) h.saved.saved s h.saved.saves).2 ∙ omega arith) in
    let all : bytes ++ part ≡ joined (take saved.parts (parts_in new)) =
    ap (λ (xs : List ℕ). xs ++ part) there.are
    ∙ (sym (add_part parts (parts_in old) part there.there)
    ∙ (ap (λ (c : ℕ). joined (take c (take parts (parts_in old) ++ part ∷ []))) (sym counted)
    ∙ ap (λ (x : Option KeptJob). joined (take saved.parts (parts_in x))) (sym h.is))) in
    ap (λ (x : PlainSaved). x.log) same ∙ ap (λ (xs : List ℕ). Some (sha256 xs)) all

-- ---- a run that goes on from a job

-- an unfinished run is at a search
record IsAtSearch (p : PlainPlan) (n : ℕ) : Type 0 where
  step : PlainStep
  rest : List PlainStep
  left : (stand_after p n).left ≡ step ∷ rest
  searched : is_drawn step.stage ≡ false
  log : log_at p n ≡ log_of false (stand_after p n)

at_search : (p : PlainPlan) (n : ℕ) → AreSteps (steps_of p) → outcome_at p n ≡ answers.Unfinished → IsAtSearch p n
unfolding outcome_at log_at
at_search p n are is = by (end_at p (stand_after p n)) refl
  where
    by : (d : End) → end_at p (stand_after p n) ≡ d → IsAtSearch p n
    by (ends.Ended None) e = absurd (never_open p (sym (ended_none p) ∙ (sym (ap (by_end p) e) ∙ is)))
    by (ends.Ended (Some f)) e = let x = sym (ap (by_end p) e) ∙ is in absurd (cc)
    by (ends.Partial f) e = let x = sym (ap (by_end p) e) ∙ is in absurd (cc)
    by ends.Unfinished e =
        let k = open_so p (stand_after p n) e in
        let tried = all_tries p.request.seed (beginning p.request.seed (steps_of p)) (min n most_tries) k.step k.rest k.left in
        record {
          step = k.step;
          rest = k.rest;
          left = k.left;
          searched = open_searched p.request.seed (steps_of p) are (min n most_tries) k.step k.rest k.left tried.going;
          log = ap (λ (d : End). log_of (is_partial d) (stand_after p n)) e;
        }

-- the log of a run that goes on is longer
log_longer : (p : PlainPlan) (n m : ℕ) → AreSteps (steps_of p) → outcome_at p n ≡ answers.Unfinished → outcome_at p (n + m) ≡ answers.Unfinished
    → (more : List ℕ) × (logs.text_of (log_at p (n + m)) ≡ logs.text_of (log_at p n) ++ more)
log_longer p n m are is later =
    let a = at_search p n are is in
    let b = at_search p (n + m) are later in
    let tried : min (n + m) most_tries ≡ min n most_tries + (min (n + m) most_tries - min n most_tries) = omega arith in
    let on : stand_after p (n + m) ≡ go_on p.request.seed (stand_after p n) (min (n + m) most_tries - min n most_tries) =
    ap (λ (k : ℕ). go_on p.request.seed (beginning p.request.seed (steps_of p)) k) tried
    ∙ sym (runs_add p.request.seed (beginning p.request.seed (steps_of p)) (min n most_tries) (min (n + m) most_tries - min n most_tries)) in
    let grown = log_grows p.request.seed (stand_after p n) (min (n + m) most_tries - min n most_tries) a.step a.rest a.left a.searched in (
      grown.0,
      ap (λ (l : PlainLog). logs.text_of l) (b.log ∙ ap (λ (s : Stand). log_of false s) on)
          ∙ (grown.1 ∙ ap (λ (l : PlainLog). logs.text_of l ++ grown.0) (sym a.log)),
    )

count_part : (c : ℕ) (ps : List (List ℕ)) (part : List ℕ) → c ≤ length ps → length (take c ps ++ part ∷ []) ≡ suc c
count_part zero ps part le = refl
count_part (suc c) [] part le = absurd (omega (arith, le))
count_part (suc c) (p ∷ ps) part le = ap suc (count_part c ps part (omega (arith, le)))

-- what is there, and behind it what is new of a text that goes on with it, is the text
joins : (bytes text more : List ℕ) → text ≡ bytes ++ more → bytes ++ drop (length bytes) text ≡ text
joins bytes text more e = ap (λ (t : List ℕ). bytes ++ drop (length bytes) t) e ∙ (ap (λ (t : List ℕ). bytes ++ t) (drop_front bytes more) ∙ sym e)

pub more_kept : (p : PlainPlan) (n m : ℕ) (digest : List ℕ) (old new : Option KeptJob) (s : PlanState) (o : Outcome) (g : HasContinued (Unit {0}) p digest old m s o) → AreSteps (steps_of p) → IsKeptAt p digest n old → IsSavedBehind digest s g.saved.parts g.bytes old new
    → IsKeptAt p digest (n + m) new
more_kept p n m digest old new s o g are k h =
    let l = g.loaded tt in
    let part : List ℕ = log_behind (length g.bytes) s in
    let saved : PlainSaved = with_log h.saved.saved (sha256 (g.bytes ++ part)) in
    let begins : IsStandOf (new_of p) = kept_begins p.request.seed (steps_of p) are in
    let here : s ≡ moved (restored_at p k.saved (log_in (moved (new_of p) n))) m = g.stands ∙ there p are n m digest old k g.saved g.log g.bytes l in
    let counted : saved.parts ≡ suc g.saved.parts = (made_there digest (g.saved.parts + 1) h.saved.saved s h.saved.saves).2 ∙ omega arith in
    let saves : saved_at digest (g.saved.parts + 1) (moved (new_of p) (n + m)) ≡ Some h.saved.saved =
    sym (ap (saved_at digest (g.saved.parts + 1)) here ∙ saved_on (new_of p) n digest k.saved.parts (with_log k.saved (log_digest (moved (new_of p) n))) are begins k.saves m digest (g.saved.parts + 1)) ∙ h.saved.saves in
    let open_was : outcome_at p n ≡ answers.Unfinished = sym (new_told (new_of p) n refl refl) ∙ (saved_where_open (moved (new_of p) n) digest k.saved.parts).1 (with_log k.saved (log_digest (moved (new_of p) n)), k.saves) in
    let open_is : outcome_at p (n + m) ≡ answers.Unfinished = sym (new_told (new_of p) (n + m) refl refl) ∙ (saved_where_open (moved (new_of p) (n + m)) digest (g.saved.parts + 1)).1 (h.saved.saved, saves) in
    let longer_is = log_longer p n m are open_was open_is in
    let kept : g.bytes ≡ logs.text_of (log_at p n) =
    same_bytes digest (moved (new_of p) n) old k g.saved.parts g.bytes (ap (λ (x : PlainSaved). x.parts) (same_saved digest (moved (new_of p) n) old k g.saved l.due.has)) l.parts
    ∙ (k.log ∙ ap (λ (x : PlainLog). logs.text_of x) (new_log (new_of p) n refl refl)) in
    let now_log : log_in s ≡ log_at p (n + m) = (goes_alike p are n m digest old k s o g).log in
    let now_text : logs.text_of (log_in s) ≡ g.bytes ++ longer_is.0 =
    ap (λ (x : PlainLog). logs.text_of x) now_log ∙ (longer_is.1 ∙ ap (λ (xs : List ℕ). xs ++ longer_is.0) (sym kept)) in
    let own_log : log_in (moved (new_of p) (n + m)) ≡ log_at p (n + m) = new_log (new_of p) (n + m) refl refl in
    let whole : joined (take saved.parts (take g.saved.parts (parts_in old) ++ log_behind (length g.bytes) s ∷ [])) ≡ logs.text_of (log_in (moved (new_of p) (n + m))) =
    ap (λ (c : ℕ). joined (take c (take g.saved.parts (parts_in old) ++ log_behind (length g.bytes) s ∷ []))) counted
    ∙ (add_part g.saved.parts (parts_in old) (log_behind (length g.bytes) s) l.parts.there
    ∙ (ap (λ (xs : List ℕ). xs ++ log_behind (length g.bytes) s) (sym l.parts.are)
    ∙ (joins g.bytes (logs.text_of (log_in s)) longer_is.0 now_text
    ∙ ap (λ (x : PlainLog). logs.text_of x) (now_log ∙ sym own_log)))) in
    record {
      job = record { saved = h.text; parts = take g.saved.parts (parts_in old) ++ log_behind (length g.bytes) s ∷ [] };
      is = h.is;
      saved = saved;
      saves =
          subst (λ (c : ℕ). saved_at digest c (moved (new_of p) (n + m)) ≡ Some h.saved.saved) (sym (made_there digest (g.saved.parts + 1) h.saved.saved s h.saved.saves).2) saves
          ∙ ap (λ (x : PlainSaved). Some x) (logged digest (g.saved.parts + 1) h.saved.saved (moved (new_of p) (n + m)) saves);
      digest_is = ap sha256 (joins g.bytes (logs.text_of (log_in s)) longer_is.0 now_text ∙ ap (λ (x : PlainLog). logs.text_of x) (now_log ∙ sym own_log));
      text = h.saved.text_is;
      reads = h.saved.reads;
      there = let c = count_part g.saved.parts (parts_in old) (log_behind (length g.bytes) s) l.parts.there in omega (arith, counted, c);
      log = whole;
      log_reads =
          subst (λ (bytes : List ℕ). IsLogText bytes (log_in (moved (new_of p) (n + m)))) (sym whole)
          (subst (λ (x : PlainLog). IsLogText (logs.text_of x) x) (sym own_log) (left_reads p (n + m) are open_is));
    }
