-- What a turn leaves as the answer of its job.
use Rattle.std.specs.Prelude.{ℕ, ◌≡◌, ◌≢◌, ◌++◌, ◌⊎◌, List, [], ◌∷◌, Bool, true, false, Option, None, Some, bytes_eq}
use Rattle.std.proofs.Common.{refl, ap, ◌∙◌, inl, inr, cond}
use Rattle.closing_log.specs.declared.mark.Mark.{Mark}
use Rattle.fund_plan.specs.Selection.{PlainFunded}
use Rattle.fund_plan.specs.State.{moved, told}
use Rattle.fund_plan.specs.declared.outcome.Outcome.{Outcome}
use Rattle.fund_plan.specs.declared.outcome.Outcome.TheVariants as answers
use Rattle.desk_machine.proofs.JobLists.{name_same}
use Rattle.desk_machine.proofs.SnapshotLaws.{alone_through}
use Rattle.desk_machine.specs.Commands.{Turn}
use Rattle.desk_machine.specs.Does.{Does}
use Rattle.desk_machine.specs.Machine.{reply_in, turn_step}
use Rattle.desk_machine.specs.Replies.{Reply, Funded, NoJob, NoMemory, Spent}
use Rattle.desk_machine.specs.Runs.{Alone, Plays, Said}
use Rattle.desk_machine.specs.State.{Job, PlainDesk, job_at}
use Rattle.desk_machine.specs.Turns.{by_outcome, is_spent, turn_reply, turned}

-- the job that a turn found, and where it left it
record IsTurned (new : PlainDesk) (name : List ℕ) (n : ℕ) (reply : Reply) (i : Job) : Type 0 where
  job : Job
  found : job_at new.jobs name ≡ Some job
  plays : Plays i (record { tries = n; reply = reply }) job

turn_of : (d new : PlainDesk) (name : List ℕ) (n : ℕ) (reply : Reply) (i : Job) → Does d (Turn name n) reply new → job_at d.jobs name ≡ Some i → IsTurned new name n reply i
turn_of d new name n reply i does at =
    let said : Said = record { command = Turn name n; reply = reply } in
    let a = alone_through d new (said ∷ []) name i (new, does, refl) at (tt, tt) in
    by (bytes_eq name name) (name_same name name refl) a.0 a.1 a.2
  where
    by : (b : Bool) → b ≡ true → (k : Job) → job_at new.jobs name ≡ Some k → Alone i (cond b (record { tries = n; reply = reply } ∷ []) [] ++ []) k → IsTurned new name n reply i
    by false e k found alone = absurd cc
    by true e k found alone = record { job = alone.0; found = found ∙ ap (λ (j : Job). Some j) alone.2; plays = alone.1 }

no_job : (d new : PlainDesk) (name : List ℕ) (n : ℕ) (reply : Reply) → Does d (Turn name n) reply new → job_at d.jobs name ≡ None → reply ≢ NoMemory → reply ≡ NoJob
unfolding turn_step
no_job d new name n reply (inl s) none fed = s.reply_is ∙ ap (reply_in n) none
no_job d new name n reply (inr s) none fed = absurd (fed s.reply_is)

-- ---- the answer

told_by : (new : PlainDesk) (name : List ℕ) (n : ℕ) (reply : Reply) (i k : Job) → job_at new.jobs name ≡ Some k → reply ≡ turn_reply i.state n → k ≡ turned i n → reply ≢ Spent
    → (j : Job) × (o : Outcome) × (job_at new.jobs name ≡ Some j) × (j.answer ≡ Some o) × (reply ≡ by_outcome j.state.stand.past.tries o)
told_by new name n reply i k found is left more = by (is_spent i.state n) refl is
  where
    by : (b : Bool) → is_spent i.state n ≡ b → reply ≡ cond b Spent (by_outcome (moved i.state n).stand.past.tries (told (moved i.state n)))
        → (j : Job) × (o : Outcome) × (job_at new.jobs name ≡ Some j) × (j.answer ≡ Some o) × (reply ≡ by_outcome j.state.stand.past.tries o)
    by true spent h = absurd (more h)
    by false spent h = (
      turned i n,
      told (moved i.state n),
      found ∙ ap (λ (j : Job). Some j) left,
      ap (λ (b : Bool). cond b i.answer (Some (told (moved i.state n)))) spent,
      h,
    )

pub turn_told : (d new : PlainDesk) (name : List ℕ) (n : ℕ) (reply : Reply) → Does d (Turn name n) reply new → reply ≢ NoJob → reply ≢ Spent → reply ≢ NoMemory
    → (j : Job) × (o : Outcome) × (job_at new.jobs name ≡ Some j) × (j.answer ≡ Some o) × (reply ≡ by_outcome j.state.stand.past.tries o)
turn_told d new name n reply does some more fed = by_job (job_at d.jobs name) refl
  where
    by : (i : Job) → IsTurned new name n reply i → (j : Job) × (o : Outcome) × (job_at new.jobs name ≡ Some j) × (j.answer ≡ Some o) × (reply ≡ by_outcome j.state.stand.past.tries o)
    by i t =
        elim t.plays [
          | inl h ↦ told_by new name n reply i t.job t.found h.0 h.1 more
          | inr h ↦ absurd (fed h.0)
        ]

    by_job : (o : Option Job) → job_at d.jobs name ≡ o → (j : Job) × (o : Outcome) × (job_at new.jobs name ≡ Some j) × (j.answer ≡ Some o) × (reply ≡ by_outcome j.state.stand.past.tries o)
    by_job None at = absurd (some (no_job d new name n reply does at fed))
    by_job (Some i) at = by i (turn_of d new name n reply i does at)

-- ---- one that stays

not_told : (tries : ℕ) (o : Outcome) (reply : Reply) → (reply ≡ Spent) ⊎ (reply ≡ NoMemory) → reply ≢ by_outcome tries o
not_told tries answers.Unfinished reply (inl is) e = absurd cc
not_told tries answers.Unfinished reply (inr is) e = absurd cc
not_told tries answers.NoSelection reply (inl is) e = absurd cc
not_told tries answers.NoSelection reply (inr is) e = absurd cc
not_told tries (answers.Funded f) reply (inl is) e = absurd cc
not_told tries (answers.Funded f) reply (inr is) e = absurd cc

pub turn_stays : (d new : PlainDesk) (name : List ℕ) (n : ℕ) (reply : Reply) (i : Job) → Does d (Turn name n) reply new → job_at d.jobs name ≡ Some i → (reply ≡ Spent) ⊎ (reply ≡ NoMemory)
    → (j : Job) × (job_at new.jobs name ≡ Some j) × (j.answer ≡ i.answer)
turn_stays d new name n reply i does at short =
    let t = turn_of d new name n reply i does at in
    elim t.plays [ inl h ↦ by t.job t.found h.0 h.1 (is_spent i.state n) refl | inr h ↦ (t.job, t.found, h.1.answer) ]
  where
    by : (k : Job) → job_at new.jobs name ≡ Some k → reply ≡ turn_reply i.state n → k ≡ turned i n → (b : Bool) → is_spent i.state n ≡ b → (j : Job) × (job_at new.jobs name ≡ Some j) × (j.answer ≡ i.answer)
    by k found is left true spent = (
      turned i n,
      found ∙ ap (λ (j : Job). Some j) left,
      ap (λ (b : Bool). cond b i.answer (Some (told (moved i.state n)))) spent,
    )
    by k found is left false spent =
        let tries = (moved i.state n).stand.past.tries in
        absurd (not_told tries (told (moved i.state n)) reply short (is ∙ ap (λ (b : Bool). cond b Spent (by_outcome tries (told (moved i.state n)))) spent))

-- ---- one that comes to a payment

paid_by : (j : Job) (o : Outcome) (mark : Mark) (tries : ℕ) → j.answer ≡ Some o → Funded mark tries ≡ by_outcome j.state.stand.past.tries o → (f : PlainFunded) × (j.answer ≡ Some (answers.Funded f)) × (f.mark ≡ mark) × (j.state.stand.past.tries ≡ tries)
paid_by j answers.Unfinished mark tries is e = absurd cc
paid_by j answers.NoSelection mark tries is e = absurd cc
paid_by j (answers.Funded f) mark tries is e = (f, is, cc, cc)

pub turn_paid : (d new : PlainDesk) (name : List ℕ) (n tries : ℕ) (mark : Mark) → Does d (Turn name n) (Funded mark tries) new
    → (j : Job) × (f : PlainFunded) × (job_at new.jobs name ≡ Some j) × (j.answer ≡ Some (answers.Funded f)) × (f.mark ≡ mark) × (j.state.stand.past.tries ≡ tries)
turn_paid d new name n tries mark does =
    let t = turn_told d new name n (Funded mark tries) does (λ e. absurd cc) (λ e. absurd cc) (λ e. absurd cc) in
    let p = paid_by t.0 t.1 mark tries t.3 t.4 in
    (t.0, p.0, t.2, p.1, p.2, p.3)
