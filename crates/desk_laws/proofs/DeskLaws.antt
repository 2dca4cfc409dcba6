-- What is claimed of each job of a desk, and of what a commit gives out.
use Rattle.std.specs.Prelude.{ℕ, ◌≡◌, List, [], ◌∷◌, All, Contains, Option, None, Some, IfSome}
use Rattle.std.proofs.Common.{refl, sym, ap, ◌∙◌, subst, inl, inr, arith}
use Rattle.std.proofs.lemmas.List.Elements.{All-contains, All-contains_itself, All-nil}
use Rattle.fund_base.specs.Cursor.{IsBytes}
use Rattle.coin_candidates.specs.declared.candidate.Candidate.{Candidate}
use Rattle.fund_files.specs.declared.chain.Chain.{Chain}
use Rattle.fund_plan.specs.Selection.{PlainFunded}
use Rattle.fund_plan.specs.declared.outcome.Outcome.{Outcome}
use Rattle.fund_plan.specs.declared.outcome.Outcome.TheVariants as answers
use Rattle.payment_states.proofs.MakerSteps.{found}
use Rattle.desk_machine.proofs.ApartLaws.{all_apart}
use Rattle.desk_machine.proofs.JobLists.{same_name}
use Rattle.desk_machine.proofs.TakenLaws.{none_shown}
use Rattle.desk_machine.specs.Commands.{Commit}
use Rattle.desk_machine.specs.Commits.{IsCommit}
use Rattle.desk_machine.specs.Does.{Does}
use Rattle.desk_machine.specs.Machine.{by_funded, by_taken, commit_by, commit_step, funded_of, taken_at}
use Rattle.desk_machine.specs.Replies.{Committed}
use Rattle.desk_machine.specs.Rules.{AreApart}
use Rattle.desk_machine.specs.Runs.{Runs, Said}
use Rattle.desk_machine.specs.State.{Job, PlainDesk, candidates_in, is_named, job_at, new_desk}
use Rattle.desk_laws.proofs.HeldLaws.{one_booked}
use Rattle.desk_laws.proofs.JobLaws.{OpensWell, one_claimed}
use Rattle.desk_laws.proofs.PlanLaws.{made_rules}
use Rattle.desk_laws.proofs.RequestLaws.{asked_is}
use Rattle.desk_laws.proofs.StepsLaws.{steps_are}
use Rattle.desk_laws.specs.Claimed.{HaveBytes, IsBooked, IsClaimed, IsComeTo, IsDueCommit, IsPaidAsClaimed}

-- ---- all commands

opens_well : (d : PlainDesk) → IsBooked d.held → (request : List ℕ) → IsBytes request → OpensWell d request
opens_well d h request bytes = λ p is. let rules = made_rules d request p h (λ r read. asked_is request r read) is in (rules, steps_are p rules)

-- the chain and the jobs of a desk behind some commands
pub record IsKept (d : PlainDesk) : Type 0 where
  pub held : IsBooked d.held
  pub jobs : All IsClaimed d.jobs

pub all_kept : (d new : PlainDesk) (said : List Said) → HaveBytes said → Runs d said new → IsKept d → IsKept new
all_kept d new [] bytes runs h = subst IsKept (sym runs) h
all_kept d new (s ∷ rest) bytes runs h =
    all_kept runs.0 new rest bytes.1 runs.2
    (record { held = one_booked d runs.0 s.command s.reply runs.1 bytes.0 h.held; jobs = one_claimed d runs.0 s.command s.reply runs.1 bytes.0 (opens_well d h.held) h.jobs })

pub new_kept : (k : Chain) (d : PlainDesk) (said : List Said) → IsBooked k → HaveBytes said → Runs (new_desk k) said d → IsKept d
new_kept k d said h bytes runs = all_kept (new_desk k) d said bytes runs (record { held = h; jobs = All-nil IsClaimed })

pub jobs_claimed : (k : Chain) (d : PlainDesk) (said : List Said) → IsBooked k → HaveBytes said → Runs (new_desk k) said d → All IsClaimed d.jobs
jobs_claimed k d said h bytes runs = (new_kept k d said h bytes runs).jobs

-- ---- a commit

answer_is : (o : Option Outcome) (f : PlainFunded) → funded_of o ≡ Some f → o ≡ Some (answers.Funded f)
answer_is None f e = absurd cc
answer_is (Some answers.Unfinished) f e = absurd cc
answer_is (Some answers.NoSelection) f e = absurd cc
answer_is (Some (answers.Funded g)) f e = let same : g ≡ f = cc in ap (λ (x : PlainFunded). Some (answers.Funded x)) same

-- a claimed job's payment
as_claimed : (j : Job) (f : PlainFunded) → IsClaimed j → j.answer ≡ Some (answers.Funded f) → IsPaidAsClaimed j.state.plan f
as_claimed j f claimed answer =
    let come = subst (λ (o : Option Outcome). IfSome o (IsComeTo j.state.plan claimed.tries)) answer claimed.answered in
    record { tries = come.tries; comes = come.comes; claims = come.claims }

pub commit_shown : (k : Chain) (d new : PlainDesk) (said : List Said) (name txid psbt : List ℕ) → IsBooked k → HaveBytes said → Runs (new_desk k) said d → (c : IsCommit d name txid psbt new) → IsClaimed c.job × IsPaidAsClaimed c.job.state.plan c.funded
commit_shown k d new said name txid psbt h bytes runs c =
    let claimed = All-contains IsClaimed d.jobs c.job (jobs_claimed k d said h bytes runs) c.stands in
    (claimed, as_claimed c.job c.funded claimed c.answers)

-- where the reply is a payment
record IsGivenOut (d : PlainDesk) (name txid psbt : List ℕ) : Type 0 where
  job : Job
  funded : PlainFunded
  at : job_at d.jobs name ≡ Some job
  answer : funded_of job.answer ≡ Some funded
  none : taken_at d job funded ≡ None
  same : Committed txid psbt ≡ (by_taken d name job funded None).reply
  next : (commit_step d name).next ≡ (by_taken d name job funded None).next

given_out : (d : PlainDesk) (name txid psbt : List ℕ) → Committed txid psbt ≡ (commit_step d name).reply → IsGivenOut d name txid psbt
unfolding commit_step
given_out d name txid psbt e = by_job (job_at d.jobs name) refl e
  where
    by_coin : (i : Job) (f : PlainFunded) (o : Option Candidate) → job_at d.jobs name ≡ Some i → funded_of i.answer ≡ Some f → taken_at d i f ≡ o → Committed txid psbt ≡ (by_taken d name i f o).reply → IsGivenOut d name txid psbt
    by_coin i f (Some c) at is there h = absurd cc
    by_coin i f None at is there h = record {
      job = i;
      funded = f;
      at = at;
      answer = is;
      none = there;
      same = h;
      next = ap (λ (o : Option Job). (commit_by d name o).next) at ∙ ap (λ (o : Option PlainFunded). (by_funded d name i o).next) is ∙ ap (λ (o : Option Candidate). (by_taken d name i f o).next) there;
    }

    by_payment : (i : Job) (o : Option PlainFunded) → job_at d.jobs name ≡ Some i → funded_of i.answer ≡ o → Committed txid psbt ≡ (by_funded d name i o).reply → IsGivenOut d name txid psbt
    by_payment i None at is h = absurd cc
    by_payment i (Some f) at is h = by_coin i f (taken_at d i f) at is refl h

    by_job : (o : Option Job) → job_at d.jobs name ≡ o → Committed txid psbt ≡ (commit_by d name o).reply → IsGivenOut d name txid psbt
    by_job None at h = absurd cc
    by_job (Some i) at h = by_payment i (funded_of i.answer) at refl h

none_committed : AreApart []
none_committed = λ i j p lt below. absurd (omega (arith, below))

pub commit_due : (k : Chain) (d new : PlainDesk) (said : List Said) (name txid psbt : List ℕ) → IsBooked k → HaveBytes said → Runs (new_desk k) said d → Does d (Commit name) (Committed txid psbt) new → IsDueCommit d name txid psbt new
commit_due k d new said name txid psbt h bytes runs (inr s) = let e = s.reply_is in absurd cc
commit_due k d new said name txid psbt h bytes runs (inl s) =
    let g = given_out d name txid psbt s.reply_is in
    let kept = new_kept k d said h bytes runs in
    let at = found (Contains d.jobs) (is_named name) d.jobs g.job (All-contains_itself d.jobs) g.at in
    let claimed = (found IsClaimed (is_named name) d.jobs g.job kept.jobs g.at).1 in
    let answers = answer_is g.job.answer g.funded g.answer in
    let reply = g.same in
    record {
      job = g.job;
      funded = g.funded;
      stands = at.1;
      named = sym (same_name name g.job.name at.0);
      found = g.at;
      answers = answers;
      claimed = claimed;
      paid = as_claimed g.job g.funded claimed answers;
      spendable = none_shown d.committed (candidates_in d.held) g.job.state.plan.request g.funded.row g.funded.coins g.none;
      apart = all_apart d new (record { command = Commit name; reply = Committed txid psbt } ∷ []) (all_apart (new_desk k) d said none_committed runs) (new, inl s, refl);
      txid_is = cc;
      psbt_is = cc;
      next = s.next_is ∙ g.next;
    }
