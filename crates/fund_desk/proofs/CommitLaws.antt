-- What a commit does.
use Rattle.std.specs.Prelude.{ℕ, ◌≡◌, ◌++◌, List, [], ◌∷◌, Contains, Option, Some, None, Result, Ok, Err, IfOk, IfSome, MatchResult}
use Rattle.std.proofs.Common.{refl, sym, ap, ◌∙◌, subst}
use Rattle.std.proofs.lemmas.List.Elements.{All-contains, All-contains_itself}
use Rattle.std.proofs.lemmas.Option.{none-some, same_Some}
use Rattle.fund_base.specs.declared.memory.Memory.{Memory}
use Rattle.fund_payment.specs.Shown.{ShowsCoins}
use Rattle.fund_plan.specs.Answer.{ArePayments, HasSelection, IsPayment, IsSelection}
use Rattle.fund_plan.specs.Chosen.{load_for}
use Rattle.fund_plan.specs.Pays.{Pays, payment_of}
use Rattle.fund_plan.specs.Selection.{PlainFunded}
use Rattle.fund_plan.specs.declared.outcome.Outcome.{Outcome}
use Rattle.fund_plan.specs.declared.outcome.Outcome.TheVariants as answers
use Rattle.fund_steps.specs.Plan.{PlainPlan}
use Rattle.payment_states.proofs.MakerSteps.{found}
use Rattle.psbt_codec.specs.Psbt.{IsPsbt, written}
use Rattle.request_text.specs.PlainRequest.{PlainRequest}
use Rattle.tx_codec.specs.Txid.{txid_of}
use Rattle.wallet_text.specs.declared.wallet.Watch.{Watch}
use Rattle.desk_machine.specs.Commits.{IsCommit}
use Rattle.desk_machine.specs.Machine.{Step, by_funded, by_taken, commit_by, commit_step, committed_of, funded_of, payment_at, psbt_at, stay, taken_at, with_payment}
use Rattle.desk_machine.specs.Replies.{Reply, Committed, NoJob, plain_reply}
use Rattle.desk_machine.specs.declared.reply.Reply as given
use Rattle.desk_machine.specs.Rules.{IsDesk, IsJob}
use Rattle.desk_machine.specs.State.{Job, Payment, PlainDesk, candidates_in, is_named, job_at, without_job}
use Rattle.fund_desk.specs.JobPayment.{IsPaymentOfJob, HasNoPayment}
use Rattle.fund_desk.specs.Given.{IsGiven, IsNotGiven}
use Rattle.fund_desk.specs.declared.committing.Given.{Given}
use Rattle.fund_desk.proofs.DeskLaws.{desk_commit}
use Rattle.desk_machine.proofs.JobLists.{same_name}
use Rattle.desk_machine.proofs.TakenLaws.{none_shown}

-- ---- what the last turn came to

pub answer_is : (o : Option Outcome) (f : PlainFunded) → funded_of o ≡ Some f → o ≡ Some (answers.Funded f)
answer_is None f e = absurd (none-some f e)
answer_is (Some answers.Unfinished) f e = absurd (none-some f e)
answer_is (Some answers.NoSelection) f e = absurd (none-some f e)
answer_is (Some (answers.Funded g)) f e = ap (λ (x : PlainFunded). Some (answers.Funded x)) (same_Some g f e)

pub payment_is : (p : PlainPlan) (o : Option Outcome) (f : PlainFunded) → funded_of o ≡ Some f → IfSome o (ArePayments p) → IsPayment p f
payment_is p o f e h = subst (λ (x : Option Outcome). IfSome x (ArePayments p)) (answer_is o f e) h

pub selection_is : (r : PlainRequest) (o : Option Outcome) (f : PlainFunded) → funded_of o ≡ Some f → IfSome o (HasSelection r) → IsSelection r f
selection_is r o f e h = subst (λ (x : Option Outcome). IfSome x (HasSelection r)) (answer_is o f e) h

-- ---- the job

pub job_stands : (jobs : List Job) (name : List ℕ) (j : Job) → job_at jobs name ≡ Some j → Contains jobs j × (j.name ≡ name)
job_stands jobs name j e =
    let x = found (Contains jobs) (is_named name) jobs j (All-contains_itself jobs) e in
    (x.1, sym (same_name name j.name x.0))

pub commit_is : (d : PlainDesk) (name : List ℕ) (j : Job) (f : PlainFunded) → IsDesk d → job_at d.jobs name ≡ Some j → funded_of j.answer ≡ Some f → taken_at d j f ≡ None → IsPsbt (psbt_at d.held j f)
    → ShowsCoins f.coins (psbt_at d.held j f) → IsCommit d name (txid_of (payment_at d.held j f)) (written j.state.plan.request.psbt (psbt_at d.held j f)) (with_payment d name j f)
commit_is d name j f rules at is none fits shows =
    let stands = job_stands d.jobs name j at in
    let own = All-contains (IsJob d.held.wallet.change) d.jobs j rules.each stands.0 in
    let pays = payment_is j.state.plan j.answer f is own.answered.pays in
    let change = own.change_is in
    record {
      job = j;
      funded = f;
      stands = stands.0;
      named = stands.1;
      answers = answer_is j.answer f is;
      payment = pays;
      spendable = none_shown d.committed (candidates_in d.held) j.state.plan.request f.row f.coins none;
      pays = subst (λ (c : Watch). Pays j.state.plan.request c (load_for j.state.plan f.row) f.coins f.change (payment_of j.state.plan.request c f)) change pays.pays;
      fits = fits;
      shows = shows;
      txid_is = refl;
      psbt_is = refl;
      next = refl;
    }

-- ---- a commit that was done, and one that wasn't

-- the desk with this payment more, and without the jobs of this name
abbrev pub given_desk : PlainDesk → List ℕ → Payment → PlainDesk
given_desk d name p = record { held = d.held; committed = d.committed ++ p ∷ []; jobs = without_job name d.jobs }

abbrev pub done : PlainDesk → List ℕ → (txid psbt : List ℕ) → Payment → Step
done d name txid psbt p = record { reply = Committed txid psbt; next = given_desk d name p }

pub commit_done : (d : PlainDesk) (name : List ℕ) (j : Job) (g : Given) → job_at d.jobs name ≡ Some j → IsGiven d.held d.committed j g → commit_step d name ≡ done d name g.txid g.psbt.items g.payment
unfolding commit_step
commit_done d name j g at h =
    let f = h.funded in
    ap (commit_by d name) at
    ∙ ap (by_funded d name j) h.answers
    ∙ ap (by_taken d name j f) h.free
    ∙ ap (λ (txid : List ℕ). done d name txid (written j.state.plan.request.psbt (psbt_at d.held j f)) (committed_of d.held j f)) (sym h.out.txid_is)
    ∙ ap (λ (psbt : List ℕ). done d name g.txid psbt (committed_of d.held j f)) (sym h.out.psbt_is)
    ∙ ap (done d name g.txid g.psbt.items) (sym h.out.payment_is)

pub commit_refused : (d : PlainDesk) (name : List ℕ) (j : Job) (reply : Reply) → job_at d.jobs name ≡ Some j → IsNotGiven d.held d.committed j reply → commit_step d name ≡ stay d reply
unfolding commit_step
commit_refused d name j reply at h = ap (commit_by d name) at ∙ h.refuses name d.jobs

pub commit_none : (d : PlainDesk) (name : List ℕ) → job_at d.jobs name ≡ None → commit_step d name ≡ stay d NoJob
unfolding commit_step
commit_none d name at = ap (commit_by d name) at

-- the desk behind it keeps its rules
pub desk_given : (d : PlainDesk) (name : List ℕ) (j : Job) (g : Given) → IsDesk d → IsGiven d.held d.committed j g → IsDesk (given_desk d name g.payment)
desk_given d name j g rules h = subst (λ (p : Payment). IsDesk (given_desk d name p)) (sym h.out.payment_is) (desk_commit d name j h.funded rules h.free)

same_commit : (txid psbt txid' psbt' : List ℕ) → Committed txid psbt ≡ Committed txid' psbt' → (txid ≡ txid') × (psbt ≡ psbt')
same_commit txid psbt txid' psbt' e = (cc, cc)

-- and it is a commit
pub commit_given : (d : PlainDesk) (name : List ℕ) (j : Job) (g : Given) → IsDesk d → job_at d.jobs name ≡ Some j → IsGiven d.held d.committed j g → (txid psbt : List ℕ) → Committed g.txid g.psbt.items ≡ Committed txid psbt
    → IsCommit d name txid psbt (given_desk d name g.payment)
commit_given d name j g rules at h txid psbt e =
    let same = same_commit g.txid g.psbt.items txid psbt e in
    let is = commit_is d name j h.funded rules at h.answers h.free h.out.fits h.shows in
    subst (λ (t : List ℕ). IsCommit d name t psbt (given_desk d name g.payment)) (sym h.out.txid_is ∙ same.0)
    (subst (λ (b : List ℕ). IsCommit d name (txid_of (payment_at d.held j h.funded)) b (given_desk d name g.payment)) (sym h.out.psbt_is ∙ same.1)
    (subst (λ (p : Payment). IsCommit d name (txid_of (payment_at d.held j h.funded)) (written j.state.plan.request.psbt (psbt_at d.held j h.funded)) (given_desk d name p)) (sym h.out.payment_is) is))

-- ---- the same, as a desk gives it out

pub not_due : (d : PlainDesk) (name : List ℕ) (j : Job) (reply : Reply) → job_at d.jobs name ≡ Some j → IsNotGiven d.held d.committed j reply → HasNoPayment d name reply
not_due d name j reply at h = record { refuses = commit_refused d name j reply at h; other = h.other }

pub none_due : (d : PlainDesk) (name : List ℕ) → job_at d.jobs name ≡ None → HasNoPayment d name NoJob
none_due d name at = record { refuses = commit_none d name at; other = λ txid psbt same. absurd cc }

-- what is given out of the job of a desk with these parts
pub due_or_not : (d : PlainDesk) (name : List ℕ) (j : Job) (r : Result (Result Given given.Reply) Memory) → job_at d.jobs name ≡ Some j
    → IfOk r (λ x. MatchResult x (IsGiven d.held d.committed j) (λ reply. IsNotGiven d.held d.committed j (plain_reply reply)))
    → IfOk r (λ x. MatchResult x (IsPaymentOfJob d name) (λ reply. HasNoPayment d name (plain_reply reply)))
due_or_not d name j (Ok (Ok g)) at h = record { job = j; stands = at; given = h }
due_or_not d name j (Ok (Err reply)) at h = not_due d name j (plain_reply reply) at h
due_or_not d name j (Err e) at h = tt

pub due_done : (d : PlainDesk) (name : List ℕ) (g : Given) → IsPaymentOfJob d name g → commit_step d name ≡ done d name g.txid g.psbt.items g.payment
due_done d name g h = commit_done d name h.job g h.stands h.given

pub desk_due : (d : PlainDesk) (name : List ℕ) (g : Given) → IsDesk d → IsPaymentOfJob d name g → IsDesk (given_desk d name g.payment)
desk_due d name g rules h = desk_given d name h.job g rules h.given

pub commit_due : (d : PlainDesk) (name : List ℕ) (g : Given) → IsDesk d → IsPaymentOfJob d name g → (txid psbt : List ℕ) → Committed g.txid g.psbt.items ≡ Committed txid psbt → IsCommit d name txid psbt (given_desk d name g.payment)
commit_due d name g rules h = commit_given d name h.job g rules h.stands h.given

-- the desk with these payments and these jobs
abbrev pub desk_with : PlainDesk → List Payment → List Job → PlainDesk
desk_with d committed jobs = record { held = d.held; committed = committed; jobs = jobs }

pub remembered : (d : PlainDesk) (name : List ℕ) (p : Payment) (committed : List Payment) (jobs : List Job) → committed ≡ d.committed ++ p ∷ [] → jobs ≡ without_job name d.jobs → desk_with d committed jobs ≡ given_desk d name p
remembered d name p committed jobs more fewer = ap (λ (ps : List Payment). desk_with d ps jobs) more ∙ ap (desk_with d (d.committed ++ p ∷ [])) fewer
