-- What a run comes to that goes on from a job is what comes without a stop.
use Rattle.std.proofs.Common.{◌≡◌, ◌∙◌, ℕ, ◌+◌, Bool, true, false, List, [], ◌∷◌, Option, Some, None, refl, sym, ap, subst}
use Rattle.closing_log.specs.Log.{PlainLog, PlainOpen}
use Rattle.closing_log.specs.LogText as logs
use Rattle.fund_outside.specs.Kept.{KeptJob}
use Rattle.fund_plan.specs.Outcome.{by_end, end_at, is_partial, log_at, outcome_at, stand_after, tries_at}
use Rattle.fund_plan.specs.Resumed.{log_in}
use Rattle.fund_plan.specs.State.{PlanState, end_in, told}
use Rattle.fund_plan.specs.declared.outcome.Outcome.{Outcome as Answer}
use Rattle.fund_plan.specs.declared.outcome.Outcome.TheVariants as answers
use Rattle.fund_steps.proofs.FaultLaws.{none_found}
use Rattle.fund_steps.specs.Plan.{IsPlan, PlainPlan}
use Rattle.fund_steps.specs.declared.fault.PlanFault.{PlanFault}
use Rattle.fund_report.specs.ReportText as reports
use Rattle.fund_report.specs.declared.report.Report.TheVariants as kinds
use Rattle.request_text.specs.PlainRequest.{PlainRequest}
use Rattle.search_run.specs.Kept.{log_of, tail_of}
use Rattle.search_run.specs.Run.{Stand}
use Rattle.search_run.specs.Step.{PlainStep}
use Rattle.search_run.specs.declared.ending.End.{End}
use Rattle.search_run.specs.declared.ending.End.TheVariants as ends
use Rattle.fund_files.specs.declared.chain.Chain.{Chain}
use Rattle.fund_payment.specs.Report.{report_of}
use Rattle.kept_job.proofs.SameLaws.{goes_alike}
use Rattle.kept_job.specs.Continued.{HasContinued}
use Rattle.kept_job.specs.Kept.{IsAsAfter}
use Rattle.command_end.specs.Names.{Sources}
use Rattle.command_inputs.specs.Digest.{digest_in}
use Rattle.command_inputs.specs.Outcome.{Funded, NoSelection, Unfinished, by_answer_after, by_cause, none_report, open_report, plan_cause, plan_of, planned_after}
use Rattle.command_inputs.specs.Outcome as payments
use Rattle.command_inputs.specs.Names.{Payment}
use Rattle.command_resume.specs.Outcome.{by_answer_on}
use Rattle.command_resume.specs.Resumed.{HasGone, IsUninterrupted}

-- where the jobs are told, what was loaded is the job's
abbrev pub told_gone : (told_jobs : Type 0) (p : PlainPlan) (now : List ℕ) (o : Option KeptJob) (m : ℕ) (s : PlanState) (a : Answer) → told_jobs → HasContinued told_jobs p now o m s a → HasContinued (Unit {0}) p now o m s a
told_gone told_jobs p now o m s a t g = record { saved = g.saved; log = g.log; bytes = g.bytes; loaded = λ u. g.loaded t; can = g.can; stands = g.stands; comes_to = g.comes_to; accepted = g.accepted }

-- what is due of a plan that keeps its rules
planned_is : (k : Chain) (r : PlainRequest) (n : ℕ) → IsPlan (plan_of k r) → planned_after k r n ≡ by_answer_after k r n (outcome_at (plan_of k r) n)
unfolding planned_after
planned_is k r n h = ap (λ (f : Option PlanFault). by_cause (plan_cause f) (by_answer_after k r n (outcome_at (plan_of k r) n))) (none_found (plan_of k r) h)

-- an end that comes to nothing takes no result
not_partial : (p : PlainPlan) (d : End) → by_end p d ≡ answers.Unfinished → is_partial d ≡ false
not_partial p (ends.Ended o) e = refl
not_partial p (ends.Partial f) e = absurd (cc)
not_partial p ends.Unfinished e = refl

-- the report of an open search is told by the tail of the log
abbrev report_by : ℕ → Option PlainOpen → List ℕ
report_by n None = []
report_by n (Some o) = reports.text_of (kinds.Unfinished n o.row o.stage)

report_is : (n : ℕ) (s : Stand) (left : List PlainStep) → open_report n left ≡ report_by n (tail_of s left)
report_is n s [] = refl
report_is n s (x ∷ rest) = refl

tail_open : (b : Bool) (s : Stand) → b ≡ false → (log_of b s).tail ≡ tail_of s s.left
tail_open false s e = refl
tail_open true s e = absurd (cc)

tail_at : (p : PlainPlan) (n : ℕ) → outcome_at p n ≡ answers.Unfinished → (log_at p n).tail ≡ tail_of (stand_after p n) (stand_after p n).left
unfolding outcome_at log_at
tail_at p n e = tail_open (is_partial (end_at p (stand_after p n))) (stand_after p n) (not_partial p (end_at p (stand_after p n)) e)

-- what a plan comes to where it stands is what comes after so many tries
same_due : (k : Chain) (r : PlainRequest) (n : ℕ) (s : PlanState) (a : Answer) → a ≡ told s → s.plan ≡ plan_of k r → IsAsAfter (plan_of k r) n s a → by_answer_after k r n a ≡ by_answer_on k r s a
same_due k r n s answers.Unfinished is own alike =
    let here : (log_in s).tail ≡ tail_of s.stand s.stand.left = tail_open (is_partial (end_in s)) s.stand (not_partial s.plan (end_in s) (sym is)) in
    let there : (log_at (plan_of k r) n).tail ≡ tail_of (stand_after (plan_of k r) n) (stand_after (plan_of k r) n).left = tail_at (plan_of k r) n (sym alike.outcome) in
    let tails : tail_of (stand_after (plan_of k r) n) (stand_after (plan_of k r) n).left ≡ tail_of s.stand s.stand.left = sym there ∙ (ap (λ (l : PlainLog). l.tail) (sym alike.log) ∙ here) in
    let reports_same : open_report (tries_at (plan_of k r) n) (stand_after (plan_of k r) n).left ≡ open_report s.stand.past.tries s.stand.left =
    report_is (tries_at (plan_of k r) n) (stand_after (plan_of k r) n) (stand_after (plan_of k r) n).left
    ∙ (ap (report_by (tries_at (plan_of k r) n)) tails
    ∙ (ap (λ (m : ℕ). report_by m (tail_of s.stand s.stand.left)) (sym alike.tries)
    ∙ sym (report_is s.stand.past.tries s.stand s.stand.left))) in
    ap (λ (t : List ℕ). Unfinished t) reports_same
same_due k r n s answers.NoSelection is own alike =
    ap (λ (m : ℕ). NoSelection (none_report m) (logs.text_of (log_at (plan_of k r) n))) (sym alike.tries)
    ∙ ap (λ (l : PlainLog). NoSelection (none_report s.stand.past.tries) (logs.text_of l)) (sym alike.log)
same_due k r n s (answers.Funded f) is own alike =
    ap (λ (m : ℕ). Funded (report_of k.book r k.wallet.change m f) (logs.text_of (log_at (plan_of k r) n))) (sym alike.tries)
    ∙ ap (λ (l : PlainLog). Funded (report_of k.book r k.wallet.change s.stand.past.tries f) (logs.text_of l)) (sym alike.log)

pub uninterrupted : (told_files told_jobs : Type 0) (files : List ℕ → List ℕ) (s : Sources) (p : Payment) (o : Option KeptJob) (k : Chain) (r : PlainRequest) (st : PlanState) (a : Answer) → HasGone told_files told_jobs files s p o k r st a
    → (due : payments.Outcome) → due ≡ by_answer_on k r st a → IsUninterrupted told_files told_jobs files s p o k r due
uninterrupted told_files told_jobs files s p o k r st a g due is = λ f t n kept.
    let gone : HasContinued (Unit {0}) (plan_of k r) (digest_in files s p) o r.tries st a =
    subst (λ (d : List ℕ). HasContinued (Unit {0}) (plan_of k r) d o r.tries st a) (g.named f) (told_gone told_jobs (plan_of k r) g.digest o r.tries st a t g.gone) in
    let alike = goes_alike (plan_of k r) g.steps n r.tries (digest_in files s p) o kept st a gone in
    let own : st.plan ≡ plan_of k r = ap (λ (x : PlanState). x.plan) gone.stands in
    planned_is k r (n + r.tries) g.rules
    ∙ (ap (by_answer_after k r (n + r.tries)) (sym alike.outcome)
    ∙ (same_due k r (n + r.tries) st a gone.comes_to own alike ∙ sym is))
