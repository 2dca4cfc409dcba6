-- The files of a report come to one outcome at most.
use Rattle.std.proofs.Common.{◌≡◌, ◌∙◌, ℕ, List, Result, Ok, inl, inr, refl, sym, ap, subst, arith}
use Rattle.fund_plan.specs.Outcome.{outcome_at}
use Rattle.fund_plan.specs.declared.outcome.Outcome.{Outcome as Answer}
use Rattle.fund_plan.specs.declared.outcome.Outcome.TheVariants as answers
use Rattle.closing_log.proofs.FirstFaults.{one_place}
use Rattle.fund_report.proofs.ToldLaws.{one_report}
use Rattle.fund_report.specs.ReportText.{IsReportText}
use Rattle.fund_report.specs.declared.report.Report.{Report}
use Rattle.fund_steps.specs.Plan.{IsPlan, PlainPlan}
use Rattle.report_check.proofs.VerdictLaws.{accepted_apart, one_fault_of}
use Rattle.report_check.specs.Verdict.{HasLog, IsAccepted, IsReportRefusal}
use Rattle.report_check.specs.declared.fault.CheckFault.{CheckFault}
use Rattle.report_check.specs.declared.fault.CheckFault.TheVariants as faults
use Rattle.request_text.specs.PlainRequest.{PlainRequest}
use Rattle.fund_files.proofs.ChainLaws.{asked_held, chain_held}
use Rattle.fund_files.specs.Cause.{FileCause}
use Rattle.fund_files.specs.Chain.{chain_from}
use Rattle.fund_files.specs.Outcome.{asked_of, chain_of}
use Rattle.fund_files.specs.declared.chain.Chain.{Chain}
use Rattle.command_end.specs.Names.{Sources}
use Rattle.command_inputs.proofs.OutcomeLaws.{answer_due}
use Rattle.command_inputs.specs.Cause.{Cause}
use Rattle.command_inputs.specs.Outcome as payments
use Rattle.command_inputs.specs.Outcome.{by_answer, outcome_of, plan_of}
use Rattle.command_inputs.specs.Meant.{AreRefusedFor}
use Rattle.command_inputs.specs.Names.{Payment}
use Rattle.command_check.specs.Outcome.{Accepted, BreaksRule, Broken, CanBeJudged, ComesTo, IsFormBroken, KeepsRules, Outcome, Refused, TooLong}
use Rattle.command_check.specs.Evidence.{HasReport, HavePlan, IsReached, IsTooLong, IsWithin, evidence_name}
use Rattle.command_check.specs.declared.stop.CheckedFile.{CheckedFile}
use Rattle.command_check.specs.declared.stop.CheckedFile.TheVariants as evidences

-- ---- the plan

same_chain : (a b : Chain) (r : Result Chain FileCause) → r ≡ Ok a → r ≡ Ok b → a ≡ b
same_chain a b r x y = let e : Ok a ≡ Ok b = sym x ∙ y in cc

same_request : (a b : PlainRequest) (r : Result PlainRequest FileCause) → r ≡ Ok a → r ≡ Ok b → a ≡ b
same_request a b r x y = let e : Ok a ≡ Ok b = sym x ∙ y in cc

same_cause : (a b : Cause) (o : payments.Outcome) → o ≡ payments.Refused a → o ≡ payments.Refused b → a ≡ b
same_cause a b o x y = let e : payments.Refused a ≡ payments.Refused b = sym x ∙ y in cc

plan_by : (k l : Chain) (r q : PlainRequest) → k ≡ l → r ≡ q → plan_of k r ≡ plan_of l q
plan_by k l r q same asked = ap (λ (h : Chain). plan_of h r) same ∙ ap (plan_of l) asked

-- files hold one plan
pub one_plan : (files : List ℕ → List ℕ) (s : Sources) (p : Payment) (a b : PlainPlan) → HavePlan files s p a → HavePlan files s p b → a ≡ b
one_plan files s p a b x y =
    let i = x.inputs tt in
    let j = y.inputs tt in
    let held : chain_from x.wallet x.blocks ≡ chain_from y.wallet y.blocks = same_chain (chain_from x.wallet x.blocks) (chain_from y.wallet y.blocks) (chain_of (files s.wallet) (files s.blocks)) (chain_held (files s.wallet) (files s.blocks) x.wallet x.blocks i.chain)
    (chain_held (files s.wallet) (files s.blocks) y.wallet y.blocks j.chain) in
    let asked : x.asked ≡ y.asked = same_request x.asked y.asked (asked_of (files p.request)) (asked_held (files p.request) x.asked i.request) (asked_held (files p.request) y.asked j.request) in
    x.is ∙ plan_by (chain_from x.wallet x.blocks) (chain_from y.wallet y.blocks) x.asked y.asked held asked ∙ sym y.is

-- what a plan comes to is no refusal
not_refused : (k : Chain) (r : PlainRequest) (o : Answer) (cause : Cause) → by_answer k r o ≡ payments.Refused cause → ⊥
not_refused k r answers.Unfinished cause e = cc
not_refused k r answers.NoSelection cause e = cc
not_refused k r (answers.Funded f) cause e = cc

pub plan_apart : (files : List ℕ → List ℕ) (s : Sources) (p : Payment) (plan : PlainPlan) (cause : Cause) → HavePlan files s p plan → AreRefusedFor files s p cause → ⊥
plan_apart files s p plan cause h due =
    let k = chain_from h.wallet h.blocks in
    let rules : IsPlan (plan_of k h.asked) = subst IsPlan h.is h.rules in
    not_refused k h.asked (outcome_at (plan_of k h.asked) h.asked.tries) cause (sym (answer_due files s p h.wallet h.blocks h.asked (outcome_at (plan_of k h.asked) h.asked.tries) (h.inputs tt) rules refl) ∙ due.0)

-- ---- a file that is judged

not_both : (file : List ℕ) → IsWithin file → IsTooLong file → ⊥
not_both file a b = omega (arith, a, b)

not_read : (file : List ℕ) (r : Report) (fault : CheckFault) → HasReport file r → IsFormBroken file fault → ⊥
not_read file r fault h broken = broken.first.whole r h.form

pub same_report : (file : List ℕ) (a b : Report) → HasReport file a → HasReport file b → a ≡ b
same_report file a b x y = one_report file a b x.form y.form

same_form : (file : List ℕ) (d e : CheckFault) → IsFormBroken file d → IsFormBroken file e → d ≡ e
same_form file d e x y = x.is ∙ ap (λ (n : ℕ). faults.Report n) (one_place IsReportText file x.place y.place x.first y.first) ∙ sym y.is

-- ---- outcomes with a plan

module _ (files : List ℕ → List ℕ) (s : Sources) (p : Payment) (report : List ℕ) where
  HasPlan : Type 0
  HasPlan = (plan : PlainPlan) × HavePlan files s p plan

  long_plan : (file : CheckedFile) → IsReached files s p report file → HasPlan
  unfolding HasPlan
  long_plan evidences.Report h = h
  long_plan evidences.Log h = (h.0, h.1)

  broken_plan : (fault : CheckFault) → ComesTo files s p report (Broken fault) → HasPlan
  unfolding HasPlan
  broken_plan fault (inl h) = h.0
  broken_plan fault (inr h) = (h.plan, h.judged.plan_is)

  due_apart : (cause : Cause) → AreRefusedFor files s p cause → HasPlan → ⊥
  unfolding HasPlan
  due_apart cause due h = plan_apart files s p h.0 cause h.1 due

  -- a file that is too long and one that is judged
  long_apart : (file : CheckedFile) (plan : PlainPlan) (r : Report) → IsReached files s p report file → IsTooLong (files (evidence_name p report file)) → CanBeJudged files s p report plan r → ⊥
  long_apart evidences.Report plan r h long j = not_both (files report) j.found.fits long
  long_apart evidences.Log plan r h long j =
      let same : h.2.0 ≡ r = same_report (files report) h.2.0 r h.2.1 j.found in
      not_both (files p.log) (j.within (subst HasLog same h.2.2)) long

  long_form : (file : CheckedFile) (fault : CheckFault) → IsReached files s p report file → IsTooLong (files (evidence_name p report file)) → IsFormBroken (files report) fault → ⊥
  long_form evidences.Report fault h long broken = not_both (files report) broken.fits long
  long_form evidences.Log fault h long broken = not_read (files report) h.2.0 fault h.2.1 broken

  long_broken : (file : CheckedFile) (fault : CheckFault) → IsReached files s p report file → IsTooLong (files (evidence_name p report file)) → ComesTo files s p report (Broken fault) → ⊥
  long_broken file fault h long (inl b) = long_form file fault h long b.1
  long_broken file fault h long (inr b) = long_apart file b.plan b.found h long b.judged

  same_long : (a b : CheckedFile) → ComesTo files s p report (TooLong a) → ComesTo files s p report (TooLong b) → a ≡ b
  same_long evidences.Report evidences.Report x y = refl
  same_long evidences.Report evidences.Log x y = absurd (not_both (files report) y.0.2.1.fits x.1)
  same_long evidences.Log evidences.Report x y = absurd (not_both (files report) x.0.2.1.fits y.1)
  same_long evidences.Log evidences.Log x y = refl

  same_rule : (d e : CheckFault) → BreaksRule files s p report d → BreaksRule files s p report e → d ≡ e
  same_rule d e x y =
      let plan : y.plan ≡ x.plan = one_plan files s p y.plan x.plan y.judged.plan_is x.judged.plan_is in
      let found : y.found ≡ x.found = same_report (files report) y.found x.found y.judged.found x.judged.found in
      let moved : IsReportRefusal x.plan x.found (files p.log) e = subst (λ (r : Report). IsReportRefusal x.plan r (files p.log) e) found (subst (λ (q : PlainPlan). IsReportRefusal q y.found (files p.log) e) plan y.first) in
      one_fault_of x.plan x.found (files p.log) d e x.real y.real x.first moved

  same_broken : (d e : CheckFault) → ComesTo files s p report (Broken d) → ComesTo files s p report (Broken e) → d ≡ e
  same_broken d e (inl x) (inl y) = same_form (files report) d e x.1 y.1
  same_broken d e (inl x) (inr y) = absurd (not_read (files report) y.found d y.judged.found x.1)
  same_broken d e (inr x) (inl y) = absurd (not_read (files report) x.found e x.judged.found y.1)
  same_broken d e (inr x) (inr y) = same_rule d e x y

  rule_apart : (fault : CheckFault) (r : Report) → BreaksRule files s p report fault → KeepsRules files s p report r → ⊥
  rule_apart fault r x y =
      let plan : y.plan ≡ x.plan = one_plan files s p y.plan x.plan y.judged.plan_is x.judged.plan_is in
      let found : r ≡ x.found = same_report (files report) r x.found y.judged.found x.judged.found in
      let moved : IsAccepted x.plan x.found (files p.log) = subst (λ (o : Report). IsAccepted x.plan o (files p.log)) found (subst (λ (q : PlainPlan). IsAccepted q r (files p.log)) plan y.accepted) in
      accepted_apart x.plan x.found (files p.log) fault moved x.real x.first

  broken_apart : (fault : CheckFault) (r : Report) → ComesTo files s p report (Broken fault) → KeepsRules files s p report r → ⊥
  broken_apart fault r (inl x) y = not_read (files report) r fault y.judged.found x.1
  broken_apart fault r (inr x) y = rule_apart fault r x y

  accepted_plan : (r : Report) → KeepsRules files s p report r → HasPlan
  unfolding HasPlan
  accepted_plan r h = (h.plan, h.judged.plan_is)

  pub one_outcome : (a b : Outcome) → ComesTo files s p report a → ComesTo files s p report b → a ≡ b
  one_outcome (Refused c) (Refused d) x y = ap Refused (same_cause c d (outcome_of files s p) x.0 y.0)
  one_outcome (Refused c) (TooLong f) x y = absurd (due_apart c x (long_plan f y.0))
  one_outcome (Refused c) (Broken e) x y = absurd (due_apart c x (broken_plan e y))
  one_outcome (Refused c) (Accepted r) x y = absurd (due_apart c x (accepted_plan r y))
  one_outcome (TooLong f) (Refused d) x y = absurd (due_apart d y (long_plan f x.0))
  one_outcome (TooLong f) (TooLong g) x y = ap TooLong (same_long f g x y)
  one_outcome (TooLong f) (Broken e) x y = absurd (long_broken f e x.0 x.1 y)
  one_outcome (TooLong f) (Accepted r) x y = absurd (long_apart f y.plan r x.0 x.1 y.judged)
  one_outcome (Broken d) (Refused c) x y = absurd (due_apart c y (broken_plan d x))
  one_outcome (Broken d) (TooLong g) x y = absurd (long_broken g d y.0 y.1 x)
  one_outcome (Broken d) (Broken e) x y = ap Broken (same_broken d e x y)
  one_outcome (Broken d) (Accepted r) x y = absurd (broken_apart d r x y)
  one_outcome (Accepted r) (Refused c) x y = absurd (due_apart c y (accepted_plan r x))
  one_outcome (Accepted r) (TooLong g) x y = absurd (long_apart g x.plan r y.0 y.1 x.judged)
  one_outcome (Accepted r) (Broken e) x y = absurd (broken_apart e r y x)
  one_outcome (Accepted r) (Accepted q) x y = ap Accepted (same_report (files report) r q x.judged.found y.judged.found)
