-- Files and a job come to one outcome.
use Rattle.std.proofs.Common.{◌≡◌, ◌∙◌, ℕ, List, Option, refl, sym, ap, subst}
use Rattle.block_feed.specs.Block.{ChainBlock}
use Rattle.fund_outside.specs.Kept.{KeptJob}
use Rattle.fund_plan.specs.Outcome.{outcome_at}
use Rattle.fund_plan.specs.State.{PlanState}
use Rattle.fund_plan.specs.declared.outcome.Outcome.{Outcome as Answer}
use Rattle.fund_plan.specs.declared.outcome.Outcome.TheVariants as answers
use Rattle.fund_steps.specs.Plan.{IsPlan}
use Rattle.request_text.specs.PlainRequest.{PlainRequest}
use Rattle.wallet_text.specs.PlainWallet.{PlainWallet}
use Rattle.fund_files.specs.Chain.{chain_from}
use Rattle.fund_files.specs.declared.chain.Chain.{Chain}
use Rattle.kept_job.proofs.FaultLaws.{gone_not_refused, one_gone, one_job_fault}
use Rattle.kept_job.specs.Continued.{HasContinued}
use Rattle.kept_job.specs.Refused.{IsNotResumed}
use Rattle.kept_job.specs.declared.fault.KeptFault.{KeptFault}
use Rattle.command_end.specs.Names.{Sources}
use Rattle.command_inputs.proofs.OutcomeLaws.{answer_due}
use Rattle.command_inputs.specs.Cause.{Cause}
use Rattle.command_inputs.specs.Digest.{digest_in}
use Rattle.command_inputs.specs.Outcome as payments
use Rattle.command_inputs.specs.Outcome.{by_answer, plan_of}
use Rattle.command_inputs.specs.Inputs.{AreInputs}
use Rattle.command_inputs.specs.Meant.{AreRefusedFor}
use Rattle.command_inputs.specs.Names.{Payment}
use Rattle.command_resume.proofs.InputLaws.{one_held, one_request}
use Rattle.command_resume.specs.Outcome.{ComesTo, Gone, IsGone, IsNotKept, NotKept, Outcome, Refused, by_answer_on}

-- ---- files in order aren't refused

answer_not : (k : Chain) (r : PlainRequest) (o : Answer) (cause : Cause) → by_answer k r o ≡ payments.Refused cause → ⊥
answer_not k r answers.Unfinished cause e = absurd (cc)
answer_not k r answers.NoSelection cause e = absurd (cc)
answer_not k r (answers.Funded f) cause e = absurd (cc)

pub ready_not_refused : (files : List ℕ → List ℕ) (s : Sources) (p : Payment) (w : PlainWallet) (blocks : List ChainBlock) (r : PlainRequest) (cause : Cause) → AreInputs files s p w blocks r → IsPlan (plan_of (chain_from w blocks) r) → AreRefusedFor files s p cause → ⊥
ready_not_refused files s p w blocks r cause inputs rules due =
    answer_not (chain_from w blocks) r (outcome_at (plan_of (chain_from w blocks) r) r.tries) cause
    (sym (answer_due files s p w blocks r (outcome_at (plan_of (chain_from w blocks) r) r.tries) inputs rules refl) ∙ due.0)

same_cause : (a b : Cause) → payments.Refused a ≡ payments.Refused b → a ≡ b
same_cause a b e = cc

-- files are refused for one cause
pub one_cause : (files : List ℕ → List ℕ) (s : Sources) (p : Payment) (a b : Cause) → AreRefusedFor files s p a → AreRefusedFor files s p b → a ≡ b
one_cause files s p a b h k = same_cause a b (sym h.0 ∙ k.0)

-- ---- of two readings of the same files what is said of one is said of the other

module _ (files : List ℕ → List ℕ) (s : Sources) (p : Payment) (v w : PlainWallet) (us bs : List ChainBlock) (q r : PlainRequest) (h : AreInputs files s p v us q) (k : AreInputs files s p w bs r) where
  pub by_reading : (P : Chain → PlainRequest → Type 0) → P (chain_from v us) q → P (chain_from w bs) r
  by_reading P x =
      subst (λ (y : PlainRequest). P (chain_from w bs) y) (one_request files s p v w us bs q r h k)
      (subst (λ (y : Chain). P y q) (one_held files s p v w us bs q r h k) x)

module _ (files : List ℕ → List ℕ) (s : Sources) (p : Payment) (o : Option KeptJob) where
  -- the job is refused for one fault
  pub one_fault : (e f : KeptFault) → IsNotKept files s p o e → IsNotKept files s p o f → e ≡ f
  one_fault e f a b =
      one_job_fault (plan_of (chain_from b.wallet b.blocks) b.asked) (digest_in files s p) o b.asked.tries e f a.own b.own
      (by_reading files s p a.wallet b.wallet a.blocks b.blocks a.asked b.asked a.inputs b.inputs
      (λ (x : Chain) (y : PlainRequest). IsNotResumed (plan_of x y) (digest_in files s p) o y.tries e) a.fault_is)
      b.fault_is

  -- where a plan goes on from it, it isn't refused
  pub gone_not_kept : (e : KeptFault) (w : PlainWallet) (blocks : List ChainBlock) (r : PlainRequest) (st : PlanState) (a : Answer) → AreInputs files s p w blocks r → HasContinued (Unit {0}) (plan_of (chain_from w blocks) r) (digest_in files s p) o r.tries st a → IsNotKept files s p o e → ⊥
  gone_not_kept e w blocks r st a inputs g n =
      gone_not_refused (plan_of (chain_from w blocks) r) (digest_in files s p) o r.tries st a e n.own g
      (by_reading files s p n.wallet w n.blocks blocks n.asked r n.inputs inputs
      (λ (x : Chain) (y : PlainRequest). IsNotResumed (plan_of x y) (digest_in files s p) o y.tries e) n.fault_is)

  -- what it comes to there is what is due
  pub gone_due : (due : payments.Outcome) (w : PlainWallet) (blocks : List ChainBlock) (r : PlainRequest) (st : PlanState) (a : Answer) → AreInputs files s p w blocks r → HasContinued (Unit {0}) (plan_of (chain_from w blocks) r) (digest_in files s p) o r.tries st a → IsGone files s p o due
      → due ≡ by_answer_on (chain_from w blocks) r st a
  gone_due due w blocks r st a inputs g d =
      let same = one_gone (plan_of (chain_from d.wallet d.blocks) d.asked) (digest_in files s p) o d.asked.tries d.state st d.answer a d.gone
      (by_reading files s p w d.wallet blocks d.blocks r d.asked inputs d.inputs
      (λ (x : Chain) (y : PlainRequest). HasContinued (Unit {0}) (plan_of x y) (digest_in files s p) o y.tries st a) g) in
      d.due_is
      ∙ (ap (λ (x : PlanState). by_answer_on (chain_from d.wallet d.blocks) d.asked x d.answer) same.0
      ∙ (ap (λ (x : Answer). by_answer_on (chain_from d.wallet d.blocks) d.asked st x) same.1
      ∙ by_reading files s p w d.wallet blocks d.blocks r d.asked inputs d.inputs (λ (x : Chain) (y : PlainRequest). by_answer_on x y st a ≡ by_answer_on (chain_from w blocks) r st a) refl))

  -- ---- one outcome

  pub one_outcome : (a b : Outcome) → ComesTo files s p o a → ComesTo files s p o b → a ≡ b
  one_outcome (Refused a) (Refused b) h k = ap (λ (c : Cause). Refused c) (one_cause files s p a b h k)
  one_outcome (Refused a) (NotKept f) h k = absurd (ready_not_refused files s p k.wallet k.blocks k.asked a k.inputs k.plan h)
  one_outcome (Refused a) (Gone d) h k = absurd (ready_not_refused files s p k.wallet k.blocks k.asked a k.inputs k.plan h)
  one_outcome (NotKept e) (Refused b) h k = absurd (ready_not_refused files s p h.wallet h.blocks h.asked b h.inputs h.plan k)
  one_outcome (NotKept e) (NotKept f) h k = ap (λ (x : KeptFault). NotKept x) (one_fault e f h k)
  one_outcome (NotKept e) (Gone d) h k = absurd (gone_not_kept e k.wallet k.blocks k.asked k.state k.answer k.inputs k.gone h)
  one_outcome (Gone d) (Refused b) h k = absurd (ready_not_refused files s p h.wallet h.blocks h.asked b h.inputs h.plan k)
  one_outcome (Gone d) (NotKept f) h k = absurd (gone_not_kept f h.wallet h.blocks h.asked h.state h.answer h.inputs h.gone k)
  one_outcome (Gone d) (Gone e) h k =
      ap (λ (x : payments.Outcome). Gone x) (gone_due d k.wallet k.blocks k.asked k.state k.answer k.inputs k.gone h ∙ sym k.due_is)
