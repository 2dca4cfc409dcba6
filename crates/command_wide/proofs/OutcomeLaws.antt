-- What the files mean is what they come to.
use Rattle.std.specs.Prelude.{ℕ, ◌≡◌, ◌≢◌, List, Option, Err}
use Rattle.std.proofs.Common.{ap, ◌∙◌, inl, inr}
use Rattle.block_feed.specs.Block.{ChainBlock}
use Rattle.fund_steps.proofs.FaultLaws.{fault_found, none_found}
use Rattle.fund_steps.specs.Plan.{IsPlan, IsPlanFault}
use Rattle.fund_steps.specs.declared.fault.PlanFault.{PlanFault}
use Rattle.fund_steps.specs.declared.fault.PlanFault.TheVariants as plans
use Rattle.request_text.specs.PlainRequest.{PlainRequest}
use Rattle.wallet_text.specs.PlainWallet.{PlainWallet}
use Rattle.fund_files.proofs.ChainLaws.{asked_due, asked_held, chain_due, chain_held}
use Rattle.fund_files.specs.Cause.{FileCause}
use Rattle.fund_files.specs.Chain.{chain_from}
use Rattle.fund_files.specs.Contents.{HasChain, HasRequest}
use Rattle.fund_files.specs.Outcome.{asked_of, chain_of}
use Rattle.fund_files.specs.declared.chain.Chain.{Chain}
use Rattle.command_end.specs.Names.{Sources}
use Rattle.command_inputs.specs.Cause.{Cause, Files, Bump, Plan}
use Rattle.command_inputs.specs.Meant.{IsMeant as IsMeantOfPayment}
use Rattle.command_inputs.specs.Names.{Payment}
use Rattle.command_inputs.specs.Outcome.{plan_cause, plan_of}
use Rattle.wide_plan.proofs.AskedLaws.{taken, untaken}
use Rattle.wide_plan.specs.Asked.{is_for_wide}
use Rattle.wide_plan.specs.Run.{run_of}
use Rattle.wide_plan.specs.declared.outcome.WideOutcome.{WideOutcome}
use Rattle.command_wide.specs.Inputs.{AreInputs, IsMeant, IsNotWide}
use Rattle.command_wide.specs.Outcome.{NotWide, Refused, by_answer, by_asked, by_cause, by_chain, by_run, by_test, outcome_of, searched}

-- ---- the files

pub chain_refused : (files : List ℕ → List ℕ) (s : Sources) (p : Payment) (cause : FileCause) → chain_of (files s.wallet) (files s.blocks) ≡ Err cause → outcome_of files s p ≡ Refused (Files cause)
chain_refused files s p cause is = ap (by_chain (files p.request)) is

chain_read : (files : List ℕ → List ℕ) (s : Sources) (p : Payment) (w : PlainWallet) (blocks : List ChainBlock) → HasChain (files s.wallet) (files s.blocks) w blocks → outcome_of files s p ≡ by_asked (chain_from w blocks) (asked_of (files p.request))
chain_read files s p w blocks h = ap (by_chain (files p.request)) (chain_held (files s.wallet) (files s.blocks) w blocks h)

pub request_refused : (files : List ℕ → List ℕ) (s : Sources) (p : Payment) (w : PlainWallet) (blocks : List ChainBlock) (cause : FileCause) → HasChain (files s.wallet) (files s.blocks) w blocks → asked_of (files p.request) ≡ Err cause → outcome_of files s p ≡ Refused (Files cause)
request_refused files s p w blocks cause h is = chain_read files s p w blocks h ∙ ap (by_asked (chain_from w blocks)) is

request_read : (files : List ℕ → List ℕ) (s : Sources) (p : Payment) (w : PlainWallet) (blocks : List ChainBlock) (r : PlainRequest) → HasChain (files s.wallet) (files s.blocks) w blocks → HasRequest (files p.request) r → outcome_of files s p ≡ by_test (chain_from w blocks) r (is_for_wide r)
request_read files s p w blocks r h has = chain_read files s p w blocks h ∙ ap (by_asked (chain_from w blocks)) (asked_held (files p.request) r has)

pub inputs_due : (files : List ℕ → List ℕ) (s : Sources) (p : Payment) (w : PlainWallet) (blocks : List ChainBlock) (r : PlainRequest) → AreInputs files s p w blocks r → outcome_of files s p ≡ searched (chain_from w blocks) r
inputs_due files s p w blocks r h = request_read files s p w blocks r h.chain h.request ∙ ap (by_test (chain_from w blocks) r) (taken r h.wide)

pub not_wide_due : (files : List ℕ → List ℕ) (s : Sources) (p : Payment) → IsNotWide files s p → outcome_of files s p ≡ NotWide
not_wide_due files s p h = request_read files s p h.wallet h.blocks h.asked h.chain h.request ∙ ap (by_test (chain_from h.wallet h.blocks) h.asked) (untaken h.asked h.other)

-- ---- the plan

pub plan_refused : (k : Chain) (r : PlainRequest) (fault : PlanFault) → IsPlanFault (plan_of k r) fault → fault ≢ plans.Memory → searched k r ≡ Refused (Plan fault)
unfolding searched
plan_refused k r fault h real = ap (λ (o : Option PlanFault). by_cause (plan_cause o) (by_run k r (run_of (plan_of k r)))) (fault_found (plan_of k r) fault h real)

pub due_is : (k : Chain) (r : PlainRequest) (o : WideOutcome) → IsPlan (plan_of k r) → (run_of (plan_of k r)).outcome ≡ o → searched k r ≡ by_answer k r (run_of (plan_of k r)) o
unfolding searched
due_is k r o h is =
    ap (λ (f : Option PlanFault). by_cause (plan_cause f) (by_run k r (run_of (plan_of k r)))) (none_found (plan_of k r) h)
    ∙ ap (by_answer k r (run_of (plan_of k r))) is

-- ---- what is meant

files_due : (files : List ℕ → List ℕ) (s : Sources) (p : Payment) (cause : FileCause) → IsMeantOfPayment files s p (Files cause) → outcome_of files s p ≡ Refused (Files cause)
files_due files s p cause (inl h) = chain_refused files s p cause (chain_due (files s.wallet) (files s.blocks) cause h)
files_due files s p cause (inr h) = request_refused files s p h.0 h.1 cause h.2 (asked_due (files p.request) cause h.3)

pub refusal_due : (files : List ℕ → List ℕ) (s : Sources) (p : Payment) (cause : Cause) → IsMeant files s p cause → outcome_of files s p ≡ Refused cause
refusal_due files s p (Files cause) h = files_due files s p cause h
refusal_due files s p (Bump fault) h = absurd h
refusal_due files s p (Plan fault) h = inputs_due files s p h.0 h.1 h.2 h.3 ∙ plan_refused (chain_from h.0 h.1) h.2 fault h.4 h.5

pub answer_due : (files : List ℕ → List ℕ) (s : Sources) (p : Payment) (w : PlainWallet) (blocks : List ChainBlock) (r : PlainRequest) (o : WideOutcome) → AreInputs files s p w blocks r → IsPlan (plan_of (chain_from w blocks) r)
    → (run_of (plan_of (chain_from w blocks) r)).outcome ≡ o → outcome_of files s p ≡ by_answer (chain_from w blocks) r (run_of (plan_of (chain_from w blocks) r)) o
answer_due files s p w blocks r o has rules is = inputs_due files s p w blocks r has ∙ due_is (chain_from w blocks) r o rules is
