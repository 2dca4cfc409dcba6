-- What the files mean is what they come to.
use Rattle.std.proofs.Common.{sym, ◌≡◌, ◌∙◌, ℕ, List, Option, Some, Err, inl, inr, ap}
use Rattle.std.specs.Prelude.{◌≢◌, option_and_then, option_map}
use Rattle.block_feed.specs.Block.{ChainBlock}
use Rattle.fee_bump.proofs.CauseLaws.{bump_found}
use Rattle.fee_bump.specs.Faults.{fault_of as bump_fault_of}
use Rattle.fee_bump.specs.declared.fault.BumpFault.{BumpFault}
use Rattle.fund_steps.proofs.FaultLaws.{fault_found, none_found}
use Rattle.fund_plan.proofs.EndLaws.{ended_answers}
use Rattle.fund_plan.specs.Outcome.{IsAnswerOf, by_end, outcome_at}
use Rattle.fund_plan.specs.Steps.{steps_of}
use Rattle.search_run.proofs.AnswerLaws.{one_answer_is}
use Rattle.search_run.specs.Found.{PlainFound}
use Rattle.search_run.specs.declared.ending.End.TheVariants as ends
use Rattle.fund_steps.specs.Plan.{IsPlanFault, IsPlan, PlainPlan}
use Rattle.fund_steps.specs.declared.fault.PlanFault.{PlanFault}
use Rattle.fund_steps.specs.declared.fault.PlanFault.TheVariants as plans
use Rattle.fund_plan.specs.declared.outcome.Outcome.{Outcome as Answer}
use Rattle.request_text.specs.PlainRequest.{PlainRequest}
use Rattle.wallet_text.specs.PlainWallet.{PlainWallet}
use Rattle.fund_files.proofs.ChainLaws.{asked_due, asked_held, chain_due, chain_held}
use Rattle.fund_files.specs.Cause.{FileCause}
use Rattle.fund_files.specs.Chain.{chain_from, history_of}
use Rattle.fund_files.specs.Contents.{HasChain, HasRequest}
use Rattle.fund_files.specs.Outcome.{asked_of, chain_of}
use Rattle.fund_files.specs.declared.chain.Chain.{Chain}
use Rattle.command_end.specs.Names.{Sources}
use Rattle.command_inputs.specs.Cause.{Cause, Files, Bump, Plan}
use Rattle.command_inputs.specs.Outcome.{Refused, bump_fault_in, by_answer, by_asked, by_cause, by_chain, outcome_of, not_taken, plan_cause, plan_of, planned}
use Rattle.command_inputs.specs.Inputs.{AreInputs}
use Rattle.command_inputs.specs.Meant.{IsEndedPlan, IsMeant}
use Rattle.command_inputs.specs.Names.{Payment}

-- ---- the files

pub chain_refused : (files : List ℕ → List ℕ) (s : Sources) (p : Payment) (cause : FileCause) → chain_of (files s.wallet) (files s.blocks) ≡ Err cause → outcome_of files s p ≡ Refused (Files cause)
chain_refused files s p cause is = ap (by_chain (files p.request)) is

chain_read : (files : List ℕ → List ℕ) (s : Sources) (p : Payment) (w : PlainWallet) (blocks : List ChainBlock) → HasChain (files s.wallet) (files s.blocks) w blocks → outcome_of files s p ≡ by_asked (chain_from w blocks) (asked_of (files p.request))
chain_read files s p w blocks h = ap (by_chain (files p.request)) (chain_held (files s.wallet) (files s.blocks) w blocks h)

pub request_refused : (files : List ℕ → List ℕ) (s : Sources) (p : Payment) (w : PlainWallet) (blocks : List ChainBlock) (cause : FileCause) → HasChain (files s.wallet) (files s.blocks) w blocks → asked_of (files p.request) ≡ Err cause → outcome_of files s p ≡ Refused (Files cause)
request_refused files s p w blocks cause h is = chain_read files s p w blocks h ∙ ap (by_asked (chain_from w blocks)) is

request_read : (files : List ℕ → List ℕ) (s : Sources) (p : Payment) (w : PlainWallet) (blocks : List ChainBlock) (r : PlainRequest) → HasChain (files s.wallet) (files s.blocks) w blocks → HasRequest (files p.request) r → outcome_of files s p ≡ by_cause (not_taken (chain_from w blocks) r) (planned (chain_from w blocks) r)
request_read files s p w blocks r h has = chain_read files s p w blocks h ∙ ap (by_asked (chain_from w blocks)) (asked_held (files p.request) r has)

pub not_taken_due : (files : List ℕ → List ℕ) (s : Sources) (p : Payment) (w : PlainWallet) (blocks : List ChainBlock) (r : PlainRequest) (cause : Cause) → HasChain (files s.wallet) (files s.blocks) w blocks → HasRequest (files p.request) r → not_taken (chain_from w blocks) r ≡ Some cause → outcome_of files s p ≡ Refused cause
not_taken_due files s p w blocks r cause h has is = request_read files s p w blocks r h has ∙ ap (λ (o : Option Cause). by_cause o (planned (chain_from w blocks) r)) is

pub inputs_due : (files : List ℕ → List ℕ) (s : Sources) (p : Payment) (w : PlainWallet) (blocks : List ChainBlock) (r : PlainRequest) → AreInputs files s p w blocks r → outcome_of files s p ≡ planned (chain_from w blocks) r
inputs_due files s p w blocks r h = request_read files s p w blocks r h.chain h.request ∙ ap (λ (o : Option BumpFault). by_cause (option_map Bump o) (planned (chain_from w blocks) r)) h.taken

-- ---- the plan

pub plan_refused : (k : Chain) (r : PlainRequest) (fault : PlanFault) → IsPlanFault (plan_of k r) fault → fault ≢ plans.Memory → planned k r ≡ Refused (Plan fault)
unfolding planned
plan_refused k r fault h real =
    ap (λ (o : Option PlanFault). by_cause (plan_cause o) (by_answer k r (outcome_at (plan_of k r) r.tries))) (fault_found (plan_of k r) fault h real)

pub due_is : (k : Chain) (r : PlainRequest) (o : Answer) → IsPlan (plan_of k r) → outcome_at (plan_of k r) r.tries ≡ o → planned k r ≡ by_answer k r o
unfolding planned
due_is k r o h is =
    ap (λ (f : Option PlanFault). by_cause (plan_cause f) (by_answer k r (outcome_at (plan_of k r) r.tries))) (none_found (plan_of k r) h)
    ∙ ap (by_answer k r) is

-- ---- what is meant

bump_due : (k : Chain) (r : PlainRequest) (txid : List ℕ) (fault : BumpFault) → r.bump ≡ Some txid → bump_fault_of k.wallet k.book r ≡ Some fault → bump_fault_in k r ≡ Some fault
bump_due k r txid fault asked is = ap (λ (o : Option (List ℕ)). option_and_then (λ (t : List ℕ). bump_fault_of k.wallet k.book r) o) asked ∙ is

pub not_replaced_due : (files : List ℕ → List ℕ) (s : Sources) (p : Payment) (w : PlainWallet) (blocks : List ChainBlock) (r : PlainRequest) (fault : BumpFault) → HasChain (files s.wallet) (files s.blocks) w blocks → HasRequest (files p.request) r → bump_fault_in (chain_from w blocks) r ≡ Some fault
    → outcome_of files s p ≡ Refused (Bump fault)
not_replaced_due files s p w blocks r fault h has is = not_taken_due files s p w blocks r (Bump fault) h has (ap (λ (o : Option BumpFault). option_map Bump o) is)

files_due : (files : List ℕ → List ℕ) (s : Sources) (p : Payment) (cause : FileCause) → IsMeant files s p (Files cause) → outcome_of files s p ≡ Refused (Files cause)
files_due files s p cause (inl h) = chain_refused files s p cause (chain_due (files s.wallet) (files s.blocks) cause h)
files_due files s p cause (inr h) = request_refused files s p h.0 h.1 cause h.2 (asked_due (files p.request) cause h.3)

pub refusal_due : (files : List ℕ → List ℕ) (s : Sources) (p : Payment) (cause : Cause) → IsMeant files s p cause → outcome_of files s p ≡ Refused cause
refusal_due files s p (Files cause) h = files_due files s p cause h
refusal_due files s p (Bump fault) h =
    not_replaced_due files s p h.wallet h.blocks h.asked fault h.chain h.request
    (bump_due (chain_from h.wallet h.blocks) h.asked h.txid fault h.named (bump_found h.wallet (history_of h.wallet h.blocks) h.asked h.rules fault h.real h.keeps))
refusal_due files s p (Plan fault) h = inputs_due files s p h.0 h.1 h.2 h.3 ∙ plan_refused (chain_from h.0 h.1) h.2 fault h.4 h.5

-- ---- what is due where nothing is refused

pub answer_due : (files : List ℕ → List ℕ) (s : Sources) (p : Payment) (w : PlainWallet) (blocks : List ChainBlock) (r : PlainRequest) (o : Answer) → AreInputs files s p w blocks r → IsPlan (plan_of (chain_from w blocks) r)
    → outcome_at (plan_of (chain_from w blocks) r) r.tries ≡ o → outcome_of files s p ≡ by_answer (chain_from w blocks) r o
answer_due files s p w blocks r o has rules is = inputs_due files s p w blocks r has ∙ due_is (chain_from w blocks) r o rules is

-- a run that came to its end has the answer, and there is no other
pub only_answer : (p : PlainPlan) (o : Answer) → IsEndedPlan p → IsAnswerOf p o → outcome_at p p.request.tries ≡ o
only_answer p o ended a =
    let x : IsAnswerOf p (outcome_at p p.request.tries) = ended_answers p p.request.tries ended.steps ended.over in
    x.is ∙ ap (λ (f : Option PlainFound). by_end p (ends.Ended f)) (one_answer_is p.request.seed (steps_of p) x.found a.found x.answer a.answer) ∙ sym a.is
