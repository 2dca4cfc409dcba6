-- A job that was left by a run of the same files is refused for no fault of its own but that it has made all its tries.
use Rattle.std.proofs.Common.{◌≡◌, ◌∙◌, ℕ, ◌≤◌, ◌<◌, List, Option, refl, sym, ap}
use Rattle.block_feed.specs.Block.{ChainBlock}
use Rattle.fund_outside.specs.Kept.{KeptJob}
use Rattle.fund_plan.specs.Outcome.{most_tries, tries_at}
use Rattle.fund_plan.specs.Steps.{steps_of}
use Rattle.fund_steps.specs.Plan.{IsPlan}
use Rattle.request_text.specs.PlainRequest.{PlainRequest}
use Rattle.search_run.specs.Step.{AreSteps}
use Rattle.wallet_text.specs.PlainWallet.{PlainWallet}
use Rattle.fund_files.specs.Chain.{chain_from}
use Rattle.fund_files.specs.declared.chain.Chain.{Chain}
use Rattle.kept_job.proofs.SameLaws.{kept_goes, kept_not_refused}
use Rattle.kept_job.specs.Kept.{IsKeptAt}
use Rattle.kept_job.specs.Refused.{IsNotResumed}
use Rattle.kept_job.specs.declared.fault.KeptFault.{KeptFault}
use Rattle.kept_job.specs.declared.fault.KeptFault.TheVariants as faults
use Rattle.command_end.specs.Names.{Sources}
use Rattle.command_end.specs.declared.status.Status.TheVariants as statuses
use Rattle.command_inputs.specs.Digest.{digest_in}
use Rattle.command_inputs.specs.Outcome as payments
use Rattle.command_inputs.specs.Outcome.{plan_of}
use Rattle.command_inputs.specs.Inputs.{AreInputs}
use Rattle.command_inputs.specs.Names.{Payment}
use Rattle.command_resume.proofs.OneLaws.{by_reading}
use Rattle.command_resume.specs.Outcome.{IsGone, IsNotKept, by_answer_on}
use Rattle.command_resume.specs.Words.{kept_status}

module _ (files : List ℕ → List ℕ) (s : Sources) (p : Payment) (o : Option KeptJob) (w : PlainWallet) (blocks : List ChainBlock) (r : PlainRequest) (n : ℕ) (fault : KeptFault) (inputs : AreInputs files s p w blocks r)
    (kept : IsKeptAt (plan_of (chain_from w blocks) r) (digest_in files s p) n o) (x : IsNotKept files s p o fault) where
  -- the fault, of the plan by this reading of the files
  fault_there : IsNotResumed (plan_of (chain_from w blocks) r) (digest_in files s p) o r.tries fault
  fault_there = by_reading files s p x.wallet w x.blocks blocks x.asked r x.inputs inputs (λ (k : Chain) (y : PlainRequest). IsNotResumed (plan_of k y) (digest_in files s p) o y.tries fault) x.fault_is

  steps_there : AreSteps (steps_of (plan_of (chain_from w blocks) r))
  steps_there = by_reading files s p x.wallet w x.blocks blocks x.asked r x.inputs inputs (λ (k : Chain) (y : PlainRequest). AreSteps (steps_of (plan_of k y))) x.steps

  pub kept_limit : (fault ≡ faults.Spent) × (most_tries ≤ tries_at (plan_of (chain_from w blocks) r) n)
  kept_limit = kept_not_refused (plan_of (chain_from w blocks) r) steps_there n r.tries (digest_in files s p) o kept fault fault_there x.own

  pub kept_not_saved : kept_status fault ≡ statuses.Saved → ⊥
  kept_not_saved is =
      let e : statuses.Limit ≡ statuses.Saved = sym (ap kept_status kept_limit.0) ∙ is in
      absurd (cc)

-- with tries left a plan goes on from it
pub kept_gone : (files : List ℕ → List ℕ) (s : Sources) (p : Payment) (w : PlainWallet) (blocks : List ChainBlock) (r : PlainRequest) (n : ℕ) (job : Option KeptJob) → AreInputs files s p w blocks r → IsPlan (plan_of (chain_from w blocks) r) → AreSteps (steps_of (plan_of (chain_from w blocks) r))
    → IsKeptAt (plan_of (chain_from w blocks) r) (digest_in files s p) n job → tries_at (plan_of (chain_from w blocks) r) n < most_tries → (due : payments.Outcome) × IsGone files s p job due
kept_gone files s p w blocks r n job inputs rules are kept few =
    let went = kept_goes (plan_of (chain_from w blocks) r) are n r.tries (digest_in files s p) job kept few in (
      by_answer_on (chain_from w blocks) r went.0 went.1,
      record { wallet = w; blocks = blocks; asked = r; inputs = inputs; plan = rules; steps = are; state = went.0; answer = went.1; gone = went.2; due_is = refl },
    )
