-- From a job that was left after n tries the files come to what they come to with n tries and the request's together.
use Rattle.std.proofs.Common.{◌≡◌, ◌∙◌, ℕ, ◌+◌, List, Option, refl, sym}
use Rattle.block_feed.specs.Block.{ChainBlock}
use Rattle.fund_outside.specs.Kept.{KeptJob}
use Rattle.fund_steps.specs.Plan.{IsPlan}
use Rattle.request_text.specs.PlainRequest.{PlainRequest}
use Rattle.wallet_text.specs.PlainWallet.{PlainWallet}
use Rattle.fund_files.specs.Chain.{chain_from}
use Rattle.fund_files.specs.declared.chain.Chain.{Chain}
use Rattle.kept_job.specs.Kept.{IsKeptAt}
use Rattle.command_end.specs.Names.{Sources}
use Rattle.command_inputs.specs.Digest.{digest_in}
use Rattle.command_inputs.specs.Outcome as payments
use Rattle.command_inputs.specs.Outcome.{plan_of, planned_after}
use Rattle.command_inputs.specs.Inputs.{AreInputs}
use Rattle.command_inputs.specs.Names.{Payment}
use Rattle.command_resume.proofs.OneLaws.{by_reading}
use Rattle.command_resume.proofs.UninterruptedLaws.{uninterrupted}
use Rattle.command_resume.specs.Outcome.{IsGone}

pub goes_as : (files : List ℕ → List ℕ) (s : Sources) (p : Payment) (w : PlainWallet) (blocks : List ChainBlock) (r : PlainRequest) (n : ℕ) (job : Option KeptJob) (due : payments.Outcome) → AreInputs files s p w blocks r → IsPlan (plan_of (chain_from w blocks) r)
    → IsKeptAt (plan_of (chain_from w blocks) r) (digest_in files s p) n job → IsGone files s p job due → due ≡ planned_after (chain_from w blocks) r (n + r.tries)
goes_as files s p w blocks r n job due inputs rules kept d =
    let there : IsKeptAt (plan_of (chain_from d.wallet d.blocks) d.asked) (digest_in files s p) n job =
    by_reading files s p w d.wallet blocks d.blocks r d.asked inputs d.inputs (λ (x : Chain) (y : PlainRequest). IsKeptAt (plan_of x y) (digest_in files s p) n job) kept in
    let is : planned_after (chain_from d.wallet d.blocks) d.asked (n + d.asked.tries) ≡ due =
    uninterrupted (Unit {0}) (Unit {0}) files s p job (chain_from d.wallet d.blocks) d.asked d.state d.answer (record { rules = d.plan; steps = d.steps; digest = digest_in files s p; named = λ t. refl; gone = d.gone }) due d.due_is tt tt n there in
    sym is
    ∙ by_reading files s p d.wallet w d.blocks blocks d.asked r d.inputs inputs (λ (x : Chain) (y : PlainRequest). planned_after (chain_from d.wallet d.blocks) d.asked (n + d.asked.tries) ≡ planned_after x y (n + y.tries)) refl
