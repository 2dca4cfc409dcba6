-- What the files of a command mean is what they come to.
use Rattle.std.proofs.Common.{◌≡◌, ◌≤◌, ◌∙◌, ℕ, List, Option, Result, sym, ap, refl}
use Rattle.block_feed.specs.Block.{ChainBlock}
use Rattle.fund_outside.specs.Kept.{KeptJob}
use Rattle.fund_plan.specs.Outcome.{outcome_at}
use Rattle.fund_steps.specs.Plan.{IsPlan}
use Rattle.fund_plan.specs.declared.outcome.Outcome.{Outcome as Answer}
use Rattle.request_text.specs.PlainRequest.{PlainRequest}
use Rattle.wallet_text.specs.PlainWallet.{PlainWallet}
use Rattle.fund_files.specs.Chain.{chain_from}
use Rattle.fund_files.specs.Contents.{HasChain}
use Rattle.command_end.specs.Names.{Sources}
use Rattle.command_check.proofs.OutcomeLaws.{one_outcome}
use Rattle.command_check.specs.Outcome as checks
use Rattle.fund_files.proofs.ChainLaws.{chain_due}
use Rattle.fund_files.specs.Cause.{FileCause}
use Rattle.fund_files.specs.declared.chain.Chain.{Chain}
use Rattle.command_desk.specs.Outcome as desks
use Rattle.command_coins.proofs.ListingLaws as listings
use Rattle.command_coins.specs.Outcome.{listing_in}
use Rattle.command_inputs.proofs.OutcomeLaws as payments
use Rattle.command_inputs.specs.Cause.{Cause, Files, Bump, Plan}
use Rattle.command_inputs.specs.Outcome.{by_answer, plan_of}
use Rattle.command_inputs.specs.Inputs.{AreInputs}
use Rattle.command_inputs.specs.Names.{Payment}
use Rattle.wallet_text.specs.WalletRules.{AreDistinctEarlier}
use Rattle.command_work.specs.Load.{earlier_of, request_of}
use Rattle.command_resume.proofs.OneLaws as jobs_of
use Rattle.command_resume.specs.Outcome as resumes
use Rattle.command_work.proofs.OutcomeLaws as loads
use Rattle.further_commands.proofs.OutcomeLaws as further
use Rattle.further_commands.specs.Outcome as further_files
use Rattle.command_work.specs.Outcome.{load_of, load_plan, summed}
use Rattle.fund_top.specs.Outcome.{ComesTo, Outcome, Other, Refused, Listed, check_outcome, IsListingMeant, IsMeant, desk_outcome, listing_outcome, load_outcome, payment_outcome, resume_outcome}
use Rattle.fund_top.specs.Words.{Command, Coins, Fund, Resume, Check, Work, Desk, Further}

listing_refused : (files : List ℕ → List ℕ) (jobs : List ℕ → Option KeptJob) (s : Sources) (cause : Cause) → IsListingMeant (files s.wallet) (files s.blocks) cause → ComesTo files jobs (Coins s) (Refused cause)
listing_refused files jobs s (Files cause) h = sym (ap listing_outcome (listings.refused_due files s cause h))
listing_refused files jobs s (Bump fault) h = absurd h
listing_refused files jobs s (Plan fault) h = absurd h

desk_refused : (files : List ℕ → List ℕ) (jobs : List ℕ → Option KeptJob) (s : Sources) (script : List ℕ) (cause : Cause) → IsListingMeant (files s.wallet) (files s.blocks) cause → ComesTo files jobs (Desk s script) (Refused cause)
desk_refused files jobs s script (Files cause) h = sym (ap (λ (held : Result Chain FileCause). desk_outcome (desks.by_chain files (files script) held)) (chain_due (files s.wallet) (files s.blocks) cause h))
desk_refused files jobs s script (Bump fault) h = absurd h
desk_refused files jobs s script (Plan fault) h = absurd h

pub refusal_due : (files : List ℕ → List ℕ) (jobs : List ℕ → Option KeptJob) (c : Command) (cause : Cause) → IsMeant files c cause → ComesTo files jobs c (Refused cause)
refusal_due files jobs (Coins s) cause h = listing_refused files jobs s cause h
refusal_due files jobs (Fund s p job) cause h = sym (ap payment_outcome (payments.refusal_due files s p cause h))
refusal_due files jobs (Resume s p job) cause h = (resumes.Refused cause, (payments.refusal_due files s p cause h, h), refl)
refusal_due files jobs (Check s p report) cause h = (checks.Refused cause, (payments.refusal_due files s p cause h, h), refl)
refusal_due files jobs (Work number count) cause h = sym (ap load_outcome (loads.collision_due number count cause h))
refusal_due files jobs (Desk s script) cause h = desk_refused files jobs s script cause h
refusal_due files jobs (Further c) cause h = absurd h

pub listing_due : (files : List ℕ → List ℕ) (jobs : List ℕ → Option KeptJob) (s : Sources) (w : PlainWallet) (blocks : List ChainBlock) → HasChain (files s.wallet) (files s.blocks) w blocks → ComesTo files jobs (Coins s) (Listed (listing_in (chain_from w blocks)))
listing_due files jobs s w blocks h = sym (ap listing_outcome (listings.listing_due files s w blocks h))

pub answer_due : (files : List ℕ → List ℕ) (jobs : List ℕ → Option KeptJob) (s : Sources) (p : Payment) (job : Option (List ℕ)) (w : PlainWallet) (blocks : List ChainBlock) (r : PlainRequest) (a : Answer) → AreInputs files s p w blocks r → IsPlan (plan_of (chain_from w blocks) r)
    → outcome_at (plan_of (chain_from w blocks) r) r.tries ≡ a → ComesTo files jobs (Fund s p job) (payment_outcome (by_answer (chain_from w blocks) r a))
answer_due files jobs s p job w blocks r a has rules is = sym (ap payment_outcome (payments.answer_due files s p w blocks r a has rules is))

pub load_due : (files : List ℕ → List ℕ) (jobs : List ℕ → Option KeptJob) (number count : ℕ) (a : Answer) → 1 ≤ count → count ≤ 10_000 → AreDistinctEarlier (earlier_of number count) → outcome_at (load_plan number count) 100_000 ≡ a → ComesTo files jobs (Work number count) (load_outcome (summed number count (by_answer (load_of number count) (request_of number count) a)))
load_due files jobs number count a some most distinct is = sym (ap load_outcome (loads.answer_due number count a some most distinct is))

-- a command comes to one thing
pub one_due : (files : List ℕ → List ℕ) (jobs : List ℕ → Option KeptJob) (c : Command) (a b : Outcome) → ComesTo files jobs c a → ComesTo files jobs c b → a ≡ b
one_due files jobs (Coins s) a b x y = x ∙ sym y
one_due files jobs (Fund s p job) a b x y = x ∙ sym y
one_due files jobs (Resume s p job) a b x y = x.2 ∙ ap resume_outcome (jobs_of.one_outcome files s p (jobs job) x.0 y.0 x.1 y.1) ∙ sym y.2
one_due files jobs (Check s p report) a b x y = x.2 ∙ ap check_outcome (one_outcome files s p report x.0 y.0 x.1 y.1) ∙ sym y.2
one_due files jobs (Work number count) a b x y = x ∙ sym y
one_due files jobs (Desk s script) a b x y = x ∙ sym y
one_due files jobs (Further c) a b x y = x.2 ∙ ap (λ (due : further_files.Outcome). Other due) (further.one_outcome files c x.0 y.0 x.1 y.1) ∙ sym y.2
