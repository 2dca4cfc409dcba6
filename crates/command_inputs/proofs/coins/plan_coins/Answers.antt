use Rattle.std.proofs.Common.{◌∙◌, Some, ap, sym}
use Rattle.std.specs.Prelude.{option_map}
use Rattle.fee_bump.specs.Bump.{PlainTerms}
use Rattle.fund_steps.proofs.BumpLaws.{no_bump}
use Rattle.request_text.specs.PlainRequest.{PlainRequest}
use Rattle.command_inputs.specs.Outcome.{bump_of, candidates_by, candidates_in}
use Rattle.command_inputs.proofs.TermsLaws.{added_fit, bump_fits, none_named}
use Rattle.command_inputs.proofs.coins.plan_coins.Goals as goal

-- where there are terms, they are those of the replacement
pub returns-in-Some-clause-candidates : goal.returns-in-Some-clause-candidates
returns-in-Some-clause-candidates c =
    let told = ap (λ (t : PlainTerms). Some t) c.terms.view_is ∙ (sym c.in-Some.is ∙ c.requires.terms) in
    ap (candidates_by c.args.held.now c.args.request.now.rate) told

pub returns-in-Some-clause-bump : goal.returns-in-Some-clause-bump
returns-in-Some-clause-bump c =
    let told = ap (λ (t : PlainTerms). Some t) c.terms.view_is ∙ (sym c.in-Some.is ∙ c.requires.terms) in
    ap (option_map bump_of) told

pub returns-in-Some-clause-fit : goal.returns-in-Some-clause-fit
returns-in-Some-clause-fit c =
    let told = ap (λ (t : PlainTerms). Some t) c.terms.view_is ∙ (sym c.in-Some.is ∙ c.requires.terms) in
    added_fit c.args.held.now c.args.request.now c.requires.held c.keeps_rules.ensures _ told

pub returns-in-Some-clause-asked : goal.returns-in-Some-clause-asked
returns-in-Some-clause-asked c =
    let told = ap (λ (t : PlainTerms). Some t) c.terms.view_is ∙ (sym c.in-Some.is ∙ c.requires.terms) in
    bump_fits c.args.held.now c.args.request.now c.requires.held c.keeps_rules.ensures _ told c.requires.taken

-- where there are none the request names no payment
pub returns-in_ok-candidates-in-None-clause-candidates : goal.returns-in_ok-candidates-in-None-clause-candidates
returns-in_ok-candidates-in-None-clause-candidates c =
    let k = c.args.held.now in
    c.in_ok-candidates-in-None.ensures.coins
    ∙ (ap (λ (q : PlainRequest). candidates_in k q.rate) c.request.view_is ∙ ap (candidates_by k c.args.request.now.rate) (rw c.in-None.is at c.requires.terms))

pub returns-in_ok-candidates-in-None-clause-bump : goal.returns-in_ok-candidates-in-None-clause-bump
returns-in_ok-candidates-in-None-clause-bump c = ap (option_map bump_of) (rw c.in-None.is at c.requires.terms)

pub returns-in_ok-candidates-in-None-clause-asked : goal.returns-in_ok-candidates-in-None-clause-asked
returns-in_ok-candidates-in-None-clause-asked c = no_bump c.args.request.now _ (none_named c.args.held.now c.args.request.now (rw c.in-None.is at c.requires.terms))
