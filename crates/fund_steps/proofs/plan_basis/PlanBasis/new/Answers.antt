use Rattle.std.specs.Prelude.{All, Option, not}
use Rattle.std.proofs.Common.{◌≡◌, ◌≤◌, ◌∙◌, refl, sym, ap, subst, arith, List, Vec, Global}
use Rattle.std.proofs.lemmas.Result.{err_from_is_err_and}
use Rattle.coin_candidates.specs.Candidates.{AreCandidates}
use Rattle.coin_candidates.specs.declared.candidate.Candidate.{Candidate}
use Rattle.request_text.specs.PlainRequest.{PlainRequest}
use Rattle.wallet_text.specs.declared.wallet.Watch.{Watch}
use Rattle.fund_steps.specs.Amounts.{AreWithin, value_of}
use Rattle.fund_steps.specs.Basis.{basis_of}
use Rattle.fund_steps.specs.BasisOf.{IsBasisOf}
use Rattle.fund_steps.specs.Listed.{burden_by, listed_of, presets_by}
use Rattle.fund_steps.specs.Plan.{HasEligible, IsPlan, IsRoomy, PlainBump, PlainPlan, coins_with, ladder_in}
use Rattle.fund_steps.specs.Searches.{steps_of}
use Rattle.fund_steps.specs.Selection.{first_missing, is_listed}
use Rattle.fund_steps.specs.Terms.{load_of}
use Rattle.fund_steps.proofs.BumpLaws.{bump_candidates, burden_within, presets_within}
use Rattle.fund_steps.proofs.MakingLaws.{load_is_alone, steps_are}
use Rattle.fund_steps.proofs.PresetLaws.{all_eligible, missing_is, plan_is, told_crowded, told_missing}
use Rattle.fund_steps.proofs.RowLaws.{filter_candidates}
use Rattle.fund_steps.proofs.plan_basis.PlanBasis.new.Goals as goal

abbrev plain : PlainRequest → Watch → List Candidate → Option PlainBump → PlainPlan
plain r w cs bump = record { request = r; change = w; candidates = cs; bump = bump }

-- the coins are worth no more than there are
abbrev Fits : Option PlainBump → List Candidate → Type 0
Fits bump cs = value_of (coins_with bump cs) ≤ 2_100_000_000_000_000

pub worth-sum-requires-clause-candidates : goal.worth-sum-requires-clause-candidates
worth-sum-requires-clause-candidates c = rw c.deref.ensures.value c.requires.candidates

pub worth-sum-requires-clause-bump : goal.worth-sum-requires-clause-bump
worth-sum-requires-clause-bump c = bump_candidates c.args.candidates.items c.args.bump c.requires.bump.fits

-- Memory is told behind the test of the sum.
pub returns-in_err-listed-clause-fault : goal.returns-in_err-listed-clause-fault
returns-in_err-listed-clause-fault c =
    let few : Fits c.args.bump c.deref.result.now = omega (arith, c.if-sum-from.false, c.from.ensures, c.worth-sum.ensures) in
    let p = err_from_is_err_and c.from_residual.result c.from_residual.ensures.1 in
    rw (p.1, p.2) (subst (Fits c.args.bump) c.deref.ensures.value few)

pub returns-in_err-presets-clause-fault : goal.returns-in_err-presets-clause-fault
returns-in_err-presets-clause-fault c =
    let few : Fits c.args.bump c.deref.result.now = omega (arith, c.if-sum-from.false, c.from.ensures, c.worth-sum.ensures) in
    let p = err_from_is_err_and c.from_residual-in_err-presets.result c.from_residual-in_err-presets.ensures.1 in
    rw (p.1, p.2) (subst (Fits c.args.bump) c.deref.ensures.value few)

pub returns-in_err-crowded-clause-fault : goal.returns-in_err-crowded-clause-fault
returns-in_err-crowded-clause-fault c =
    let few : Fits c.args.bump c.deref.result.now = omega (arith, c.if-sum-from.false, c.from.ensures, c.worth-sum.ensures) in
    let p = err_from_is_err_and c.from_residual-in_err-crowded.result c.from_residual-in_err-crowded.ensures.1 in
    rw (p.1, p.2) (subst (Fits c.args.bump) c.deref.ensures.value few)

pub returns-in-Err-clause-fault : goal.returns-in-Err-clause-fault
returns-in-Err-clause-fault c =
    let p = plain c.args.request.now c.args.change.now c.args.candidates.items c.args.bump in
    let few : Fits c.args.bump c.deref.result.now = omega (arith, c.if-sum-from.false, c.from.ensures, c.worth-sum.ensures) in
    let points = c.deref-3.ensures.value ∙ ap (λ (q : PlainRequest). q.coins) c.request.view_is in
    let missing = missing_is p (first_missing c.deref-2.result.now c.deref-3.result.now) c.deref-2.result.now c.deref-3.result.now refl (c.deref-2.ensures.value ∙ c.in_ok-listed.ensures.listed) points in
    told_missing p _ c.in-Err.fault c.in-Err.ensures.missing (subst (Fits c.args.bump) c.deref.ensures.value few) missing

pub load-load-requires-clause-coins : goal.load-load-requires-clause-coins
load-load-requires-clause-coins c =
    let few : Fits c.args.bump c.deref.result.now = omega (arith, c.if-sum-from.false, c.from.ensures, c.worth-sum.ensures) in
    let given = c.deref-4.ensures.value ∙ c.in_ok-presets.ensures.presets ∙ ap (presets_by c.args.bump) c.in_ok-listed.ensures.listed in
    subst AreWithin (sym given) (presets_within c.args.request.now c.args.candidates.items c.args.bump c.requires.candidates c.requires.bump.fits (subst (Fits c.args.bump) c.deref.ensures.value few))

pub load-load-requires-clause-burden : goal.load-load-requires-clause-burden
load-load-requires-clause-burden c = rw c.in_ok-presets.ensures.burden (burden_within c.args.candidates.items c.args.bump c.requires.bump.fits)

pub add_rows-requires-clause-coins : goal.add_rows-requires-clause-coins
add_rows-requires-clause-coins c =
    let rest = c.deref-5.ensures.value ∙ c.in_ok-listed.ensures.rest in
    subst AreCandidates (sym rest) (filter_candidates (λ x. not (is_listed c.args.request.now.coins x.coin)) c.args.candidates.items c.requires.candidates)

pub returns-in-Err-check_rows-clause-fault : goal.returns-in-Err-check_rows-clause-fault
returns-in-Err-check_rows-clause-fault c =
    let p = plain c.args.request.now c.args.change.now c.args.candidates.items c.args.bump in
    let few : Fits c.args.bump c.deref.result.now = omega (arith, c.if-sum-from.false, c.from.ensures, c.worth-sum.ensures) in
    let points = c.deref-3.ensures.value ∙ ap (λ (q : PlainRequest). q.coins) c.request.view_is in
    let missing = missing_is p (first_missing c.deref-2.result.now c.deref-3.result.now) c.deref-2.result.now c.deref-3.result.now refl (c.deref-2.ensures.value ∙ c.in_ok-listed.ensures.listed) points in
    let rest = c.deref-5.ensures.value ∙ c.in_ok-listed.ensures.rest in
    told_crowded p c.in_ok-crowded.crowded c.in-Err-check_rows.fault c.in-Err-check_rows.ensures.first (subst (Fits c.args.bump) c.deref.ensures.value few) (all_eligible p (sym missing ∙ c.in-Ok.ensures.there)) (c.in_ok-crowded.ensures.first p refl (sym rest))

-- what the sum was tested for
within : (c : goal.After-rates) → Fits c.args.bump c.args.candidates.items
within c =
    let few : Fits c.args.bump c.deref.result.now = omega (arith, c.if-sum-from.false, c.from.ensures, c.worth-sum.ensures) in
    subst (Fits c.args.bump) c.deref.ensures.value few

-- the parts keep the rules of a plan
made : (c : goal.After-rates) → IsPlan (plain c.args.request.now c.args.change.now c.args.candidates.items c.args.bump)
made c =
    let p = plain c.args.request.now c.args.change.now c.args.candidates.items c.args.bump in
    let points = c.deref-3.ensures.value ∙ ap (λ (q : PlainRequest). q.coins) c.request.view_is in
    let missing = missing_is p (first_missing c.deref-2.result.now c.deref-3.result.now) c.deref-2.result.now c.deref-3.result.now refl (c.deref-2.ensures.value ∙ c.in_ok-listed.ensures.listed) points in
    let rest = c.deref-5.ensures.value ∙ c.in_ok-listed.ensures.rest in
    let roomy : All (IsRoomy p) (ladder_in p) = c.in_ok-crowded.ensures.none p refl (sym rest) c.in-Ok-check_rows.ensures.none in
    plan_is p c.keeps_rules.ensures c.requires.bump c.requires.change c.requires.candidates (within c) (sym missing ∙ c.in-Ok.ensures.there) roomy

-- what is kept of the parts is what they are
seen : (c : goal.After-rates) → plain c.args.request.now c.args.change.now c.args.candidates.items c.args.bump ≡ plain c.of.result.value c.of-2.result.value c.of-all.result.value.items c.of-replacing.result.value
seen c =
    ap (λ (r : PlainRequest). plain r c.args.change.now c.args.candidates.items c.args.bump) (sym c.of.ensures)
    ∙ ap (λ (w : Watch). plain c.of.result.value w c.args.candidates.items c.args.bump) (sym c.of-2.ensures)
    ∙ ap (λ (v : Vec Candidate Global). plain c.of.result.value c.of-2.result.value v.items c.args.bump) (sym c.of-all.ensures)
    ∙ ap (plain c.of.result.value c.of-2.result.value c.of-all.result.value.items) (sym c.of-replacing.ensures)

-- the presets
given : (c : goal.After-rates) → c.in_ok-presets.field-0.presets.items ≡ presets_by c.args.bump (listed_of c.args.request.now c.args.candidates.items)
given c = c.in_ok-presets.ensures.presets ∙ ap (presets_by c.args.bump) c.in_ok-listed.ensures.listed

-- what a payment from them is to carry
carried : (c : goal.After-rates) → c.load-load.result ≡ load_of c.args.request.now c.args.change.now c.in_ok-presets.field-0.presets.items (burden_by c.args.bump)
carried c =
    c.load-load.ensures.value
    ∙ ap (λ (cs : List Candidate). load_of c.args.request.now c.args.change.now cs c.in_ok-presets.field-0.burden) c.deref-4.ensures.value
    ∙ ap (load_of c.args.request.now c.args.change.now c.in_ok-presets.field-0.presets.items) c.in_ok-presets.ensures.burden

pub invariant_of-funds : goal.invariant_of-funds
invariant_of-funds c =
    let presets = c.in_ok-presets.field-0.presets.items in
    subst (λ (p : PlainPlan). IsBasisOf p presets c.in_ok-listed.field-0.rest.items c.rates.result c.load-load.result) (seen c) (record {
      plan = made c;
      presets_are = given c;
      rest_is = c.in_ok-listed.ensures.rest;
      rates_are = c.rates.ensures.value;
      load_is = carried c;
      presets_fit = subst AreWithin (sym (given c)) (presets_within c.args.request.now c.args.candidates.items c.args.bump c.requires.candidates c.requires.bump.fits (within c));
      rates_fit = c.rates.ensures.fit;
      load_fits = c.load-load.ensures.fit;
      worth = c.load-load.ensures.worth;
    })

pub returns-clause-eligible : goal.returns-clause-eligible
returns-clause-eligible c = subst (λ (p : PlainPlan). All (HasEligible p) p.request.coins) (seen c) (made c).eligible

pub returns-clause-roomy : goal.returns-clause-roomy
returns-clause-roomy c = subst (λ (p : PlainPlan). All (IsRoomy p) (ladder_in p)) (seen c) (made c).roomy

pub returns-clause-steps : goal.returns-clause-steps
returns-clause-steps c =
    let p = plain c.args.request.now c.args.change.now c.args.candidates.items c.args.bump in
    let presets = c.in_ok-presets.field-0.presets.items in
    let rest = c.deref-5.ensures.value ∙ c.in_ok-listed.ensures.rest in
    let alone = load_is_alone p presets c.load-load.result (carried c) (given c) in
    let stepped = rw c.new-steps.ensures.items at (c.in_ok-crowded.ensures.steps c.in-Ok-check_rows.ensures.none) in
    stepped
    ∙ steps_are (basis_of p) c.load-load.result c.deref-5.result.now c.row_turns-turns.result.now alone rest c.row_turns-turns.ensures.value
    ∙ ap (λ (q : PlainPlan). steps_of (basis_of q)) (seen c)
