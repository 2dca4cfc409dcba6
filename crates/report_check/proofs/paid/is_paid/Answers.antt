use Rattle.std.specs.Prelude.{ℕ, Some}
use Rattle.std.proofs.Common.{ap, subst}
use Rattle.std.proofs.lemmas.Bool.{both_ways}
use Rattle.fund_report.specs.PlainFunded.{PlainFunded}
use Rattle.report_check.specs.Paying.{IsLoadAt}
use Rattle.report_check.proofs.FittingLaws.{never_true}
use Rattle.report_check.proofs.PaidLaws.{not_own, own_as, said_iff, taken_fit, taken_some}
use Rattle.report_check.proofs.paid.is_paid.Goals as goal

pub returns-then-not-are_own : goal.returns-then-not-are_own
returns-then-not-are_own c =
    let own = own_as c.args.funding.now c.funds.result.now c.args.coins.items c.deref.result.now c.presets.result.now c.are_own.result c.deref.ensures.value c.presets.ensures.value c.funds.ensures c.are_own.ensures in
    never_true (not_own c.args.funding.now c.args.f.now c.args.psbt.now c.args.coins.items c.keeps_rules.ensures c.requires.coins (λ h. both_ways c.are_own.result c.if-not-are_own.true (own.1 h)))

pub is_said-requires-clause-coins : goal.is_said-requires-clause-coins
is_said-requires-clause-coins c =
    let own = own_as c.args.funding.now c.funds.result.now c.args.coins.items c.deref.result.now c.presets.result.now c.are_own.result c.deref.ensures.value c.presets.ensures.value c.funds.ensures c.are_own.ensures in
    taken_fit c.args.funding.now c.args.f.now.row c.args.psbt.now.tx.inputs c.args.coins.items c.keeps_rules.ensures c.requires.coins (own.0 c.if-not-are_own.false).0

pub is_said-requires-clause-some : goal.is_said-requires-clause-some
is_said-requires-clause-some c = taken_some c.args.funding.now c.args.f.now.row c.args.psbt.now.tx c.args.coins.items c.requires.text c.requires.coins

pub returns-in_ok-is-in-Some : goal.returns-in_ok-is-in-Some
returns-in_ok-is-in-Some c =
    let own = own_as c.args.funding.now c.funds.result.now c.args.coins.items c.deref.result.now c.presets.result.now c.are_own.result c.deref.ensures.value c.presets.ensures.value c.funds.ensures c.are_own.ensures in
    let at = subst (λ (n : ℕ). IsLoadAt c.args.funding.now n (Some c.in-Some.load)) (ap (λ (x : PlainFunded). x.row) c.f.view_is) (subst (IsLoadAt c.args.funding.now c.f.inside.row) c.in-Some.is c.in_ok-load_of.ensures) in
    said_iff c.args.funding.now c.args.request.now c.args.change.now c.args.f.now c.args.psbt.now c.args.coins.items c.in-Some.load c.in_ok-is-in-Some.is' c.keeps_rules.ensures c.requires.request c.requires.change c.requires.coins (own.0 c.if-not-are_own.false) at.0 at.1 c.in_ok-is-in-Some.ensures.said
