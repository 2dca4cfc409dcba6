use Rattle.std.proofs.Common.{◌∙◌, ap, subst, sym}
use Rattle.std.specs.Prelude.{length}
use Rattle.std.proofs.lemmas.List.Elements.{All-contains}
use Rattle.output_groups.specs.declared.rows.Row.{Row}
use Rattle.pick_problem.specs.Problem.{Rising}
use Rattle.fund_steps.specs.Amounts.{AreWithin}
use Rattle.fund_steps.specs.Plan.{IsRoomy, ladder_in}
use Rattle.fund_plan.specs.Answer.{IsPayment, IsSelection}
use Rattle.fund_plan.specs.Chosen.{coins_at, row_of}
use Rattle.fund_plan.specs.Steps.{pool_in}
use Rattle.wide_plan.proofs.MadeLaws.{paid_is, row_is}
use Rattle.wide_plan.proofs.PayLaws.{paid_pays, paid_selects, wide_fits, wide_rises}
use Rattle.wide_plan.proofs.StepLaws.{no_presets, not_given}
use Rattle.wide_plan.proofs.payment.pay.Goals as goal

pub load_at-requires : goal.load_at-requires
load_at-requires c =
    let p = c.args.maker.now in
    let row = row_is p _ c.args.request.now _ c.row_at-row.result c.args.number c.requires.request c.request.view_is c.ladder.ensures.rows c.row_at-row.ensures in
    record { roomy = subst (IsRoomy p) (sym row) (All-contains (IsRoomy p) (ladder_in p) (row_of p c.args.number) c.keeps_rules.ensures.roomy c.requires.can.row) }

pub coins_of-requires-clause-rising : goal.coins_of-requires-clause-rising
coins_of-requires-clause-rising c =
    let p = c.args.maker.now in
    let can = c.requires.can in
    let row = row_is p _ c.args.request.now _ c.row_at-row.result c.args.number c.requires.request c.request.view_is c.ladder.ensures.rows c.row_at-row.ensures in
    subst (λ (r : Row). Rising (length (pool_in p r).groups) 0 c.args.places.now) (sym row) (wide_rises p (row_of p c.args.number) c.args.places.now c.keeps_rules.ensures (not_given p can.plain can.asked) can.wide)

pub coins_of-requires-clause-none : goal.coins_of-requires-clause-none
coins_of-requires-clause-none c = no_presets c.args.maker.now c.requires.can.plain c.requires.can.asked

pub paid-requires-clause-coins : goal.paid-requires-clause-coins
paid-requires-clause-coins c =
    let p = c.args.maker.now in
    let can = c.requires.can in
    let row = row_is p _ c.args.request.now _ c.row_at-row.result c.args.number c.requires.request c.request.view_is c.ladder.ensures.rows c.row_at-row.ensures in
    let own = c.in_ok-coins.ensures ∙ ap (λ (r : Row). coins_at p r c.args.places.now) row in
    subst AreWithin (sym own) (wide_fits p (row_of p c.args.number) c.args.places.now c.keeps_rules.ensures (not_given p can.plain can.asked) can.wide)

pub returns-clause-value : goal.returns-clause-value
returns-clause-value c =
    let p = c.args.maker.now in
    let row = row_is p _ c.args.request.now _ c.row_at-row.result c.args.number c.requires.request c.request.view_is c.ladder.ensures.rows c.row_at-row.ensures in
    paid_is p c.args.mark c.args.number c.args.places.now c.row_at-row.result c.in_ok-load.load c.in_ok-coins.coins.items _ row c.in_ok-load.ensures.value c.in_ok-coins.ensures c.paid.ensures

pub returns-clause-payment : goal.returns-clause-payment
returns-clause-payment c =
    let p = c.args.maker.now in
    let row = row_is p _ c.args.request.now _ c.row_at-row.result c.args.number c.requires.request c.request.view_is c.ladder.ensures.rows c.row_at-row.ensures in
    let is = paid_is p c.args.mark c.args.number c.args.places.now c.row_at-row.result c.in_ok-load.load c.in_ok-coins.coins.items _ row c.in_ok-load.ensures.value c.in_ok-coins.ensures c.paid.ensures in
    subst (IsPayment p) (sym is) (paid_pays p c.args.mark c.args.number c.args.places.now c.keeps_rules.ensures c.requires.can)

pub returns-clause-selection : goal.returns-clause-selection
returns-clause-selection c =
    let p = c.args.maker.now in
    let row = row_is p _ c.args.request.now _ c.row_at-row.result c.args.number c.requires.request c.request.view_is c.ladder.ensures.rows c.row_at-row.ensures in
    let is = paid_is p c.args.mark c.args.number c.args.places.now c.row_at-row.result c.in_ok-load.load c.in_ok-coins.coins.items _ row c.in_ok-load.ensures.value c.in_ok-coins.ensures c.paid.ensures in
    subst (IsSelection p.request) (sym is) (paid_selects p c.args.mark c.args.number c.args.places.now c.keeps_rules.ensures c.requires.can)
