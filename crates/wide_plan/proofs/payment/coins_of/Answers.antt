use Rattle.std.proofs.Common.{subst, sym}
use Rattle.output_groups.specs.PlainGroups.{PlainGroups, pool_in as pool_from}
use Rattle.pick_problem.specs.Problem.{Rising}
use Rattle.std.specs.Prelude.{length}
use Rattle.wide_plan.proofs.MadeLaws.{coins_are, groups_are}
use Rattle.wide_plan.proofs.payment.coins_of.Goals as goal

pub members-requires : goal.members-requires
members-requires c =
    let p = c.args.maker.now in
    let g = groups_are p _ _ c.args.request.now _ c.in_ok-groups.groups c.requires.request c.request.view_is c.funds-funds.ensures c.rest-rest.ensures.value c.in_ok-groups.ensures in
    subst (λ (x : PlainGroups). Rising (length (pool_from x c.args.row.now).groups) 0 c.args.places.now) (sym g) c.requires.rising

pub returns : goal.returns
returns c =
    let p = c.args.maker.now in
    let g = groups_are p _ _ c.args.request.now _ c.in_ok-groups.groups c.requires.request c.request.view_is c.funds-funds.ensures c.rest-rest.ensures.value c.in_ok-groups.ensures in
    coins_are p c.args.row.now c.in_ok-groups.groups c.args.places.now c.in_ok-chosen.chosen.items c.in_ok-coins.coins.items c.requires.none g c.in_ok-chosen.ensures c.in_ok-coins.ensures
