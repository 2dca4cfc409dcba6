use Rattle.std.proofs.Common.{◌∙◌, ap}
use Rattle.output_groups.specs.PlainGroups.{PlainGroups, pool_in}
use Rattle.fund_steps.proofs.MakingLaws.{searched}
use Rattle.fund_gap.specs.Gap.{reach_in}
use Rattle.fund_gap.proofs.GapLaws.{reach_is}
use Rattle.fund_gap.proofs.reach.row_reach.Goals as goal

pub added_up-requires : goal.added_up-requires
added_up-requires c =
    let got = c.in-Ok.ensures in
    searched c.in_ok-groups.groups c.args.row.now c.in-Ok.seen.items.items c.in-Ok.seen.sizes.items got.items got.sizes got.fit got.small

pub returns-in-Ok-clause-reach : goal.returns-in-Ok-clause-reach
returns-in-Ok-clause-reach c =
    let got = c.in-Ok.ensures in
    reach_is c.in_ok-groups.groups c.args.row.now c.in-Ok.seen.items.items c.in-Ok.seen.sizes.items c.added_up.result got.items got.sizes c.added_up.ensures.value c.added_up.ensures.coins
    ∙ ap (λ (g : PlainGroups). reach_in (pool_in g c.args.row.now)) c.in_ok-groups.ensures
