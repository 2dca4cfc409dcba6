use Rattle.std.proofs.Common.{◌∙◌, ap, subst}
use Rattle.output_groups.specs.PlainGroups.{PlainGroups, pool_in as pool_from}
use Rattle.output_groups.specs.Pool.{IsPoolFault}
use Rattle.fund_steps.specs.Searches.{sizes_of}
use Rattle.fund_steps.proofs.MakingLaws.{searched}
use Rattle.fund_plan.proofs.LoadLaws.{never_many}
use Rattle.fund_plan.proofs.funding.PaymentMaker.seen.Goals as goal

pub unreachable-requires : goal.unreachable-requires
unreachable-requires c =
    let g = c.args.groups.now in
    never_many c.args.self.now c.args.row.now g.group g.rate g.candidates c.in-TooMany.field-0 c.requires.roomy
    (ap (λ (x : PlainGroups). x.group) c.requires.groups)
    (ap (λ (x : PlainGroups). x.rate) c.requires.groups)
    (ap (λ (x : PlainGroups). x.candidates) c.requires.groups)
    (subst (IsPoolFault g.group c.args.row.now g.rate g.candidates) c.in-TooMany.is c.in-Err.ensures.many)

pub returns-in-Ok-clause-sizes : goal.returns-in-Ok-clause-sizes
returns-in-Ok-clause-sizes c = c.in-Ok.ensures.sizes ∙ ap (λ (g : PlainGroups). sizes_of (pool_from g c.args.row.now).groups) c.requires.groups

pub returns-in-Ok-clause-fit : goal.returns-in-Ok-clause-fit
returns-in-Ok-clause-fit c =
    let got = c.in-Ok.ensures in
    searched c.args.groups.now c.args.row.now c.in-Ok.seen.items.items c.in-Ok.seen.sizes.items got.items got.sizes got.fit got.small
