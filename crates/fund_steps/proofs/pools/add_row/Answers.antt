use Rattle.std.proofs.Common.{List, ◌++◌, ◌∙◌, ap}
use Rattle.search_run.specs.Step.{PlainStep}
use Rattle.fund_steps.proofs.MakingLaws.{searched, steps_seen}
use Rattle.fund_steps.proofs.pools.add_row.Goals as goal

pub add_steps-requires-clause-seen : goal.add_steps-requires-clause-seen
add_steps-requires-clause-seen c =
    let got = c.in-Ok.ensures in
    searched c.args.groups.now c.args.row.now c.in-Ok.seen.items.items c.in-Ok.seen.sizes.items got.items got.sizes got.fit got.small

pub returns-in_ok-add_steps-in-Ok-clause-steps : goal.returns-in_ok-add_steps-in-Ok-clause-steps
returns-in_ok-add_steps-in-Ok-clause-steps c = λ none.
    let a = c.args in
    let got = c.in-Ok.ensures in
    c.in_ok-add_steps-in-Ok.ensures.steps
    ∙ ap (λ (l : List PlainStep). a.steps.now.items ++ l) (steps_seen a.rates.now a.load.now a.turns.now a.groups.now a.row.now c.in-Ok.seen.items.items c.in-Ok.seen.sizes.items got.items got.sizes)
