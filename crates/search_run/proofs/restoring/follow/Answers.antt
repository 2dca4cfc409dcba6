use Rattle.std.specs.Prelude.{◌≡◌, drop, is_some, take}
use Rattle.std.proofs.Common.{rules}
use Rattle.search_run.specs.Kept.{IsDueAt, NamesFirst, comes_to, first_search}
use Rattle.search_run.proofs.FollowLaws.{along_on, due_at}
use Rattle.search_run.proofs.restoring.follow.Goals as goal

pub along-preserved : goal.along-preserved
along-preserved c =
    let s = c.index-closed-i.result in
    let at = comes_to c.args.seed (first_search c.args.seed c.args.steps.now) (take c.along.i c.args.closed.now) in
    let named : NamesFirst (drop c.along.now.at c.args.steps.now) c.index-closed-i.result.row c.index-closed-i.result.stage c.index-closed-i.result.digest = search rules in
    let some : is_some c.index-closed-i.result.answer ≡ c.is_some.result = search rules in
    along_on IsDueAt c.args.seed c.args.steps.now c.args.closed.now c.along.i c.along.now c.in_ok-now-2.now s c.along-test.true c.index-closed-i.is c.along.invariant (due_at c.args.steps.now c.along.now at s c.along.invariant.comes named) (c.in_ok-now-2.ensures at s.answer c.along.invariant.comes some)
