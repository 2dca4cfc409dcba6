use Rattle.std.proofs.Common.{◌≡◌, rules, true, is_some}
use Rattle.random_draw.specs.Draw.{draw_of}
use Rattle.search_run.specs.Step.{is_drawn}
use Rattle.search_run.proofs.ComingLaws.{way_on}
use Rattle.search_run.proofs.next_search.past_draws.Goals as goal

pub drawing-preserved-in_ok-places : goal.drawing-preserved-in_ok-places
drawing-preserved-in_ok-places c =
    let x = c.index-steps-now.result in
    let d : is_drawn c.index-steps-now.result.stage ≡ true = search rules in
    let some : c.is_some.result ≡ is_some (draw_of c.index-steps-now.result.problem c.args.seed) = search rules in
    way_on c.args.seed c.args.steps.now c.args.from c.drawing.now c.after_step-now.result x c.is_some.result c.drawing-test.true c.index-steps-now.is d some c.after_step-now.ensures c.drawing.invariant

pub drawing-preserved : goal.drawing-preserved
drawing-preserved c =
    let x = c.index-steps-now.result in
    let d : is_drawn c.index-steps-now.result.stage ≡ true = search rules in
    let some : c.is_some.result ≡ is_some (draw_of c.index-steps-now.result.problem c.args.seed) = search rules in
    way_on c.args.seed c.args.steps.now c.args.from c.drawing.now c.after_step-now.result x c.is_some.result c.drawing-test.true c.index-steps-now.is d some c.after_step-now.ensures c.drawing.invariant
