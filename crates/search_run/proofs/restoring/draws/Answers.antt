use Rattle.std.specs.Prelude.{◌≡◌, List, [], true, if◌then◌else◌, option_to_list}
use Rattle.std.proofs.Common.{rules, ap, ◌∙◌}
use Rattle.random_draw.specs.Draw.{draw_of}
use Rattle.search_run.specs.Found.{PlainFound, found_of}
use Rattle.search_run.specs.Run.{ends}
use Rattle.search_run.specs.Step.{is_drawn}
use Rattle.search_run.proofs.ReplayLaws.{draws_fewer, draws_on}
use Rattle.search_run.proofs.restoring.draws.Goals as goal

pub drawing-smaller : goal.drawing-smaller
drawing-smaller c = draws_fewer c.args.steps.now c.drawing.at c.next-at.result c.index-steps-at.result c.as_slice.result.now c.drawing-test.true c.index-steps-at.is c.next-at.ensures.left

pub drawing-preserved : goal.drawing-preserved
drawing-preserved c =
    let x = c.index-steps-at.result in
    let d : is_drawn c.index-steps-at.result.stage ≡ true = search rules in
    let f : option_to_list c.in_ok-found.found ≡ found_of c.index-steps-at.result (draw_of c.index-steps-at.result.problem c.args.seed) = search rules in
    let fs : c.as_slice.result.now ≡ c.put.new.self.found = search rules in
    draws_on c.args.seed c.args.steps.now c.args.from c.drawing.at c.next-at.result c.args.trail.now c.drawing.trail c.put.new.self x c.in_ok-found.found c.drawing-test.true c.index-steps-at.is d f c.in_ok-put.ensures.ok c.next-at.ensures.within
    (λ y rest e. c.next-at.ensures.left y rest e ∙ ap (λ (l : List PlainFound). if ends y l then [] else rest) fs) c.drawing.invariant
