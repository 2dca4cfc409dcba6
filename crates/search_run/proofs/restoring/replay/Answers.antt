use Rattle.std.specs.Prelude.{◌≡◌, ◌<◌, ◌∷◌, ◌++◌, List, [], length, if◌then◌else◌, option_to_list}
use Rattle.std.proofs.Common.{rules, ap, ◌∙◌}
use Rattle.closing_log.specs.Log.{PlainSection}
use Rattle.pick_problem.specs.Admissible.{IsFit}
use Rattle.search_run.specs.Found.{PlainFound, found_of}
use Rattle.search_run.specs.Kept.{IsFitAt, first_search}
use Rattle.search_run.specs.Run.{ends}
use Rattle.search_run.proofs.AlongLaws.{first_not}
use Rattle.search_run.proofs.ReplayLaws.{fits_not, replay_at, replay_on}
use Rattle.search_run.proofs.restoring.replay.Goals as goal

pub bounds-steps-at : goal.bounds-steps-at
bounds-steps-at c = replay_at c.args.seed c.args.steps.now c.args.closed.now c.args.tries c.along.i c.along.at c.along.trail c.index-closed-i.result c.along-test.true c.index-closed-i.is c.requires c.along.invariant

pub next-after-requires : goal.next-after-requires
next-after-requires c = replay_at c.args.seed c.args.steps.now c.args.closed.now c.args.tries c.along.i c.along.at c.along.trail c.index-closed-i.result c.along-test.true c.index-closed-i.is c.requires c.along.invariant

pub returns-then-not-is_fit-clause-refused : goal.returns-then-not-is_fit-clause-refused
returns-then-not-is_fit-clause-refused c =
    let below : c.along.at < length c.args.steps.now = replay_at c.args.seed c.args.steps.now c.args.closed.now c.args.tries c.along.i c.along.at c.along.trail c.index-closed-i.result c.along-test.true c.index-closed-i.is c.requires c.along.invariant in
    let unfit : IsFit c.index-steps-at.result.problem c.index-closed-i.result.answer → ⊥ = search rules in
    first_not IsFitAt c.args.seed (first_search c.args.seed c.args.steps.now) c.args.closed.now c.along.i c.index-closed-i.result c.along-test.true c.index-closed-i.is c.along.invariant.fit
    (fits_not c.args.seed c.args.steps.now c.args.closed.now c.args.tries c.along.i c.along.at c.along.trail c.index-steps-at.result c.index-closed-i.result below c.index-steps-at.is c.along.invariant unfit)

pub along-preserved : goal.along-preserved
along-preserved c =
    let below : c.along.at < length c.args.steps.now = replay_at c.args.seed c.args.steps.now c.args.closed.now c.args.tries c.along.i c.along.at c.along.trail c.index-closed-i.result c.along-test.true c.index-closed-i.is c.requires c.along.invariant in
    let fit : IsFit c.index-steps-at.result.problem c.index-closed-i.result.answer = search rules in
    let f : option_to_list c.in_ok-found.found ≡ found_of c.index-steps-at.result c.index-closed-i.result.answer = search rules in
    let same : c.in_ok-section.section ≡ c.index-closed-i.result = search rules in
    let put : c.put.new.self ≡ record { found = c.along.trail.found ++ option_to_list c.in_ok-found.found; closed = c.along.trail.closed ++ c.index-closed-i.result ∷ []; tries = c.along.trail.tries } =
    c.in_ok-put.ensures.ok ∙ ap (λ (s : PlainSection). record { found = c.along.trail.found ++ option_to_list c.in_ok-found.found; closed = c.along.trail.closed ++ s ∷ []; tries = c.along.trail.tries }) same in
    let fs : c.as_slice.result.now ≡ c.put.new.self.found = search rules in
    replay_on c.args.seed c.args.steps.now c.args.closed.now c.args.tries c.along.i c.along.at c.next-after.result c.in_ok-at-2.at c.along.trail c.put.new.self c.draws-in-along.new.trail c.index-steps-at.result c.index-closed-i.result c.in_ok-found.found c.along-test.true c.index-closed-i.is below c.index-steps-at.is c.along.invariant fit f put
    (λ y rest e. c.next-after.ensures.left y rest e ∙ ap (λ (l : List PlainFound). if ends y l then [] else rest) fs) c.in_ok-at-2.ensures
