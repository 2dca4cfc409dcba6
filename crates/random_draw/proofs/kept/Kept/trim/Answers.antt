use Rattle.std.specs.Prelude.{◌<◌, ◌≤◌, length}
use Rattle.std.proofs.Common.{arith, sym, ◌∙◌}
use Rattle.pick_problem.specs.Problem.{weight_of}
use Rattle.random_draw.specs.KeptPlaces.{places_of}
use Rattle.random_draw.proofs.KeptLaws.{trims}
use Rattle.random_draw.proofs.Trimming.{trimmed_light}
use Rattle.random_draw.proofs.kept.Kept.trim.Goals as goal

pub loop-self-preserved : goal.loop-self-preserved
loop-self-preserved c =
    let heavy : c.args.problem.now.most_weight < weight_of c.args.problem.now (places_of c.loop-self.self) = omega (arith, c.loop-self-test.true, c.most_weight-limit.ensures, c.loop-self.invariant.kept.weight) in
    record {
      kept = c.drop_one.ensures.kept;
      same = trims c.args.problem.now (places_of c.loop-self.self) (places_of c.drop_one.new.self) c.drop_one.ensures.places c.drop_one.ensures.fewer heavy ∙ c.loop-self.invariant.same;
    }

pub returns-clause-places : goal.returns-clause-places
returns-clause-places c =
    let light : weight_of c.args.problem.now (places_of c.loop-self.self) ≤ c.args.problem.now.most_weight = omega (arith, c.loop-self-test.false, c.most_weight-limit.ensures, c.loop-self.invariant.kept.weight) in
    sym (trimmed_light c.args.problem.now (length (places_of c.loop-self.self)) (places_of c.loop-self.self) light) ∙ c.loop-self.invariant.same
