use Rattle.std.proofs.Common.{length, subst, sym}
use Rattle.pick_problem.specs.Problem.{PlainProblem, Rising}
use Rattle.pick_problem.proofs.RisingLaws.{Rising-wider}
use Rattle.walk_engine.proofs.stack.Stack.of.Goals as goal

pub value-requires : goal.value-requires
value-requires c =
    subst (λ (x : PlainProblem). Rising (length x.items) 0 c.args.places.now) (sym c.problem-problem.ensures)
    (Rising-wider c.args.next
    (length c.args.prepared.now.items) 0 c.args.places.now c.requires.within c.requires.rising)

pub weight-requires : goal.weight-requires
weight-requires c =
    subst (λ (x : PlainProblem). Rising (length x.items) 0 c.args.places.now) (sym c.problem-problem.ensures)
    (Rising-wider c.args.next
    (length c.args.prepared.now.items) 0 c.args.places.now c.requires.within c.requires.rising)

pub cost-requires : goal.cost-requires
cost-requires c =
    subst (λ (x : PlainProblem). Rising (length x.items) 0 c.args.places.now) (sym c.problem-problem.ensures)
    (Rising-wider c.args.next
    (length c.args.prepared.now.items) 0 c.args.places.now c.requires.within c.requires.rising)
