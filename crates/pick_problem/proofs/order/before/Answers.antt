use Rattle.std.specs.Prelude.{◌↔◌, IsTrue, Bool}
use Rattle.std.proofs.Common.{subst, sym}
use Rattle.pick_problem.specs.Best.{ComesBefore}
use Rattle.pick_problem.proofs.OrderLaws.{before_means}
use Rattle.pick_problem.proofs.order.before.Goals as goal

pub returns-clause-first : goal.returns-clause-first
returns-clause-first c = λ n ra rb.
    subst (λ (v : Bool). IsTrue v ↔ ComesBefore c.args.a.now c.args.b.now) (sym c.compare.ensures) (before_means n c.args.a.now c.args.b.now ra rb)
