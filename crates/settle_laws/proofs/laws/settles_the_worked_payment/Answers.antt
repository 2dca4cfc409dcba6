use Rattle.settle_laws.proofs.WorkedLaws.{heavier73, settles71, settles72, true71, true72, unsigned0, vsize437, vsize438, weight71, weight72}
use Rattle.settle_laws.proofs.laws.settles_the_worked_payment.Goals as goal

pub returns : goal.returns
returns c = record {
  lighter = settles71;
  lighter_weighs = (weight71, vsize437, true71);
  as_declared = settles72;
  as_declared_weighs = (weight72, vsize438, true72);
  heavier = heavier73;
  bare = unsigned0;
}
