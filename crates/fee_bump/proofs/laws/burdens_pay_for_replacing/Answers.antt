use Rattle.std.proofs.Common.{arith}
use Rattle.fee_bump.proofs.SumLaws.{rate_higher, sizes_paid}
use Rattle.fee_bump.proofs.laws.burdens_pay_for_replacing.Goals as goal

pub returns-clause-enough : goal.returns-clause-enough
returns-clause-enough c = λ fees v rate. omega arith

pub returns-clause-least : goal.returns-clause-least
returns-clause-least c = λ fees v rate n lt. omega arith

pub returns-clause-sizes : goal.returns-clause-sizes
returns-clause-sizes c = λ fees v u rate le high. sizes_paid fees v u rate le high

pub returns-clause-higher : goal.returns-clause-higher
returns-clause-higher c = λ old_fee old_vsize rate v fee above some pays. rate_higher old_fee old_vsize rate v fee above some pays
