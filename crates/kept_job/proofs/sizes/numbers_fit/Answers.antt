use Rattle.std.proofs.Common.{arith}
use Rattle.kept_job.proofs.FitLaws.{all_small}
use Rattle.kept_job.proofs.sizes.numbers_fit.Goals as goal

pub returns : goal.returns
returns c = all_small c.args.numbers.now (λ i. omega (arith, c.type_inv.numbers i))
