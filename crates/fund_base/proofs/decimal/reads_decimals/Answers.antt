use Rattle.std.proofs.Common.{refl}
use Rattle.std.specs.Fmt.{decimal}
use Rattle.fund_base.proofs.Decimals.{found, only}
use Rattle.fund_base.proofs.decimal.reads_decimals.Goals as goal

pub returns-clause-found : goal.returns-clause-found
returns-clause-found c = found

pub returns-clause-only : goal.returns-clause-only
returns-clause-only c = λ most n small le. only most n (decimal n) small le refl
