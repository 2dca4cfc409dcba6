use Rattle.std.proofs.Common.{List, [], ℕ, ap, arith, length}
use Rattle.fund_base.specs.CompactSize.{prefixed}
use Rattle.settle_check.proofs.weights.script_size.Goals as goal

pub returns : goal.returns
returns c = omega (arith, c.get.ensures, c.in-Ok.ensures.feeds [] c.new-size.ensures, ap (λ (b : List ℕ). length (prefixed b)) c.bytes.ensures)
