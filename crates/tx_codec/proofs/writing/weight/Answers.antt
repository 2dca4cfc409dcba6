use Rattle.std.proofs.Common.{[], arith}
use Rattle.tx_codec.specs.Weight.{weight_of}
use Rattle.tx_codec.proofs.writing.weight.Goals as goal

pub returns : goal.returns
unfolding weight_of
returns c = omega (arith, c.saturating_mul.ensures, c.saturating_add.ensures, c.in-Ok-Ok.ensures.feeds [] c.new-bare.ensures, c.in-Ok-Ok.ensures'.feeds [] c.new-whole.ensures)
