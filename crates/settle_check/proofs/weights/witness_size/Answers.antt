use Rattle.std.proofs.Common.{List, [], ℕ, ap, arith, length}
use Rattle.fund_base.specs.CompactSize.{counted, prefixed}
use Rattle.tx_codec.specs.TransactionText.{stack_text}
use Rattle.settle_check.proofs.weights.witness_size.Goals as goal

pub returns : goal.returns
unfolding stack_text
returns c = omega (arith, c.get.ensures, c.in-Ok.ensures.feeds [] c.new-size.ensures, ap (λ (s : List (List ℕ)). length (counted prefixed s)) c.as_slice.ensures)
