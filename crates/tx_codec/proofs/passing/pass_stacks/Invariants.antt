use Rattle.std.proofs.Common.{◌≡◌, List, length}
use Rattle.tx_codec.specs.declared.tx.TxIn.{TxIn}
use Rattle.tx_codec.proofs.PassSteps.{WitnessesSoFar}
use Rattle.tx_codec.proofs.passing.pass_stacks.Given as goal

abbrev pub invariant-loop : goal.invariant-loop
invariant-loop l = (inputs : List TxIn) → length inputs ≡ l.count → WitnessesSoFar inputs l.fn.cursor l.some l.counter l.cursor
