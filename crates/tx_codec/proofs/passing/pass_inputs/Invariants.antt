use Rattle.tx_codec.specs.Reading.{input_at}
use Rattle.tx_codec.proofs.PassSteps.{ManySoFar}
use Rattle.tx_codec.proofs.passing.pass_inputs.Given as goal

abbrev pub invariant-loop : goal.invariant-loop
invariant-loop l = ManySoFar (λ _. input_at) l.count l.fn.cursor l.counter l.cursor
