use Rattle.fund_base.proofs.Repeat.{SoFar}
use Rattle.tx_codec.specs.Reading.{input_at}
use Rattle.tx_codec.proofs.Counts.{FirstInput}
use Rattle.tx_codec.proofs.reading.inputs_of.Given as goal

abbrev pub invariant-loop : goal.invariant-loop
invariant-loop l = record { so_far : SoFar (λ _. input_at) l.count l.fn.cursor l.inputs.items l.counter l.cursor; first : FirstInput l.fn.cursor l.counter l.cursor }
