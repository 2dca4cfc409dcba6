use Rattle.std.proofs.Common.{◌≡◌, take, min}
use Rattle.std.specs.Prelude.{sum_by}
use Rattle.fee_rates.specs.Output.{output_size_of}
use Rattle.request_text.specs.declared.request.Recipient.{Recipient}
use Rattle.request_text.proofs.outputs.outputs_size.Given as goal

abbrev pub invariant-loop-recipient : goal.invariant-loop-recipient
invariant-loop-recipient l = l.size ≡ min (sum_by (λ (q : Recipient). output_size_of q.script) (take l.recipient-index l.recipients)) 1_000_000_000
