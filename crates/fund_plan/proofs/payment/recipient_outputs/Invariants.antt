use Rattle.std.proofs.Common.{◌≡◌, map, take}
use Rattle.std.specs.Prelude.{All}
use Rattle.tx_codec.specs.TransactionText.{OutputFits}
use Rattle.fund_plan.specs.Pays.{recipient_output}
use Rattle.fund_plan.proofs.payment.recipient_outputs.Given as goal

abbrev pub invariant-loop-recipient : goal.invariant-loop-recipient
invariant-loop-recipient l = record {
  made : l.outputs.items ≡ map recipient_output (take l.recipient-index l.recipients);
  fit : All OutputFits l.outputs.items;
}
