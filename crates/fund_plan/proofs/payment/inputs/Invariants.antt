use Rattle.std.proofs.Common.{◌≡◌, map, take}
use Rattle.std.specs.Prelude.{All}
use Rattle.tx_codec.specs.TransactionText.{InputFits}
use Rattle.fund_plan.specs.Pays.{unsigned_input}
use Rattle.fund_plan.proofs.payment.inputs.Given as goal

abbrev pub invariant-loop-coin : goal.invariant-loop-coin
invariant-loop-coin l = record {
  made : l.inputs.items ≡ map (unsigned_input l.replaceable) (take l.coin-index l.coins);
  fit : All InputFits l.inputs.items;
}
