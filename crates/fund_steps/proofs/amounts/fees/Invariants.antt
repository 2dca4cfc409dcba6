use Rattle.std.proofs.Common.{◌≡◌, ◌≤◌, ◌*◌, take}
use Rattle.fund_steps.specs.Amounts.{fees_of}
use Rattle.fund_steps.proofs.amounts.fees.Given as goal

abbrev pub invariant-loop-coin : goal.invariant-loop-coin
invariant-loop-coin l = record {
  sum : l.fees ≡ fees_of l.rate (take l.coin-index l.coins);
  most : l.fees ≤ 10_000_000_000 * l.coin-index;
}
