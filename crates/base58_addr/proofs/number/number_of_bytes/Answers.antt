use Rattle.std.proofs.Common.{arith}
use Rattle.std.proofs.lemmas.Int.Digits.{number_more}
use Rattle.base58_addr.specs.Rebasing.{joined}
use Rattle.base58_addr.proofs.Numbers.{bytes_bound, high_bound}
use Rattle.base58_addr.proofs.number.number_of_bytes.Goals as goal

pub with_digit-number-requires-clause-high : goal.with_digit-number-requires-clause-high
with_digit-number-requires-clause-high c =
    high_bound c.loop-byte.number.high c.loop-byte.number.low c.loop-byte.byte-index c.loop-byte.invariant.bound (omega arith)

pub loop-byte-preserved : goal.loop-byte-preserved
loop-byte-preserved c =
    let more = number_more 256 c.args.bytes.now c.loop-byte.byte-index (omega arith) in
    record {
      value = omega (arith, more, c.with_digit-number.ensures.value, c.loop-byte.invariant.value);
      bound = bytes_bound (joined c.loop-byte.number.high c.loop-byte.number.low) _ c.loop-byte.byte-index c.loop-byte.invariant.bound c.with_digit-number.ensures.most;
      low = c.with_digit-number.ensures.low;
    }

pub returns-clause-high : goal.returns-clause-high
returns-clause-high c =
    high_bound c.loop-byte.number.high c.loop-byte.number.low c.loop-byte.byte-index c.loop-byte.invariant.bound (omega arith)
