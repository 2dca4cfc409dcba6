use Rattle.std.proofs.Common.{◌+◌, arith}
use Rattle.base58_addr.proofs.Numbers.{letters_more, letters_rise, too_large}
use Rattle.base58_addr.proofs.number.number_of_letters.Goals as goal

pub returns-then-next-clause-none : goal.returns-then-next-clause-none
returns-then-next-clause-none c =
    λ _.
    let more = letters_more c.args.text.now c.loop-c.c-index (omega arith) in
    let rise = letters_rise c.args.text.now (c.loop-c.c-index + 1) in
    let large = too_large c.with_digit-next.result.high c.with_digit-next.result.low c.if-next.true in
    omega (arith, more, rise, large, c.value.ensures, c.with_digit-next.ensures.value, c.loop-c.invariant.value)
