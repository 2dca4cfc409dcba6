use Rattle.request_making.proofs.DigitLaws.{front_digits}
use Rattle.request_making.proofs.reading.pointed.Goals as goal

pub valued-requires-clause-fraction_digits : goal.valued-requires-clause-fraction_digits
valued-requires-clause-fraction_digits c = rw (c.split_at.ensures.front, c.digits_len-n.ensures.count) (front_digits c.args.behind.now)
