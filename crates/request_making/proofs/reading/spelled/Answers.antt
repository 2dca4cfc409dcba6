use Rattle.request_making.proofs.DigitLaws.{front_digits}
use Rattle.request_making.proofs.reading.spelled.Goals as goal

pub pointed-requires-clause-whole_digits : goal.pointed-requires-clause-whole_digits
pointed-requires-clause-whole_digits c = rw (c.split_at.ensures.front, c.digits_len-n.ensures.count) (front_digits c.args.text.now)

pub valued-requires-clause-whole_digits : goal.valued-requires-clause-whole_digits
valued-requires-clause-whole_digits c = rw (c.split_at.ensures.front, c.digits_len-n.ensures.count) (front_digits c.args.text.now)
