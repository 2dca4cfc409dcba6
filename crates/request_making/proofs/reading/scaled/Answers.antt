use Rattle.std.proofs.Common.{◌*◌, ◌-◌, ◌^◌, length, lit<}
use Rattle.std.specs.Str.Parse.{digits_value}
use Rattle.std.proofs.Math.Nat.{one-le-pow}
use Rattle.request_making.proofs.Scaled.{ten_pow, whole_small, part_small}
use Rattle.request_making.proofs.reading.scaled.Goals as goal

pub returns-in_err-number_of : goal.returns-in_err-number_of
returns-in_err-number_of c =
    rw c.from_residual.ensures (λ small. c.in_err-number_of.ensures
    (whole_small (digits_value 10 c.args.whole.now) (10 ^ c.args.places) (digits_value 10 c.args.fraction.now * 10 ^ (c.args.places - length c.args.fraction.now)) (ten_pow c.args.places c.requires.few).0 small))

pub returns-in_err-number_of-2 : goal.returns-in_err-number_of-2
returns-in_err-number_of-2 c =
    rw c.from_residual-in_err-number_of-2.ensures (λ small. c.in_err-number_of-2.ensures
    (part_small (digits_value 10 c.args.whole.now * 10 ^ c.args.places) (digits_value 10 c.args.fraction.now) (10 ^ (c.args.places - length c.args.fraction.now)) (one-le-pow (c.args.places - length c.args.fraction.now) 10 (lit< tt)) small))
