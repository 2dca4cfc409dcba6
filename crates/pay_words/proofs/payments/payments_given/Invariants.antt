use Rattle.std.proofs.Common.{◌≡◌, drop, map, []}
use Rattle.pay_words.specs.Payments.{payments_from, plain_payment}
use Rattle.pay_words.proofs.payments.payments_given.Given as goal

abbrev pub invariant-loop-one : goal.invariant-loop-one
invariant-loop-one l = payments_from l.words (map plain_payment l.payments.items) (drop l.one-index l.given) ≡ payments_from l.words [] l.given
