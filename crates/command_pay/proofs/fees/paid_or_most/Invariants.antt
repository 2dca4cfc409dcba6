use Rattle.std.proofs.Common.{◌≡◌, ◌-◌, ◌^◌, min, take}
use Rattle.command_pay.specs.Fees.{paid}
use Rattle.command_pay.proofs.fees.paid_or_most.Given as goal

abbrev pub invariant-loop-payment : goal.invariant-loop-payment
invariant-loop-payment l = l.total ≡ min (paid (take l.payment-index l.payments)) (2 ^ 64 - 1)
