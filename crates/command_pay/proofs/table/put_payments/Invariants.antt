use Rattle.std.proofs.Common.{◌≡◌, ◌++◌, take, string_bytes}
use Rattle.std.specs.List.{flat_map}
use Rattle.command_pay.specs.Table.{pays_line}
use Rattle.command_pay.proofs.table.put_payments.Given as goal

abbrev pub invariant-loop-payment : goal.invariant-loop-payment
invariant-loop-payment l = string_bytes l.text ≡ string_bytes l.initial.text ++ flat_map pays_line (take l.payment-index l.payments)
