use Rattle.std.proofs.Common.{◌≡◌, ◌++◌, map, take, string_bytes}
use Rattle.command_end.specs.LinesText.{lines_text}
use Rattle.command_coins.specs.Listing.{payment_line}
use Rattle.command_coins.proofs.text.put_payments.Given as goal

abbrev pub invariant-loop-payment : goal.invariant-loop-payment
invariant-loop-payment l = string_bytes l.text ≡ string_bytes l.initial.text ++ lines_text (map payment_line (take l.payment-index l.payments))
