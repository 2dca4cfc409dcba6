use Rattle.std.proofs.Common.{◌≡◌, take, string_bytes}
use Rattle.std.specs.List.{flat_map}
use Rattle.people_advice.specs.Scripts.{payment_warning}
use Rattle.people_advice.proofs.scripts.warnings_text.Given as goal

abbrev pub invariant-loop-payment : goal.invariant-loop-payment
invariant-loop-payment l = string_bytes l.text ≡ flat_map payment_warning (take l.payment-index l.payments)
