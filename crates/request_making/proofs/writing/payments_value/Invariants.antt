use Rattle.std.proofs.Common.{◌≡◌, ◌<◌, ℕ, get_or, map, take}
use Rattle.serde_json.specs.View.{view}
use Rattle.request_making.specs.Asked.{HasBytes}
use Rattle.request_making.specs.Written.{payment_data}
use Rattle.request_making.specs.declared.payment.Payment.{Payment}
use Rattle.request_making.proofs.writing.payments_value.Given as goal

abbrev pub invariant-loop-payment : goal.invariant-loop-payment
invariant-loop-payment l = record {
  made : map view l.list.items ≡ map payment_data (take l.payment-index l.payments);
  bytes : (k : ℕ) (d : Payment) → k < l.payment-index → HasBytes (get_or l.payments k d);
}
