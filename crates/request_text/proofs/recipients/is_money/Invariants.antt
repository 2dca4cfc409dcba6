use Rattle.std.proofs.Common.{◌≡◌, ◌+◌, take}
use Rattle.request_text.specs.PlainRequest.{paid_to}
use Rattle.request_text.proofs.recipients.is_money.Given as goal

abbrev pub invariant-loop-recipient : goal.invariant-loop-recipient
invariant-loop-recipient l = l.left + paid_to (take l.recipient-index l.recipients) ≡ 2_100_000_000_000_000
