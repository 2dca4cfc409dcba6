use Rattle.std.proofs.Common.{◌≡◌, take}
use Rattle.request_text.proofs.request.copy_recipients.Given as goal

abbrev pub invariant-loop-recipient : goal.invariant-loop-recipient
invariant-loop-recipient l = l.copies.items ≡ take l.recipient-index l.recipients
