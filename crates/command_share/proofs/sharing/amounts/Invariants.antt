use Rattle.std.proofs.Common.{◌≡◌, map, take}
use Rattle.request_text.specs.declared.request.Recipient.{Recipient}
use Rattle.command_share.proofs.sharing.amounts.Given as goal

abbrev pub invariant-loop-recipient : goal.invariant-loop-recipient
invariant-loop-recipient l = l.amounts.items ≡ map (λ (q : Recipient). q.amount) (take l.recipient-index l.recipients)
