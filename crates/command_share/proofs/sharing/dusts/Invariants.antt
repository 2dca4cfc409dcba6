use Rattle.std.proofs.Common.{◌≡◌, ◌≤◌, ℕ, map, take}
use Rattle.std.specs.Prelude.{All}
use Rattle.fee_rates.specs.Output.{dust_of}
use Rattle.request_text.specs.declared.request.Recipient.{Recipient}
use Rattle.command_share.proofs.sharing.dusts.Given as goal

abbrev pub invariant-loop-recipient : goal.invariant-loop-recipient
invariant-loop-recipient l = record {
  are : l.dusts.items ≡ map (λ (q : Recipient). dust_of q.script) (take l.recipient-index l.recipients);
  small : All (λ (n : ℕ). n ≤ 1_000_000) l.dusts.items;
}
