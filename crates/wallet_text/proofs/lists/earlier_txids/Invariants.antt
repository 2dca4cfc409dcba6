use Rattle.std.proofs.Common.{◌≡◌, take}
use Rattle.wallet_text.specs.WalletText.{earlier_txids}
use Rattle.wallet_text.proofs.lists.earlier_txids.Given as goal

abbrev pub invariant-loop-entry : goal.invariant-loop-entry
invariant-loop-entry l = l.txids.items ≡ earlier_txids (take l.entry-index l.earlier)
