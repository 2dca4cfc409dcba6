use Rattle.std.proofs.Common.{◌≡◌, take}
use Rattle.wallet_text.specs.WalletText.{txids_of}
use Rattle.wallet_text.proofs.lists.pending_txids.Given as goal

abbrev pub invariant-loop-tx : goal.invariant-loop-tx
invariant-loop-tx l = l.txids.items ≡ txids_of (take l.tx-index l.pending)
