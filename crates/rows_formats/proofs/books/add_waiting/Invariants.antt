use Rattle.std.proofs.Common.{◌≡◌, take}
use Rattle.rows_formats.proofs.books.add_waiting.Given as goal

abbrev pub invariant-loop-tx : goal.invariant-loop-tx
invariant-loop-tx l = l.book.pending ≡ take l.tx-index l.wallet.pending
