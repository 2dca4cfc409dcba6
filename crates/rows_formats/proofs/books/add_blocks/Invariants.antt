use Rattle.std.proofs.Common.{◌≡◌}
use Rattle.rows_formats.proofs.books.add_blocks.Given as goal

abbrev pub invariant-loop-added : goal.invariant-loop-added
invariant-loop-added l = record {
  pending : l.book.pending ≡ l.initial.book.pending;
}
