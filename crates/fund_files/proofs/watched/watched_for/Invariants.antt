use Rattle.std.proofs.Common.{take}
use Rattle.std.specs.Prelude.{All}
use Rattle.coin_book.specs.Watched.{IsWatched}
use Rattle.fund_files.proofs.WatchedLaws.{sets}
use Rattle.fund_files.proofs.watched.watched_for.Given as goal

abbrev pub invariant-loop-tx : goal.invariant-loop-tx
invariant-loop-tx l = All (IsWatched (sets l.points.keys l.txids.keys)) (take l.tx-index l.pending)
