use Rattle.std.proofs.Common.{◌≡◌}
use Rattle.std.specs.List.{list_any}
use Rattle.tx_codec.specs.Views.{points_of}
use Rattle.coin_book.specs.Watched.{watches}
use Rattle.coin_book.proofs.lent.spends_watched.Given as goal

abbrev pub invariant-loop-point : goal.invariant-loop-point
invariant-loop-point l = list_any (watches l.watched) l.point-iterator ≡ list_any (watches l.watched) (points_of l.tx)
