use Rattle.std.proofs.Common.{◌≡◌, [], None, map, take}
use Rattle.coin_book.specs.Faults.{fault_behind}
use Rattle.coin_book.specs.History.{confirmed_before}
use Rattle.coin_book.specs.Invariant.{HoldsChain, points_in, weigher}
use Rattle.coin_book.proofs.earlier.add_all.Given as goal

abbrev pub invariant-loop-index : goal.invariant-loop-index
invariant-loop-index l = record {
  holds : HoldsChain l.watched (weigher l.weights.entries) [] (map confirmed_before (take l.index l.earlier)) l.ledger;
  fresh : fault_behind [] (points_in (weigher l.weights.entries) (map confirmed_before (take l.index l.earlier))) ≡ None;
}
