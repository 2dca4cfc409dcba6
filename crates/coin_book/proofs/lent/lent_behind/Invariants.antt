use Rattle.std.proofs.Common.{◌≡◌, [], None, List, drop, length, map, take}
use Rattle.coin_book.specs.Faults.{fault_behind}
use Rattle.coin_book.specs.History.{Confirmed, confirmed_at}
use Rattle.coin_book.specs.Invariant.{HoldsChain, points_in, weigher}
use Rattle.coin_book.proofs.lent.lent_behind.Given as goal

abbrev pub invariant-loop-index : goal.invariant-loop-index
invariant-loop-index l = record {
  left : l.txs ≡ drop l.index l.block.txs;
  so_far : (before : List Confirmed) → HoldsChain l.watched (weigher l.weights.entries) [] before l.base → l.fn.first ≡ length before → record {
    holds : HoldsChain l.watched (weigher l.weights.entries) before (map (confirmed_at l.block.height) (take l.index l.block.txs)) l.ledger;
    fresh : fault_behind (points_in (weigher l.weights.entries) before) (points_in (weigher l.weights.entries) (map (confirmed_at l.block.height) (take l.index l.block.txs))) ≡ None;
  };
}
