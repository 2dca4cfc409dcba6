use Rattle.std.proofs.Common.{◌≡◌, ◌++◌, map, None}
use Rattle.std.specs.Map.{keys_of}
use Rattle.std.specs.Vec.Iter.{into_iter_items}
use Rattle.coin_book.specs.Faults.{fault_behind}
use Rattle.coin_book.specs.Merging.{entry_of, held_point}
use Rattle.coin_book.proofs.ledger.add_coins.Given as goal

abbrev pub invariant-loop-one : goal.invariant-loop-one
invariant-loop-one l = record {
  added : l.coins.entries ≡ l.initial.coins.entries ++ map entry_of l.yielded;
  whole : l.yielded ++ into_iter_items l.one-iterator ≡ l.fn.held.items;
  fresh : fault_behind (keys_of l.base.entries ++ keys_of l.initial.coins.entries) (map held_point l.yielded) ≡ None;
}
