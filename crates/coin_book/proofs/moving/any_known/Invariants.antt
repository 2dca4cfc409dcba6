use Rattle.std.proofs.Common.{◌≡◌, List, ℕ}
use Rattle.std.specs.Prelude.{bytes_eq}
use Rattle.std.specs.List.{list_any}
use Rattle.coin_book.specs.Merging.{shares}
use Rattle.coin_book.proofs.moving.any_known.Given as goal

abbrev pub invariant-loop-txid : goal.invariant-loop-txid
invariant-loop-txid l = list_any (λ (t : List ℕ). list_any (bytes_eq t) l.txids.keys) l.txid-iterator ≡ shares l.txids.keys l.heights.entries
