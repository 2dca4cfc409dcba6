use Rattle.std.proofs.Common.{◌≡◌, ℕ, List, take}
use Rattle.coin_book.specs.Coins.{weight_for}
use Rattle.coin_book.specs.Invariant.{weigher}
use Rattle.coin_book.proofs.earlier.add_weights.Given as goal

abbrev pub invariant-loop-watch : goal.invariant-loop-watch
invariant-loop-watch l = (script : List ℕ) → weigher l.weights.entries script ≡ weight_for (take l.watch-index l.scripts) script
