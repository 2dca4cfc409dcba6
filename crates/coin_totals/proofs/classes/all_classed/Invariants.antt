use Rattle.std.proofs.Common.{◌≡◌, map, take}
use Rattle.indexmap.specs.IndexSet.{contains}
use Rattle.fund_base.specs.Outpoints.{same_outpoint}
use Rattle.coin_book.specs.Coins.{coins_of}
use Rattle.coin_totals.specs.ByPlace.{classed_by}
use Rattle.coin_totals.proofs.classes.all_classed.Given as goal

abbrev pub invariant-loop-number : goal.invariant-loop-number
invariant-loop-number l =
    l.all.items ≡ map (classed_by l.book l.tip l.facts.pending.items l.facts.safe.items (contains same_outpoint l.claimed) (contains same_outpoint l.locked) l.states) (take l.number (coins_of l.book))
