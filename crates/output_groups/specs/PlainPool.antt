-- Pools as contracts see them.
use Rattle.std.specs.Prelude.{List}
use Rattle.coin_candidates.specs.declared.candidate.Candidate.{Candidate}
use Rattle.pick_problem.specs.declared.item.Item.{Item}

-- the groups of a pool as lists of coins, and beside them what a search sees of each
pub record PlainPool : Type 0 where
  pub items : List Item
  pub groups : List (List Candidate)
