-- Formed groups as contracts see them.
use Rattle.std.specs.Prelude.{ℕ, Bool, List}
use Rattle.coin_candidates.specs.declared.candidate.Candidate.{Candidate}
use Rattle.output_groups.specs.PlainPool.{PlainPool}
use Rattle.output_groups.specs.PoolOf.{pool_of}
use Rattle.output_groups.specs.declared.rows.Row.{Row}

-- what groups are formed from: candidates, whether coins of one script stand together, and the rates
pub record PlainGroups : Type 0 where
  pub candidates : List Candidate
  pub group : Bool
  pub rate : ℕ
  pub long_term : ℕ

-- the pool of a row from them
abbrev pub pool_in : PlainGroups → Row → PlainPool
pool_in g row = pool_of g.group row g.rate g.long_term g.candidates
