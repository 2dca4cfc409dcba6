-- Groups as coins form them, before a row is asked.
use Rattle.std.specs.Prelude.{Bool, List}
use Rattle.coin_candidates.specs.declared.candidate.Candidate.{Candidate}

-- a group, and whether it is partial: one of fewer than 100 coins, whose script has a full group
pub record Part : Type 0 where
  pub coins : List Candidate
  pub partial : Bool
