-- The names of files, without where they lie in memory.
use Rattle.std.specs.Prelude.{ℕ, List}
use Rattle.command_end.specs.declared.names.Sources.{Sources as Lent}

-- the names of the files from which the coins are told
pub record Sources : Type 0 where
  pub wallet : List ℕ
  pub blocks : List ℕ

-- the names that are lent
abbrev pub plain_sources : Lent → Sources
plain_sources s = record { wallet = s.wallet.now; blocks = s.blocks.now }
