-- The digests of the files that were read.
use Rattle.std.specs.Prelude.{ℕ, ◌≡◌, List}
use Rattle.sha2.specs.Sha256.{sha256}
use Rattle.fund_files.specs.declared.digests.ChainDigests.{ChainDigests}

-- the SHA-256 of a wallet file and of a block file
pub record AreDigests (wallet_file block_file : List ℕ) (digests : ChainDigests) : Type 0 where
  pub wallet : digests.wallet ≡ sha256 wallet_file
  pub blocks : digests.blocks ≡ sha256 block_file
