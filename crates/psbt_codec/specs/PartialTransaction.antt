-- A partially signed transaction without where it lies in memory.
use Rattle.std.specs.Prelude.{List}
use Rattle.tx_codec.specs.Transaction.{Transaction}
use Rattle.psbt_codec.specs.declared.psbt.Spent.{Spent}

pub record PartialTransaction : Type 0 where
  pub tx : Transaction
  pub spent : List Spent
