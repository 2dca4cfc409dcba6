-- A transaction without where it lies in memory.
use Rattle.std.specs.Prelude.{ℕ, Bool, List}
use Rattle.tx_codec.specs.declared.tx.TxIn.{TxIn}
use Rattle.tx_codec.specs.declared.tx.TxOut.{TxOut}

pub record Transaction : Type 0 where
  pub version : ℕ
  pub inputs : List TxIn
  pub outputs : List TxOut
  pub locktime : ℕ
  pub segwit : Bool
