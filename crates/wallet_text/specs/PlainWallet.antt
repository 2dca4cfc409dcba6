-- What the wallet file tells, without where it lies in memory.
use Rattle.std.specs.Prelude.{ℕ, List}
use Rattle.fund_base.specs.declared.outpoint.OutPoint.{OutPoint}
use Rattle.tx_codec.specs.Transaction.{Transaction}
use Rattle.wallet_text.specs.declared.wallet.Watch.{Watch}

-- a transaction that the chain holds before the block file begins, and the height at which it stands
pub record Earlier : Type 0 where
  pub tx : Transaction
  pub height : ℕ

pub record PlainWallet : Type 0 where
  pub height : ℕ
  pub hash : List ℕ
  pub scripts : List Watch
  pub change : Watch
  pub earlier : List Earlier
  pub pending : List Transaction
  pub abandoned : List (List ℕ)
  pub locked : List OutPoint
