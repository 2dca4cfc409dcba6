-- The names of the files by which a signed transaction is judged, without where they lie in memory.
use Rattle.std.specs.Prelude.{ℕ, List}
use Rattle.command_settle.specs.declared.names.SettleNames.{SettleNames}
use Rattle.command_settle.specs.declared.stop.SettleFile.{SettleFile}
use Rattle.command_settle.specs.declared.stop.SettleFile.TheVariants.{Wallet, Request, Report, Tx}

pub record Names : Type 0 where
  pub wallet : List ℕ
  pub request : List ℕ
  pub report : List ℕ
  pub tx : List ℕ

-- the names that are lent
abbrev pub plain_names : SettleNames → Names
plain_names n = record { wallet = n.wallet.now; request = n.request.now; report = n.report.now; tx = n.tx.now }

-- the name of a file
abbrev pub name_of : Names → SettleFile → List ℕ
name_of n Wallet = n.wallet
name_of n Request = n.request
name_of n Report = n.report
name_of n Tx = n.tx
