-- Why a number and a count make no wallet.
use Rattle.std.specs.Prelude.{ℕ}
use Rattle.wallet_text.specs.Repeats.{IsRepeat}
use Rattle.wallet_text.specs.declared.fault.WalletFault.{WalletFault}
use Rattle.command_work.specs.Load.{earlier_of}

-- Two of the transactions have one txid, which is the double SHA-256 of distinct texts; or memory ran out.
abbrev pub IsRefused : ℕ → ℕ → WalletFault → Type 0
IsRefused number count fault = IsRepeat (earlier_of number count) fault
