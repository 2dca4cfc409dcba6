-- What is missing of the fee of a transaction at a rate.
use Rattle.std.specs.Prelude.{ℕ, ◌-◌, Bool, List, is_some, min, if◌then◌else◌}
use Rattle.std.specs.List.{list_all}
use Rattle.tx_codec.specs.Transaction.{Transaction}
use Rattle.tx_codec.specs.Weight.{weight_of}
use Rattle.tx_codec.specs.declared.tx.TxIn.{TxIn}
use Rattle.fee_rates.specs.Fee.{fee_of, vsize_of}
use Rattle.coin_book.specs.History.{History}
use Rattle.known_fees.specs.Worth.{paid_by, worth_of}

-- what a transaction pays is known: each of its inputs spends a coin, or an output of one of these transactions
unfoldable pub is_known : History → List Transaction → Transaction → Bool
is_known h ts t = list_all (λ (i : TxIn). is_some (worth_of h ts i.prev)) t.inputs

-- the virtual size that a transaction is charged for: its own, at most 10,000,000,000 virtual bytes
abbrev pub size_of : Transaction → ℕ
size_of t = min (vsize_of (weight_of t)) 10_000_000_000

-- what raises what a transaction pays to the fee of its size at a rate, in satoshi
abbrev pub lack_of : (rate : ℕ) → History → List Transaction → Transaction → ℕ
lack_of rate h ts t = fee_of rate (size_of t) - paid_by h ts t

-- the same where what it pays is known; 0 where it isn't
unfoldable pub missing_of : (rate : ℕ) → History → List Transaction → Transaction → ℕ
missing_of rate h ts t = if is_known h ts t then lack_of rate h ts t else 0
