-- The greatest fee that is taken of a payment of all coins.
use Rattle.std.specs.Prelude.{ℕ, ◌/◌, min, Option, Some, None}
use Rattle.amount_reports.specs.SweptText.{PlainSwept}
use Rattle.pay_words.specs.declared.asked.Asked.{Asked}

-- The one that is given, or else the less of 0.01 bitcoin and a tenth of what the recipient gets.
abbrev pub greatest_fee : Option ℕ → (amount : ℕ) → ℕ
greatest_fee (Some most) amount = most
greatest_fee None amount = min 1_000_000 (amount / 10)

-- that of a payment
abbrev pub greatest_of : Asked → PlainSwept → ℕ
greatest_of a r = greatest_fee a.max_fee r.amount
