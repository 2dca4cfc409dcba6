-- A payment of all coins as a table of lines.
use Rattle.std.specs.Prelude.{ℕ, List, [], ◌∷◌, ◌++◌}
use Rattle.std.specs.List.{flat_map}
use Rattle.amount_reports.specs.SweptText.{PlainSwept}
use Rattle.request_making.specs.declared.payment.Payment.{Payment}
use Rattle.command_pay.specs.Lines.{fee_line}
use Rattle.command_pay.specs.Table.{gets_line, spends_line}

-- the line of what the first of the recipients gets
abbrev pub gets_text : List Payment → (amount : ℕ) → List ℕ
gets_text [] amount = []
gets_text (p ∷ others) amount = gets_line p.to amount

-- The whole: a line of what the recipient gets, a line for each coin, and that of the fee.
unfoldable pub sweep_table : List Payment → PlainSwept → List ℕ
sweep_table payments r = gets_text payments r.amount ++ (flat_map spends_line r.coins ++ fee_line r.fee r.vsize)
