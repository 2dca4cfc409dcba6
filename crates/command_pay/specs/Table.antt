-- A payment as a table of lines.
use Rattle.std.specs.Prelude.{ℕ, List, [], ◌∷◌, ◌++◌, codes, string_bytes}
use Rattle.std.specs.List.{flat_map}
use Rattle.hex.specs.Hex.{encode_lower}
use Rattle.command_end.specs.Coin.{coin_text}
use Rattle.command_end.specs.Name.{shown_name}
use Rattle.fund_report.specs.declared.report.InLine.{InLine}
use Rattle.request_making.specs.declared.payment.Payee.{Payee}
use Rattle.request_making.specs.declared.payment.Payee.TheVariants as payees
use Rattle.request_making.specs.declared.payment.Payment.{Payment}
use Rattle.pay_words.specs.declared.asked.Asked.{Asked}
use Rattle.pay_words.specs.declared.way.Way.{Way}
use Rattle.command_pay.specs.Lines.{change_line, fee_line, mark_line, money_text}
use Rattle.command_pay.specs.Paid.{change_in, coins_in, fee_in, mark_in, vsize_in}
use Rattle.command_pay.specs.Saving.{saving_text}
use Rattle.command_pay.specs.declared.report.PaidReport.{PaidReport}
use Rattle.command_pay.specs.declared.report.PaidReport.TheVariants.{Whole, Shared}

-- to whom is paid: the address, or the script in hex
abbrev pub payee_text : Payee → List ℕ
payee_text (payees.Address text) = shown_name (string_bytes text)
payee_text (payees.Script script) = encode_lower script

-- the line of a recipient and what it gets
unfoldable pub gets_line : Payee → (amount : ℕ) → List ℕ
gets_line to amount = codes "pays    " ++ (money_text amount ++ (codes "  " ++ (payee_text to ++ codes "\n")))

-- the line of a recipient that gets what is asked for
abbrev pub pays_line : Payment → List ℕ
pays_line p = gets_line p.to p.amount

-- those of recipients that get other amounts, in their order
abbrev pub shares_text : List Payment → (amounts : List ℕ) → List ℕ
shares_text [] amounts = []
shares_text (p ∷ payments) [] = []
shares_text (p ∷ payments) (n ∷ amounts) = gets_line p.to n ++ shares_text payments amounts

-- the line of a coin that is spent
unfoldable pub spends_line : InLine → List ℕ
spends_line l = codes "spends  " ++ (money_text l.value ++ (codes "  " ++ (coin_text l.coin ++ codes "\n")))

-- those of the recipients of a payment, each with what it gets
abbrev pub pays_text : List Payment → PaidReport → List ℕ
pays_text payments (Whole f) = flat_map pays_line payments
pays_text payments (Shared f) = shares_text payments f.amounts

-- what a payment by `wide` saves; nothing of another
abbrev pub saving_in : Way → (long_term : ℕ) → PaidReport → List ℕ
saving_in way long_term (Whole f) = saving_text way long_term f.waste
saving_in way long_term (Shared f) = []

-- the lines of what it comes to
unfoldable pub figures_text : Way → (long_term : ℕ) → PaidReport → List ℕ
figures_text way long_term f = fee_line (fee_in f) (vsize_in f) ++ (change_line (change_in f) ++ (mark_line way (mark_in f) ++ saving_in way long_term f))

-- The whole: a line for each recipient with what it gets, a line for each coin, and those of the fee, of the change and of the mark;
-- and for a payment by `wide` a line of what it saves.
unfoldable pub table_text : Asked → PaidReport → List ℕ
table_text a f = pays_text a.payments.items f ++ (flat_map spends_line (coins_in f) ++ figures_text a.way a.settings.long_term f)
