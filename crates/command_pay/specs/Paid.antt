-- What a report says of a payment, whatever the way.
use Rattle.std.specs.Prelude.{ℕ, List, Option}
use Rattle.closing_log.specs.declared.mark.Mark.{Mark}
use Rattle.closing_log.specs.declared.mark.Mark.TheVariants.{Exhausted}
use Rattle.fund_report.specs.declared.report.InLine.{InLine}
use Rattle.command_pay.specs.declared.report.PaidReport.{PaidReport}
use Rattle.command_pay.specs.declared.report.PaidReport.TheVariants.{Whole, Shared}

-- what its choice claims; `share` reports a payment where its searches came to their end
abbrev pub mark_in : PaidReport → Mark
mark_in (Whole f) = f.mark
mark_in (Shared f) = Exhausted

-- all tries
abbrev pub tries_in : PaidReport → ℕ
tries_in (Whole f) = f.tries
tries_in (Shared f) = f.tries

-- the coins that it spends, in order
abbrev pub coins_in : PaidReport → List InLine
coins_in (Whole f) = f.coins
coins_in (Shared f) = f.coins

-- its declared weight, in weight units
abbrev pub weight_in : PaidReport → ℕ
weight_in (Whole f) = f.weight
weight_in (Shared f) = f.weight

-- its size, in virtual bytes
abbrev pub vsize_in : PaidReport → ℕ
vsize_in (Whole f) = f.vsize
vsize_in (Shared f) = f.vsize

-- its fee, in satoshi
abbrev pub fee_in : PaidReport → ℕ
fee_in (Whole f) = f.fee
fee_in (Shared f) = f.fee

-- its change, if there is any
abbrev pub change_in : PaidReport → Option ℕ
change_in (Whole f) = f.change
change_in (Shared f) = f.change

-- what a signer gets
abbrev pub psbt_in : PaidReport → List ℕ
psbt_in (Whole f) = f.text
psbt_in (Shared f) = f.psbt
