-- What a payment without change saves by spending its coins now.
use Rattle.std.specs.Prelude.{ℕ, ℤ, pos, ◌≡◌, ◌+◌, ◌^◌, ◌-◌, ◌+ℤ◌, min, unsigned_abs, int_lt, List, [], ◌++◌, codes, if◌then◌else◌}
use Rattle.block_feed.specs.Block.{ChainBlock}
use Rattle.fee_rates.specs.Fee.{fee_of, vsize_of}
use Rattle.fee_rates.specs.Terms.{base_of}
use Rattle.fund_files.specs.Chain.{chain_from}
use Rattle.fund_plan.specs.Chosen.{load_for}
use Rattle.fund_plan.specs.Pays.{raised_of}
use Rattle.fund_plan.specs.Selection.{PlainFunded}
use Rattle.fund_report.specs.PlainFunded as reports
use Rattle.fund_steps.specs.Amounts.{fees_of}
use Rattle.request_making.specs.Printed.{rate_text}
use Rattle.request_text.specs.PlainRequest.{PlainRequest}
use Rattle.wallet_text.specs.PlainWallet.{PlainWallet}
use Rattle.command_inputs.specs.Outcome.{plan_of}
use Rattle.pay_words.specs.declared.way.Way.{Way}
use Rattle.pay_words.specs.declared.way.Way.TheVariants as ways
use Rattle.command_pay.specs.Lines.{money_text}

-- What a payment without change saves is its waste below 0. Its waste, the fee of its base and the fees of its inputs at the
-- long-term rate are its whole fee; beside the fee of the base stands what a replaced payment asks for, and the 1 by which the target
-- may be raised. So it saves those later fees, less what it pays beyond the fee of its base.
abbrev pub IsSavingOf : PlainWallet → List ChainBlock → PlainRequest → PlainFunded → reports.PlainFunded → Type 0
IsSavingOf wallet blocks request funded f =
    let l = load_for (plan_of (chain_from wallet blocks) request) funded.row in
    f.waste +ℤ pos (fee_of request.rate (vsize_of (base_of l)) + fees_of request.long_term funded.coins + l.burden + raised_of request.rate l) ≡ pos f.fee

-- its amount; one of more than 64 bits, which no payment has, counts as the greatest number of 64 bits
abbrev pub amount_of : ℤ → ℕ
amount_of waste = min (unsigned_abs waste) (2 ^ 64 - 1)

-- whether it is saved
abbrev pub saving_name : ℤ → List ℕ
saving_name waste = if int_lt (pos 0) waste then codes "costs   " else codes "saves   "

-- the line of it, with the long-term rate
unfoldable pub saving_line : (long_term : ℕ) → ℤ → List ℕ
saving_line long_term waste = saving_name waste ++ (money_text (amount_of waste) ++ (codes "  against spending these coins later at " ++ (rate_text long_term ++ codes "\n")))

-- for a payment by `wide`
abbrev pub saving_text : Way → (long_term : ℕ) → ℤ → List ℕ
saving_text ways.Fund long_term waste = []
saving_text ways.Wide long_term waste = saving_line long_term waste
saving_text ways.Share long_term waste = []
