-- Why a wallet behind which no block stands is refused.
use Rattle.std.specs.Prelude.{◌≡◌, [], Some}
use Rattle.coin_book.specs.Faults.{fault_of}
use Rattle.coin_book.specs.declared.fault.BookFault.{BookFault}
use Rattle.fund_files.specs.Cause.{cause_of}
use Rattle.fund_files.specs.Chain.{history_of}
use Rattle.fund_files.specs.Outcome.{book_cause}
use Rattle.fund_files.specs.declared.stop.Stop.{Stop}
use Rattle.fund_files.specs.declared.stop.Stop.TheVariants as stops
use Rattle.wallet_text.specs.PlainWallet.{PlainWallet}

-- no book holds its coins, and this is what keeps them from one; or memory ran out
abbrev pub StopsAlone : PlainWallet → Stop → Type 0
StopsAlone w (stops.Read file) = ⊥
StopsAlone w (stops.Refused refusal) = (fault : BookFault) × (fault_of (history_of w []) ≡ Some fault) × (cause_of refusal ≡ book_cause fault)
StopsAlone w stops.Memory = Unit {0}
