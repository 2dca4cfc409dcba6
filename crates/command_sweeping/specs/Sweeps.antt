-- How a command that pays all coins ends.
use Rattle.std.specs.Prelude.{ℕ, ◌≡◌, ◌≢◌, ◌≤◌, ◌<◌, option_map, string_bytes}
use Rattle.amount_reports.specs.SweptText.{PlainSwept}
use Rattle.fund_shelf.specs.Causes.{ShelfView}
use Rattle.command_end.specs.declared.status.Status.TheVariants as statuses
use Rattle.pay_words.specs.declared.asked.Asked.{Asked}
use Rattle.payment_files.specs.Written.{HasFileIf, IsStill, IsUnwritten}
use Rattle.command_sweeping.specs.Fees.{greatest_of}
use Rattle.command_sweeping.specs.Run.{IsPayment, IsRun}
use Rattle.command_sweeping.specs.declared.outcome.Ending.{Ending}
use Rattle.command_sweeping.specs.declared.outcome.Ending.TheVariants.{Swept, FeeAboveMaximum, NotSwept, Unwritten, Memory}

-- A payment whose fee is taken.
pub record IsTaken (told : Type 0) (a : Asked) (files after : ShelfView) (r : PlainSwept) : Type 0 where
  pub payment : IsPayment told a files after r
  pub fee : r.fee ≤ greatest_of a r

-- its PSBT is written, where it is asked for
abbrev pub HasPsbt : (told : Type 0) → Asked → PlainSwept → ShelfView → ShelfView → Type 0
HasPsbt told a r old new = HasFileIf told (option_map string_bytes a.names.psbt) r.psbt old new

-- Files are read at one shelf, before and after the call, and a new one is written at another; each tells of its content where it
-- does. Swept: the payment is taken, and its new file is written. Its fee is too high: nothing is written. Not swept: the run
-- wasn't done, and nothing is written. The new file of a payment that is taken wasn't written. There was not enough memory:
-- nothing is written.
abbrev pub Sweeps : (told told_new : Type 0) → Asked → (files after : ShelfView) → (old new : ShelfView) → Ending → Type 0
Sweeps told told_new a files after old new (Swept report) = IsTaken told a files after report × HasPsbt told_new a report old new
Sweeps told told_new a files after old new (FeeAboveMaximum fee most) =
    (r : PlainSwept) × IsPayment told a files after r × (fee ≡ r.fee) × (most ≡ greatest_of a r) × (most < fee) × (new ≡ old)
Sweeps told told_new a files after old new (NotSwept status said) = IsRun told a files after status said.items × (status ≢ statuses.Done) × (new ≡ old)
Sweeps told told_new a files after old new Unwritten = (r : PlainSwept) × IsTaken told a files after r × IsUnwritten told_new (option_map string_bytes a.names.psbt) old new
Sweeps told told_new a files after old new Memory = IsStill told_new old new
