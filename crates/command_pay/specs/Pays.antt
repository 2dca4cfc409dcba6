-- How a command that pays ends.
use Rattle.std.specs.Prelude.{ℕ, ◌≡◌, ◌≢◌, ◌≤◌, ◌<◌, ◌⊎◌, List}
use Rattle.fund_shelf.specs.Causes.{ShelfView}
use Rattle.command_end.specs.declared.status.Status.TheVariants as statuses
use Rattle.pay_words.specs.declared.asked.Asked.{Asked}
use Rattle.payment_files.specs.Files.{HasAll, HasFirst, IsLost, contents}
use Rattle.payment_files.specs.Written.{IsStill}
use Rattle.payment_files.specs.declared.file.NewFile.{NewFile}
use Rattle.command_pay.specs.Fees.{fee_ceiling}
use Rattle.command_pay.specs.Paid.{fee_in, psbt_in}
use Rattle.command_pay.specs.Run.{IsPayment, IsRun}
use Rattle.command_pay.specs.declared.outcome.Ending.{Ending}
use Rattle.command_pay.specs.declared.outcome.Ending.TheVariants.{Paid, FeeAboveMaximum, NotPaid, Unwritten, Memory}
use Rattle.command_pay.specs.declared.report.PaidReport.{PaidReport}

-- the greatest fee that is taken
abbrev pub greatest_fee : Asked → ℕ
greatest_fee a = fee_ceiling a.max_fee a.payments.items

-- A payment whose fee is taken.
pub record IsTaken (told : Type 0) (a : Asked) (files after : ShelfView) (f : PaidReport) (log : List ℕ) : Type 0 where
  pub payment : IsPayment told a files after f log
  pub fee : fee_in f ≤ greatest_fee a

-- the bytes of the new files of such a payment: its report is what its run printed
abbrev pub contents_of : (told : Type 0) (a : Asked) (files after : ShelfView) (f : PaidReport) (log : List ℕ) → IsTaken told a files after f log → NewFile → List ℕ
contents_of told a files after f log taken = contents a log taken.payment.said (psbt_in f)

-- Files are read at one shelf, before and after the call, and new ones are written at another; each tells of its content where
-- it does. Paid: the payment is
-- taken, and its new files are written. Its fee is too high: nothing is written. Not paid: the run wasn't done, and nothing is
-- written. A new file of a payment that is taken wasn't written, once those before it were. There was not enough memory: nothing is
-- written, or the first new files of a payment that is taken.
abbrev pub Pays : (told told_new : Type 0) → Asked → (files after : ShelfView) → (old new : ShelfView) → Ending → Type 0
Pays told told_new a files after old new (Paid report log) =
    (taken : IsTaken told a files after report log.items) × HasAll told_new a (contents_of told a files after report log.items taken) old new
Pays told told_new a files after old new (FeeAboveMaximum fee most) =
    (f : PaidReport) × (log : List ℕ) × IsPayment told a files after f log × (fee ≡ fee_in f) × (most ≡ greatest_fee a) × (most < fee) × (new ≡ old)
Pays told told_new a files after old new (NotPaid status said) = (log : List ℕ) × IsRun told a files after status said.items log × (status ≢ statuses.Done) × (new ≡ old)
Pays told told_new a files after old new (Unwritten file) =
    (f : PaidReport) × (log : List ℕ) × (taken : IsTaken told a files after f log) × IsLost told_new a (contents_of told a files after f log taken) file old new
Pays told told_new a files after old new Memory =
    IsStill told_new old new ⊎ ((f : PaidReport) × (log : List ℕ) × (taken : IsTaken told a files after f log) × HasFirst told_new a (contents_of told a files after f log taken) old new)
