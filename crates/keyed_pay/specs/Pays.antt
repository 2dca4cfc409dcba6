-- How a payment ends whose PSBT gets what keys tell of it.
use Rattle.std.specs.Prelude.{ℕ, List, Option, Vec}
use Rattle.std.specs.declared.alloc.Global.{Global}
use Rattle.fund_shelf.specs.Causes.{ShelfView}
use Rattle.keys_text.specs.PlainKeys.{PlainKeys}
use Rattle.psbt_codec.specs.declared.fault.PsbtFault.TheVariants as psbts
use Rattle.psbt_keys.specs.declared.fault.KeyFault.{KeyFault}
use Rattle.psbt_keys.specs.declared.fault.KeyFault.TheVariants as faults
use Rattle.pay_words.specs.Asked.{PlainAsked, plain_asked}
use Rattle.pay_words.specs.declared.asked.Asked.{Asked}
use Rattle.keys_files.specs.Keyed.{IsKeyedText, IsTextFault}
use Rattle.command_pay.specs.Paid.{psbt_in}
use Rattle.command_pay.specs.Pays.{Pays}
use Rattle.payment_files.specs.Written.{HasFileIf, IsStill, IsUnwritten}
use Rattle.command_pay.specs.declared.outcome.Ending.{Ending}
use Rattle.command_pay.specs.declared.outcome.Ending.TheVariants.{Paid}
use Rattle.command_pay.specs.declared.report.PaidReport.{PaidReport}
use Rattle.keyed_pay.specs.declared.outcome.KeyedEnding.{KeyedEnding}
use Rattle.keyed_pay.specs.declared.outcome.KeyedEnding.TheVariants.{Keyed, Unkeyed, Unwritten, Memory, Unpaid}

-- what is asked for with this name for the file of the PSBT
abbrev pub with_psbt : PlainAsked → Option (List ℕ) → PlainAsked
with_psbt a name = record a { names = record a.names { psbt = name } }

-- it is no payment
abbrev pub IsNoPayment : Ending → Type 0
IsNoPayment (Paid report log) = ⊥
IsNoPayment ending = Unit {0}

-- how a payment ends to which keys aren't added: being out of memory comes from that of the adding alone
abbrev pub unkeyed_ending : KeyFault → KeyedEnding
unkeyed_ending (faults.Psbt psbts.Memory) = Memory
unkeyed_ending fault = Unkeyed fault

-- What is asked for is paid, by the command that pays, with this report and this log; and behind that is the new shelf as it is then.
-- No file of its PSBT is written yet.
abbrev pub IsPaid : (told told_new : Type 0) → Asked → (files after : ShelfView) → (old paid : ShelfView) → PaidReport → Vec ℕ Global → Type 0
IsPaid told told_new a files after old paid report log =
    Pays told told_new a files after old paid (Paid report log)

-- Paid, and then the PSBT with what the keys tell of it is written where a file for it is asked for. Or something keeps what the keys
-- tell from it, and no PSBT is written; or the writing of that file failed; or there was not enough memory behind the payment. Or it
-- isn't paid, and ends as without keys.
abbrev pub PaysKeyed : (told told_new : Type 0) → Asked → (name : Option (List ℕ)) → PlainKeys → (files after : ShelfView) → (old new : ShelfView) → KeyedEnding → Type 0
PaysKeyed told told_new a name k files after old new (Keyed report log text) =
    (paid : ShelfView) × IsPaid told told_new a files after old paid report log × IsKeyedText k (psbt_in report) text.items × HasFileIf told_new name text.items paid new
PaysKeyed told told_new a name k files after old new (Unkeyed fault) =
    (report : PaidReport) × (log : Vec ℕ Global) × IsPaid told told_new a files after old new report log × IsTextFault k (psbt_in report) fault
PaysKeyed told told_new a name k files after old new Unwritten =
    (report : PaidReport) × (log : Vec ℕ Global) × (paid : ShelfView) × IsPaid told told_new a files after old paid report log × IsUnwritten told_new name paid new
PaysKeyed told told_new a name k files after old new Memory =
    (report : PaidReport) × (log : Vec ℕ Global) × (paid : ShelfView) × IsPaid told told_new a files after old paid report log × IsStill told_new paid new
PaysKeyed told told_new a name k files after old new (Unpaid ending) = Pays told told_new a files after old new ending × IsNoPayment ending
