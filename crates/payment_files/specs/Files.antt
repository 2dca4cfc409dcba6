-- The new files of a payment.
use Rattle.std.specs.Prelude.{ℕ, ◌≡◌, ◌≢◌, List, [], ◌∷◌, Option, Some}
use Rattle.fund_shelf.specs.Causes.{ShelfView}
use Rattle.request_making.specs.Written.{request_bytes}
use Rattle.pay_words.specs.Asked.{PlainNames, plain_names}
use Rattle.pay_words.specs.declared.asked.Asked.{Asked}
use Rattle.payment_files.specs.Written.{HasFileIf, IsStill, IsUnwritten}
use Rattle.payment_files.specs.declared.file.NewFile.{NewFile}
use Rattle.payment_files.specs.declared.file.NewFile.TheVariants.{Request, Log, Report, Psbt}
use Rattle.payment_files.specs.declared.file.PutFault.{PutFault}
use Rattle.payment_files.specs.declared.file.PutFault.TheVariants as puts

-- the name of each, where it is asked for
abbrev pub name_among : PlainNames → NewFile → Option (List ℕ)
name_among n Request = n.request
name_among n Log = n.log
name_among n Report = n.report
name_among n Psbt = n.psbt

abbrev pub name_for : Asked → NewFile → Option (List ℕ)
name_for a file = name_among (plain_names a.names) file

-- no two of them are asked for under one name
abbrev pub HasOwnNames : Asked → Type 0
HasOwnNames a = (x y : NewFile) (name : List ℕ) → name_for a x ≡ Some name → name_for a y ≡ Some name → x ≡ y

-- The bytes of each: the request file of what is asked, and this log, this report and this PSBT.
abbrev pub contents : Asked → (log report psbt : List ℕ) → NewFile → List ℕ
contents a log report psbt Request = request_bytes a.payments.items a.coins.items a.settings
contents a log report psbt Log = log
contents a log report psbt Report = report
contents a log report psbt Psbt = psbt

-- those that are written before one, and all of them, in their order
abbrev pub before : NewFile → List NewFile
before Request = []
before Log = Request ∷ []
before Report = Request ∷ Log ∷ []
before Psbt = Request ∷ Log ∷ Report ∷ []

abbrev pub all_files : List NewFile
all_files = Request ∷ Log ∷ Report ∷ Psbt ∷ []

-- these are written one after the other, each where it is asked for, and nothing else is
abbrev pub AreWritten : (told : Type 0) → Asked → (bytes : NewFile → List ℕ) → List NewFile → ShelfView → ShelfView → Type 0
AreWritten told a bytes [] old new = new ≡ old
AreWritten told a bytes (file ∷ files) old new = (next : ShelfView) × HasFileIf told (name_for a file) (bytes file) old next × AreWritten told a bytes files next new

-- All are written. Each that is asked for has its bytes then, and each file of another name is as before.
pub record HasAll (told : Type 0) (a : Asked) (bytes : NewFile → List ℕ) (old new : ShelfView) : Type 0 where
  pub written : AreWritten told a bytes all_files old new
  pub stand : told → (file : NewFile) (name : List ℕ) → name_for a file ≡ Some name → new.files name ≡ bytes file
  pub others : told → (name : List ℕ) → ((file : NewFile) → name_for a file ≢ Some name) → new.files name ≡ old.files name

-- One wasn't written, once those before it were.
abbrev pub IsLost : (told : Type 0) → Asked → (bytes : NewFile → List ℕ) → NewFile → ShelfView → ShelfView → Type 0
IsLost told a bytes file old new = (next : ShelfView) × AreWritten told a bytes (before file) old next × IsUnwritten told (name_for a file) next new

-- those before some file were written, and nothing after them
abbrev pub HasFirst : (told : Type 0) → Asked → (bytes : NewFile → List ℕ) → ShelfView → ShelfView → Type 0
HasFirst told a bytes old new = (file : NewFile) × (next : ShelfView) × AreWritten told a bytes (before file) old next × IsStill told next new

-- why they aren't all written: the writing of one failed, or there was not enough memory
abbrev pub PutStops : (told : Type 0) → Asked → (bytes : NewFile → List ℕ) → ShelfView → ShelfView → PutFault → Type 0
PutStops told a bytes old new (puts.Unwritten file) = IsLost told a bytes file old new
PutStops told a bytes old new puts.Memory = HasFirst told a bytes old new

-- why this one, of this name, isn't
abbrev pub StopsAt : (told : Type 0) → NewFile → Option (List ℕ) → ShelfView → ShelfView → PutFault → Type 0
StopsAt told file name old new (puts.Unwritten other) = (other ≡ file) × IsUnwritten told name old new
StopsAt told file name old new puts.Memory = IsStill told old new
