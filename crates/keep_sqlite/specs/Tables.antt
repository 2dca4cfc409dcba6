-- What the database answers of the tables of jobs, and what that is told as.
use Rattle.std.specs.Prelude.{◌≡◌, ◌≢◌, ◌⊎◌, ◌<◌, ℕ, ℤ, pos, Bool, true, false, if◌then◌else◌, ◌&&◌, List, [], ◌∷◌, length, codes, Option, Some, None, Result, Ok, Err, Vec}
use Rattle.std.specs.Ordering.{int_eq}
use Rattle.std.specs.declared.alloc.Global.{Global}
use Rattle.sqlite.specs.Order.{Row, column}
use Rattle.sqlite.specs.Store.{Ghosts}
use Rattle.sqlite.specs.declared.types.Value.{Value}
use Rattle.sqlite.specs.declared.types.Value.TheVariants.{Int, Text, Blob}
use Rattle.sqlite.specs.declared.error.Error.{Error}
use Rattle.sqlite.specs.declared.error.Error.TheVariants.{SqliteFailure, QueryReturnedNoRows}
use Rattle.sqlite.specs.declared.error.ErrorCode.TheVariants.{NotADatabase, OutOfMemory}
use Rattle.sqlite.specs.Held.{Held, state}
use Rattle.sqlite.specs.Reading.{IsReadError}
use Rattle.sqlite.specs.State.{QueriesRow}

-- whether the tables are there, by how many objects there are, and how many of them are our tables with our text; a
-- database of anything else isn't ours
abbrev pub tables_made : ℤ → ℤ → Result Bool Error
tables_made objects ours =
    if int_eq objects (pos 0) then Ok false else (if int_eq objects (pos 2) && int_eq ours (pos 2) then Ok true else Err (SqliteFailure NotADatabase))

-- why a column doesn't read: it isn't there, it has another type, or there was no memory
abbrev pub FailsToGet : (Value → Type 0) → ℕ → Row → Error → Type 0
FailsToGet IsReadable at row e = IsReadError at (column row at) e × (e ≢ SqliteFailure OutOfMemory → at < length row → ¬ IsReadable (column row at))

abbrev pub IsInt : Value → Type 0
IsInt value = (number : ℤ) × (value ≡ Int number)

abbrev pub IsBlob : Value → Type 0
IsBlob value = (bytes : List ℕ) × (value ≡ Blob bytes)

-- the row of both counts, as what it tells of the tables
abbrev pub AreCounted : Row → Result Bool Error → Type 0
AreCounted row told =
    ((objects : ℤ) × (ours : ℤ) × (column row 0 ≡ Int objects) × (column row 1 ≡ Int ours) × (told ≡ tables_made objects ours))
    ⊎ ((e : Error) × (told ≡ Err e) × (FailsToGet IsInt 0 row e ⊎ FailsToGet IsInt 1 row e))

-- an answer of the database, as what it tells of the tables: an error is told as it is
abbrev pub AreMadeBy : Result Row Error → Result Bool Error → Type 0
AreMadeBy (Ok row) told = AreCounted row told
AreMadeBy (Err e) told = told ≡ Err e

-- the bytes in a row, or why they don't read
abbrev pub AreIn : Row → Result (Option (Vec ℕ Global)) Error → Type 0
AreIn row (Ok (Some bytes)) = column row 0 ≡ Blob bytes.items
AreIn row (Ok None) = ⊥
AreIn row (Err e) = FailsToGet IsBlob 0 row e

-- an answer of the database, as the bytes that it shows: that it shows no row is told as None, and nothing else is;
-- every other error is told as it is
abbrev pub AreBytesOf : Result Row Error → Result (Option (Vec ℕ Global)) Error → Type 0
AreBytesOf (Ok row) found = AreIn row found
AreBytesOf (Err QueryReturnedNoRows) found = found ≡ Ok None
AreBytesOf (Err e) found = found ≡ Err e

-- the texts of both tables
abbrev pub job_text : List ℕ
job_text = codes "CREATE TABLE job (name TEXT NOT NULL PRIMARY KEY, saved BLOB NOT NULL) STRICT"

abbrev pub part_text : List ℕ
part_text = codes "CREATE TABLE part (job TEXT NOT NULL, number INTEGER NOT NULL, bytes BLOB NOT NULL, PRIMARY KEY (job, number)) STRICT"

-- how many objects there are, but for those that SQLite makes by itself, and how many of them are ours
abbrev pub objects_text : List ℕ
objects_text = codes "SELECT count(*), coalesce(sum(name = 'job' AND sql = ?1 OR name = 'part' AND sql = ?2), 0) FROM sqlite_schema WHERE substr(name, 1, 7) <> 'sqlite_'"

-- the saved text of a job by its name
abbrev pub saved_text : List ℕ
saved_text = codes "SELECT saved FROM job WHERE name = ?1"

-- a part by its job's name and its number
abbrev pub bytes_text : List ℕ
bytes_text = codes "SELECT bytes FROM part WHERE job = ?1 AND number = ?2"

module _ {S : Type 0} (g : Ghosts S) where
  -- whether the tables are there, as the database answers
  abbrev pub TellsTables : Held S → Held S → Result Bool Error → Type 0
  TellsTables old new told = (answer : Result Row Error) × QueriesRow objects_text (Text job_text ∷ Text part_text ∷ []) (state g old) (state g new) answer × AreMadeBy answer told

  -- the bytes that a query shows
  abbrev pub ShowsBytes : List ℕ → Row → Held S → Held S → Result (Option (Vec ℕ Global)) Error → Type 0
  ShowsBytes sql params old new found = (answer : Result Row Error) × QueriesRow sql params (state g old) (state g new) answer × AreBytesOf answer found

  -- what a query shows where the tables are there; without them nothing is found
  abbrev pub FindsIf : Result Bool Error → List ℕ → Row → Held S → Held S → Result (Option (Vec ℕ Global)) Error → Type 0
  FindsIf (Ok true) sql params old new found = ShowsBytes sql params old new found
  FindsIf (Ok false) sql params old new found = (found ≡ Ok None) × (new ≡ old)
  FindsIf (Err e) sql params old new found = (found ≡ Err e) × (new ≡ old)

  -- what is found in the tables: None comes only where they aren't there, or where the query shows no row
  abbrev pub Finds : List ℕ → Row → Held S → Held S → Result (Option (Vec ℕ Global)) Error → Type 0
  Finds sql params old new found = (mid : Held S) × (made : Result Bool Error) × TellsTables old mid made × FindsIf made sql params mid new found
