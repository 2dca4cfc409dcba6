-- What a save writes, and what a call leaves of the transaction that it writes in.
use Rattle.std.specs.Prelude.{◌≡◌, ℕ, pos, Bool, true, false, List, [], ◌∷◌, codes, Ok, IsTrue, OnOk, Result}
use Rattle.sqlite.specs.Order.{Row}
use Rattle.sqlite.specs.Store.{Ghosts}
use Rattle.sqlite.specs.declared.types.Value.TheVariants.{Blob, Int, Text}
use Rattle.sqlite.specs.declared.error.Error.{Error}
use Rattle.sqlite.specs.Held.{Held, state}
use Rattle.sqlite.specs.State.{ExecutesIn, HasCleanDisk, KeepsCommit, QueriesRowInside, Survives}
use Rattle.keep_sqlite.specs.Tables.{AreMadeBy, job_text, objects_text, part_text}

-- the last commit stays, and a crash finds nothing else; without an error the transaction goes on
pub record StaysInside {S : Type 0} (g : Ghosts S) {T : Type 0} (old new : Held S) (result : Result T Error) : Type 0 where
  pub kept : IsTrue old.in_transaction → HasCleanDisk (state g new) → KeepsCommit (state g old) (state g new)
  pub inside : IsTrue old.in_transaction → HasCleanDisk (state g new) → OnOk result (IsTrue new.in_transaction)
  pub survives : Survives (state g old) (state g new) (λ _. ⊥)

-- what a statement sees, and what the last commit left, are as before
pub record IsAsBefore {S : Type 0} (g : Ghosts S) (old new : Held S) : Type 0 where
  pub now : (state g new).now ≡ (state g old).now
  pub committed : (state g new).committed ≡ (state g old).committed

-- ---- what a save writes

-- drops the parts from a number on, and those below 0, which no save leaves; all of them where there is no such job
abbrev pub drop_text : List ℕ
drop_text = codes "DELETE FROM part WHERE job = ?1 AND (number < 0 OR number >= ?2 OR ?1 NOT IN (SELECT name FROM job))"

-- adds a part behind the others
abbrev pub add_text : List ℕ
add_text = codes "INSERT INTO part (job, number, bytes) SELECT ?1, coalesce(max(number) + 1, 0), ?2 FROM part WHERE job = ?1"

-- keeps the saved text in the place of another
abbrev pub keep_text : List ℕ
keep_text = codes "INSERT INTO job (name, saved) VALUES (?1, ?2) ON CONFLICT (name) DO UPDATE SET saved = excluded.saved"

module _ {S : Type 0} (g : Ghosts S) where
  -- the statement of this text and of these parameters was run to its end
  abbrev pub IsRun : List ℕ → Row → Held S → Held S → Type 0
  IsRun sql params old new = (count : ℕ) × ExecutesIn false sql params (state g old) (state g new) (Ok count)

  -- whether the tables are there, as the database answers within a transaction
  abbrev pub TellsInside : Held S → Held S → Result Bool Error → Type 0
  TellsInside old new told = (answer : Result Row Error) × QueriesRowInside objects_text (Text job_text ∷ Text part_text ∷ []) (state g old) (state g new) answer × AreMadeBy answer told

  -- both tables were made, unless they were there
  abbrev pub AreMadeUnless : Bool → Held S → Held S → Type 0
  AreMadeUnless true old new = new ≡ old
  AreMadeUnless false old new = (mid : Held S) × IsRun job_text [] old mid × IsRun part_text [] mid new

  -- it was asked whether the tables are there, and they were made where they weren't
  abbrev pub MakesTables : Held S → Held S → Type 0
  MakesTables old new = (mid : Held S) × (there : Bool) × TellsInside old mid (Ok there) × AreMadeUnless there mid new

  -- the three statements that write the rows of a job were run, one after another
  pub record WritesRows (job : List ℕ) (first : ℕ) (part saved : List ℕ) (old new : Held S) : Type 0 where
    pub dropped : Held S
    pub added : Held S
    pub drops : IsRun drop_text (Text job ∷ Int (pos first) ∷ []) old dropped
    pub adds : IsRun add_text (Text job ∷ Blob part ∷ []) dropped added
    pub keeps : IsRun keep_text (Text job ∷ Blob saved ∷ []) added new

  -- the tables are there, and then the rows of a job were written
  abbrev pub WritesJob : List ℕ → ℕ → List ℕ → List ℕ → Held S → Held S → Type 0
  WritesJob job first part saved old new = (made : Held S) × MakesTables old made × WritesRows job first part saved made new

  -- A job was saved: in a transaction its rows were written, and what the transaction then showed was committed.
  pub record Saves (job : List ℕ) (first : ℕ) (part saved : List ℕ) (old new : Held S) : Type 0 where
    pub last : Held S
    pub writes : WritesJob job first part saved (record old { in_transaction = true }) last
    pub now : (state g new).now ≡ (state g last).now
    pub committed : (state g new).committed ≡ (state g last).now
