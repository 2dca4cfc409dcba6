-- The keeper over the job file.
use Rattle.std.specs.Prelude.{◌≡◌, ℕ, List, Option, None, Some, Result, Vec, IsErrAnd, IsTrue}
use Rattle.std.specs.declared.alloc.Global.{Global}
use Rattle.fund_outside.specs.Kept.{KeeperView}
use Rattle.sqlite.specs.Order.{Row}
use Rattle.sqlite.specs.Store.{Ghosts}
use Rattle.sqlite.specs.declared.error.Error.{Error}
use Rattle.sqlite.specs.Held.{Held, IsNew, state}
use Rattle.sqlite.specs.Opening.{is_open_error}
use Rattle.sqlite.specs.State.{HasCleanDisk, IsLive, Opens}
use Rattle.keep_sqlite.specs.Saving.{Saves}
use Rattle.keep_sqlite.specs.Tables.{Finds}
use Rattle.keep_sqlite.specs.declared.job_file.SqliteKeeper.{SqliteKeeper}

-- what it counts; which jobs the file holds isn't told
abbrev pub view_of : {R : Type 0} → SqliteKeeper R → KeeperView
view_of keeper = record { jobs = λ _. None; faults = keeper.faults }

module _ {S : Type 0} (g : Ghosts S) where
  -- a call works with the connection that is held, and where none is, with a new one
  abbrev pub IsTaken : Option (Held S) → Held S → Type 0
  IsTaken (Some held) taken = taken ≡ held
  IsTaken None taken = IsNew taken × (HasCleanDisk (state g taken) → Opens (state g taken) × IsLive (state g taken))

  -- an open gives nothing where a connection is held, and else a new one
  abbrev pub IsOpened : Option (Held S) → Option (Held S) → Type 0
  IsOpened (Some held) opened = opened ≡ None
  IsOpened None None = ⊥
  IsOpened None (Some made) = IsTaken None made

  -- what is found in the tables of the file, where the disk has returned what was written; a file that isn't open
  -- after a call couldn't be opened
  abbrev pub FindsIn : List ℕ → Row → Option (Held S) → Option (Held S) → Result (Option (Vec ℕ Global)) Error → Type 0
  FindsIn sql params old None found = (old ≡ None) × IsErrAnd found (λ error. IsTrue (is_open_error error))
  FindsIn sql params old (Some new) found = HasCleanDisk (state g new) → (taken : Held S) × IsTaken old taken × Finds g sql params taken new found

  -- what a save that is done has written in the tables of the file, where the disk has returned what was written
  abbrev pub SavesIn : List ℕ → ℕ → List ℕ → List ℕ → Option (Held S) → Option (Held S) → Type 0
  SavesIn job first part saved old None = ⊥
  SavesIn job first part saved old (Some new) = HasCleanDisk (state g new) → (taken : Held S) × IsTaken old taken × Saves g job first part saved taken new
