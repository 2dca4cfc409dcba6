-- What a call of a keeper finds.
use Rattle.std.specs.Prelude.{ℕ, [], ◌∷◌, pos, Option, None, Some, OnOk, Result, Vec}
use Rattle.std.specs.declared.alloc.Global.{Global}
use Rattle.sqlite.specs.Store.{Ghosts}
use Rattle.sqlite.specs.declared.types.Value.TheVariants.{Int, Text}
use Rattle.sqlite.specs.declared.error.Error.{Error}
use Rattle.sqlite.specs.Held.{Held, state}
use Rattle.sqlite.specs.State.{HasCleanDisk}
use Rattle.keep_sqlite.specs.JobFile.{FindsIn, SavesIn}
use Rattle.keep_sqlite.specs.Saving.{Saves}
use Rattle.keep_sqlite.specs.Tables.{Finds, bytes_text, saved_text}
use Rattle.keep_sqlite.specs.declared.tables.Call.{Call}
use Rattle.keep_sqlite.specs.declared.tables.Call.TheVariants.{Load, Part, Save}

module _ {S : Type 0} (g : Ghosts S) where
  -- what a call finds in the tables, and what a save that is done has written there
  abbrev pub Answers : Call → Held S → Held S → Result (Option (Vec ℕ Global)) Error → Type 0
  Answers (Load job) old new found = Finds g saved_text (Text job.now ∷ []) old new found
  Answers (Part job number) old new found = Finds g bytes_text (Text job.now ∷ Int (pos number) ∷ []) old new found
  Answers (Save job first part saved) old new found = OnOk found (Saves g job.now first part.now saved.now old new)

  -- what it finds from a database on, which stays
  abbrev pub AnswersFrom : Call → Option (Held S) → Option (Held S) → Result (Option (Vec ℕ Global)) Error → Type 0
  AnswersFrom call None new found = ⊥
  AnswersFrom call (Some old) None found = ⊥
  AnswersFrom call (Some old) (Some new) found = HasCleanDisk (state g new) → Answers call old new found

  -- what it finds in the file
  abbrev pub AnswersIn : Call → Option (Held S) → Option (Held S) → Result (Option (Vec ℕ Global)) Error → Type 0
  AnswersIn (Load job) old new found = FindsIn g saved_text (Text job.now ∷ []) old new found
  AnswersIn (Part job number) old new found = FindsIn g bytes_text (Text job.now ∷ Int (pos number) ∷ []) old new found
  AnswersIn (Save job first part saved) old new found = OnOk found (SavesIn g job.now first part.now saved.now old new)
