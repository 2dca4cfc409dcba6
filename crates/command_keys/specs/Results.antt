-- How the command ends.
use Rattle.std.specs.Prelude.{ℕ, ◌≡◌, ◌⊎◌, List}
use Rattle.fund_shelf.specs.Causes.{ShelfView, SinkView}
use Rattle.keys_text.specs.PlainKeys.{PlainKeys}
use Rattle.command_end.specs.AnswerLines.{IsAnswered}
use Rattle.command_end.specs.Names.{Sources}
use Rattle.command_end.specs.Printed.{IsPut}
use Rattle.command_end.specs.declared.status.Status.{Status}
use Rattle.command_end.specs.declared.status.Status.TheVariants as statuses
use Rattle.command_complete.specs.Statuses.{IsPrinted}
use Rattle.command_keys.specs.Asked.{AsksUpTo}
use Rattle.command_keys.specs.Keyed.{IsKeyedFile}
use Rattle.keys_files.specs.KeysFile.{HasKeys}
use Rattle.command_keys.specs.Stops.{StopsFor}
use Rattle.command_keys.specs.Words.{stop_status, stop_words}
use Rattle.command_keys.specs.declared.stop.Stop.{Stop}

-- The PSBT of a file is made whole, as without a keys file, and what the keys of the file of that name tell of it is added to
-- what would be printed then.
pub record IsKeyedPrint (told : Type 0) (files : List ℕ → List ℕ) (s : Sources) (name keys text : List ℕ) : Type 0 where
  pub whole : List ℕ
  pub printed : IsPrinted told files s name whole
  pub known : PlainKeys
  pub holds : told → HasKeys (files keys) known
  pub keyed : IsKeyedFile known whole text

-- The PSBT with its keys is put; or the command stops, answers with the line and the status of that stop, and has asked for nothing
-- behind it.
abbrev pub Ends : Type 0 → Type 0 → Sources → (name keys : List ℕ) → ShelfView → ShelfView → SinkView → SinkView → Status → Type 0
Ends told_files told s name keys shelf shelf' sink sink' status =
    ((text : List ℕ) × IsKeyedPrint told_files shelf.files s name keys text × IsPut told text statuses.Done sink sink' status)
    ⊎ ((stop : Stop) × StopsFor told_files s name keys shelf shelf' stop × (told_files → AsksUpTo s name keys shelf shelf' stop) × IsAnswered told (stop_words s name keys stop) (stop_status stop) sink sink' status)
