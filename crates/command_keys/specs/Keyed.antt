-- A PSBT file with what the keys tell of it.
use Rattle.std.specs.Prelude.{ℕ, ◌≡◌, List, [], ◌∷◌, ◌++◌}
use Rattle.keys_text.specs.PlainKeys.{PlainKeys}
use Rattle.keys_files.specs.Keyed.{IsKeyedText}
use Rattle.command_complete.specs.Made.{line_of}

-- the text of a PSBT file with what the keys tell of it, and a line feed behind it
pub record IsKeyedFile (k : PlainKeys) (file text : List ℕ) : Type 0 where
  pub line : List ℕ
  pub keyed : IsKeyedText k (line_of file) line
  pub prints : text ≡ line ++ 10 ∷ []
