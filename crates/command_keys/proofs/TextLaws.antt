-- A PSBT file with keys.
use Rattle.std.proofs.Common.{◌≡◌, ◌++◌, ℕ, List, [], ◌∷◌}
use Rattle.keys_text.specs.PlainKeys.{PlainKeys}
use Rattle.keys_files.specs.Keyed.{IsKeyedText}
use Rattle.command_complete.specs.Made.{line_of}
use Rattle.command_keys.specs.Keyed.{IsKeyedFile}

pub line_keyed : (k : PlainKeys) (file text line : List ℕ) → IsKeyedText k (line_of file) line → text ≡ line ++ 10 ∷ [] → IsKeyedFile k file text
line_keyed k file text line keyed prints = record { line = line; keyed = keyed; prints = prints }
