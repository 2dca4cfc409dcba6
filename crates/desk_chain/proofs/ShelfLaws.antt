-- One file in memory.
use Rattle.std.specs.Prelude.{ℕ, ◌≡◌, List, [], ◌∷◌, Some, None, Vec, String, string_bytes, unwrap_or}
use Rattle.std.proofs.Common.{ap, ◌∙◌, cond, Global}
use Rattle.fund_shelf.specs.Files.{bytes_of}
use Rattle.desk_machine.proofs.JobLists.{name_same}

-- its bytes are found by its name
pub one_file : (files : List (String Global × Vec ℕ Global)) (name : String Global) (held : Vec ℕ Global) (word bytes : List ℕ) → files ≡ (name, held) ∷ [] → string_bytes name ≡ word → held.items ≡ bytes → bytes_of files word ≡ bytes
one_file files name held word bytes is named own =
    ap (λ (fs : List (String Global × Vec ℕ Global)). bytes_of fs word) is
    ∙ ap (λ b. unwrap_or (cond b (Some held.items) None) []) (name_same (string_bytes name) word named)
    ∙ own
