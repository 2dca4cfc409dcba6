-- Files in memory, told by name.
use Rattle.std.specs.Prelude.{ℕ, List, [], ◌∷◌, Option, Some, None, map, Vec, String, string_bytes, bytes_eq, count_by, unwrap_or, if◌then◌else◌}
use Rattle.std.specs.declared.alloc.Global.{Global}

-- the bytes of the first file that has the name
abbrev pub file_of : List (String Global × Vec ℕ Global) → List ℕ → Option (List ℕ)
file_of [] name = None
file_of (file ∷ files) name = if bytes_eq (string_bytes file.0) name then Some file.1.items else file_of files name

-- its bytes, and none where no file has the name
abbrev pub bytes_of : List (String Global × Vec ℕ Global) → List ℕ → List ℕ
bytes_of files name = unwrap_or (file_of files name) []

-- the names of a list, as bytes
abbrev pub names_in : List (String Global) → List (List ℕ)
names_in names = map string_bytes names

-- how often a name is listed
abbrev pub times : List ℕ → List (String Global) → ℕ
times name names = count_by (λ other. bytes_eq (string_bytes other) name) names
