-- The entries that a map from scripts holds, in the order in which they came.
use Rattle.std.specs.Prelude.{ℕ, List, Vec, map}
use Rattle.std.specs.declared.alloc.Global.{Global}
use Rattle.keys_text.specs.PlainKeys.{PlainEntry, PlainScriptKeys}

abbrev pub entries_of : List (Vec ℕ Global × PlainScriptKeys) → List PlainEntry
entries_of held = map (λ (e : Vec ℕ Global × PlainScriptKeys). record { script = e.0.items; known = e.1 }) held

-- the scripts of entries
abbrev pub scripts_of : List PlainEntry → List (List ℕ)
scripts_of entries = map (λ (e : PlainEntry). e.script) entries
