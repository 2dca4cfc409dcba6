-- What is known of a script by a list of entries.
use Rattle.std.specs.Prelude.{ℕ, ◌≢◌, List, Option, Some, None, All, Contains}
use Rattle.std.specs.Borrow.{Bor}
use Rattle.keys_text.specs.PlainKeys.{PlainEntry, PlainScriptKeys}

-- It is what the entry of this script tells, or there is no entry of it.
abbrev pub IsKnown : List PlainEntry → List ℕ → Option (Bor PlainScriptKeys) → Type 0
IsKnown entries script (Some known) = Contains entries (record { script = script; known = known.now })
IsKnown entries script None = All (λ (e : PlainEntry). e.script ≢ script) entries
