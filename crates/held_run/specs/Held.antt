-- Files of which two are held in memory: a request that was made, and a log.
use Rattle.std.specs.Prelude.{ℕ, ◌≡◌, ◌≢◌, List, ◌∷◌, codes, bytes_eq, if◌then◌else◌}
use Rattle.fund_shelf.specs.Causes.{ShelfView}

-- The names of the two. They begin with a NUL, as the name of no file of the system does.
abbrev pub request_name : List ℕ
request_name = 0 ∷ codes "request"

abbrev pub log_name : List ℕ
log_name = 0 ∷ codes "log"

-- a name other than these two
abbrev pub IsOther : List ℕ → Type 0
IsOther name = (name ≢ request_name) × (name ≢ log_name)

-- the file of a name: one of the two that are held, or else the other shelf's
abbrev pub file_among : (request log : List ℕ) → (List ℕ → List ℕ) → List ℕ → List ℕ
file_among request log files name = if bytes_eq name request_name then request else if bytes_eq name log_name then log else files name

-- how often a name failed: never one of the two, or else as often as at the other shelf
abbrev pub count_among : (List ℕ → ℕ) → List ℕ → ℕ
count_among counts name = if bytes_eq name request_name then 0 else if bytes_eq name log_name then 0 else counts name

-- What such a shelf holds: those files, the failures of each, and the names that were asked for of it itself.
abbrev pub held_view : ShelfView → (request log : List ℕ) → (asked : List (List ℕ)) → ShelfView
held_view other request log asked = record {
  files = file_among request log other.files;
  reads = count_among other.reads;
  writes = count_among other.writes;
  asked = asked;
}

-- A shelf that holds two files beside these, whatever the two are, and whatever was asked for of it.
pub record IsBeside (files shelf : ShelfView) : Type 0 where
  pub request : List ℕ
  pub log : List ℕ
  pub names : List (List ℕ)
  pub is : shelf ≡ held_view files request log names

-- Files that stay: each of a name other than those of the two that are held in memory is as before, where the shelf tells what
-- it holds; and no write of it has failed.
pub record KeepsFiles (told : Type 0) (old new : ShelfView) : Type 0 where
  pub files : told → (name : List ℕ) → IsOther name → new.files name ≡ old.files name
  pub writes : (name : List ℕ) → IsOther name → new.writes name ≡ old.writes name
