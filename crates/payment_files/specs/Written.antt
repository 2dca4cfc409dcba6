-- Files that are written where they are asked for, and files that stay.
use Rattle.std.specs.Prelude.{ℕ, ◌≡◌, List, Option, Some, None}
use Rattle.fund_shelf.specs.Causes.{ShelfView, Rose, SameElsewhere}

-- The file of this name has these bytes, and nothing else is changed.
pub record HasFile (told : Type 0) (name bytes : List ℕ) (old new : ShelfView) : Type 0 where
  pub bytes_are : told → new.files name ≡ bytes
  pub others : told → SameElsewhere name old.files new.files
  pub writes : new.writes ≡ old.writes

-- where one is asked for
abbrev pub HasFileIf : (told : Type 0) → Option (List ℕ) → List ℕ → ShelfView → ShelfView → Type 0
HasFileIf told None bytes old new = new ≡ old
HasFileIf told (Some name) bytes old new = HasFile told name bytes old new

-- One is asked for, and its writing failed, as where there is a file of that name. Each other file is as before.
abbrev pub IsUnwritten : (told : Type 0) → Option (List ℕ) → ShelfView → ShelfView → Type 0
IsUnwritten told None old new = ⊥
IsUnwritten told (Some name) old new = Rose (old.writes name) (new.writes name) × (told → SameElsewhere name old.files new.files)

-- nothing was written
pub record IsStill (told : Type 0) (old new : ShelfView) : Type 0 where
  pub files : told → new.files ≡ old.files
  pub writes : new.writes ≡ old.writes
