-- What an object of the outside tells of itself: its content, and how often it failed.
use Rattle.std.specs.Prelude.{ℕ, ◌≡◌, ◌≢◌, ◌≤◌, ◌+◌, ◌-◌, ◌^◌, [], ◌∷◌, ◌++◌, ◌⊎◌, ◌↔◌, List, length, min, replicate, take, drop}

-- Files by name, where a name that no file has stands for no bytes; how often a read and how often a
-- write of each name has failed; and the name that each read asked for, in the order of the reads.
pub record ShelfView : Type 0 where
  pub files : List ℕ → List ℕ
  pub reads : List ℕ → ℕ
  pub writes : List ℕ → ℕ
  pub asked : List (List ℕ)

-- All bytes that were taken, in order; how often a put failed; how often one found no memory.
pub record SinkView : Type 0 where
  pub written : List ℕ
  pub faults : ℕ
  pub refusals : ℕ

-- the number behind a count, which stays at the greatest that 64 bits hold
abbrev pub one_more : ℕ → ℕ
one_more count = min (count + 1) (2 ^ 64 - 1)

-- the count rose, or stands at its greatest value
abbrev pub Rose : ℕ → ℕ → Type 0
Rose before now = one_more before ≤ now

-- no name's count fell
abbrev pub NeverFall : (List ℕ → ℕ) → (List ℕ → ℕ) → Type 0
NeverFall before now = (name : List ℕ) → before name ≤ now name

-- Between two moments of a shelf nothing was written: its files are as before, where it tells them; no name's count of
-- failed reads fell; and no count of failed writes changed.
pub record OnlyReads (told : Type 0) (before now : ShelfView) : Type 0 where
  pub same : told → now.files ≡ before.files
  pub reads : NeverFall before.reads now.reads
  pub writes : now.writes ≡ before.writes

-- Between two moments a shelf was asked for these names and for no others: for the first any number of times, then for
-- the second, and so on. Any number may be none.
abbrev pub Asks : List (List ℕ) → (before now : List (List ℕ)) → Type 0
Asks [] before now = now ≡ before
Asks (name ∷ names) before now = (times : ℕ) × Asks names (before ++ replicate times name) now

-- What a call that reads the file of this name alone leaves of a shelf. Where it failed that name's count of failed
-- reads rose, and otherwise no count changed.
pub record ReadsOne (told failed : Type 0) (name : List ℕ) (before now : ShelfView) : Type 0 where
  pub same : told → now.files ≡ before.files
  pub reads : NeverFall before.reads now.reads
  pub writes : now.writes ≡ before.writes
  pub cause : failed → Rose (before.reads name) (now.reads name)
  pub unfailed : (failed → ⊥) → now.reads ≡ before.reads
  pub asked : told → Asks (name ∷ []) before.asked now.asked

-- neither count of a sink fell
pub record CountsNeverFall (before now : SinkView) : Type 0 where
  pub faults : before.faults ≤ now.faults
  pub refusals : before.refusals ≤ now.refusals

-- every other name's file is as before
abbrev pub SameElsewhere : List ℕ → (List ℕ → List ℕ) → (List ℕ → List ℕ) → Type 0
SameElsewhere name before now = (other : List ℕ) → other ≢ name → now other ≡ before other

-- The first n bytes of a buffer are the file's from a place on, and there are none exactly where the
-- buffer has no room or the file ends at that place or before.
pub record IsRead (file : List ℕ) (at n : ℕ) (buffer : List ℕ) : Type 0 where
  pub bytes : take n buffer ≡ take n (drop at file)
  pub end : (n ≡ 0) ↔ ((length buffer ≡ 0) ⊎ (length file ≤ at))

-- behind what was written there stands a first part of what was due, none and all among them
abbrev pub HasPart : List ℕ → List ℕ → List ℕ → Type 0
HasPart before due now = (n : ℕ) × (now ≡ before ++ take n due)
