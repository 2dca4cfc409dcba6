-- The log as a text: a line that names the format, three lines for each section, and a line `end`. In a log that goes
-- on, the letters of its open section are the last of the text, with no line feed behind them.
use Rattle.std.specs.Prelude.{ℕ, ◌≡◌, ◌≤◌, ◌<◌, ◌↔◌, List, [], ◌∷◌, ◌++◌, length, take, All, codes, Option, Some, None, IfSome, IsSome, Bool, true, false, Ok}
use Rattle.std.specs.List.{flat_map, AllByRecursion}
use Rattle.std.specs.Fmt.{decimal}
use Rattle.hex.specs.Hex.{decode_sized, encode_lower}
use Rattle.closing_log.specs.declared.log.Stage.{Stage}
use Rattle.closing_log.specs.declared.log.Stage.TheVariants.{Presets, Changeless, LeanBig, Draw, LeanSmall, Wide}
use Rattle.closing_log.specs.Log.{PlainSection, PlainOpen, PlainLog}

-- ---- words

-- the word of a stage
abbrev pub stage_word : Stage → List ℕ
stage_word Presets = codes "presets"
stage_word Changeless = codes "changeless"
stage_word LeanBig = codes "lean-big"
stage_word Draw = codes "draw"
stage_word LeanSmall = codes "lean-small"
stage_word Wide = codes "wide"

-- the stages that a log has sections of
abbrev pub IsSearched : Stage → Type 0
IsSearched Changeless = Unit {0}
IsSearched LeanBig = Unit {0}
IsSearched LeanSmall = Unit {0}
IsSearched _ = ⊥

-- a letter is a printed ASCII character but the blank
abbrev pub IsLetter : ℕ → Type 0
IsLetter b = (33 ≤ b) × (b ≤ 126)

-- numbers with a blank between them
abbrev pub places_text : List ℕ → List ℕ
places_text [] = []
places_text (p ∷ ps) = decimal p ++ flat_map (λ (q : ℕ). 32 ∷ decimal q) ps

-- the places of an answer, or `none`
abbrev pub answer_text : Option (List ℕ) → List ℕ
answer_text None = codes "none"
answer_text (Some ps) = places_text ps

-- 64 hex digits, each in either case, spell the 32 bytes of a digest
abbrev pub IsDigest : List ℕ → List ℕ → Type 0
IsDigest digits digest = decode_sized digits 32 ≡ Ok digest

-- ---- lines

-- a section up to its letters; `digits` are those of its digest
abbrev pub head_text : List ℕ → ℕ → Stage → List ℕ
head_text digits row stage =
    codes "section " ++ (decimal row ++ (codes " " ++ (stage_word stage ++ (codes " " ++ (digits ++ codes "\ntokens ")))))

-- the three lines of a section
abbrev pub closed_text : List ℕ → PlainSection → List ℕ
closed_text digits s = head_text digits s.row s.stage ++ (s.letters ++ (codes "\nanswer " ++ (answer_text s.answer ++ codes "\n")))

-- the line and the letters of an open section
abbrev pub open_text : List ℕ → PlainOpen → List ℕ
open_text digits o = head_text digits o.row o.stage ++ o.letters

-- ---- what has a text

-- an answer isn't empty
abbrev pub IsAnswer : Option (List ℕ) → Type 0
IsAnswer answer = IfSome answer (λ ps. 0 < length ps)

pub record CanBeClosed (s : PlainSection) : Type 0 where
  pub stage : IsSearched s.stage
  pub letters : All IsLetter s.letters
  pub some : 0 < length s.letters
  pub answer : IsAnswer s.answer

pub record CanBeOpen (o : PlainOpen) : Type 0 where
  pub stage : IsSearched o.stage
  pub letters : All IsLetter o.letters

-- a log that can be written: it has an open section exactly where it isn't ended
pub record CanBeWritten (log : PlainLog) : Type 0 where
  pub closed : AllByRecursion CanBeClosed log.closed
  pub tail : IfSome log.tail CanBeOpen
  pub ended : IsSome log.tail ↔ (log.ended ≡ false)

-- numbers that fit: a row in a byte, a place in four bytes
abbrev pub HasSmallPlaces : Option (List ℕ) → Type 0
HasSmallPlaces answer = IfSome answer (λ ps. AllByRecursion (λ p. p ≤ 4_294_967_295) ps)

-- ---- the relation between bytes and a log

pub record IsClosed (text : List ℕ) (s : PlainSection) : Type 0 where
  pub digits : List ℕ
  pub lines : text ≡ closed_text digits s
  pub digest : IsDigest digits s.digest
  pub row : s.row ≤ 255
  pub can : CanBeClosed s
  pub places : HasSmallPlaces s.answer

pub record IsOpen (text : List ℕ) (o : PlainOpen) : Type 0 where
  pub digits : List ℕ
  pub lines : text ≡ open_text digits o
  pub digest : IsDigest digits o.digest
  pub row : o.row ≤ 255
  pub can : CanBeOpen o

-- what stands behind the sections: the line `end`, or the open section
abbrev pub IsEnding : List ℕ → Option PlainOpen → Bool → Type 0
IsEnding text None true = text ≡ codes "end\n"
IsEnding text (Some o) false = IsOpen text o
IsEnding text _ _ = ⊥

-- sections one behind the other
pub record AreJoined (First : List ℕ → Type 0) (Others : List ℕ → Type 0) (text : List ℕ) : Type 0 where
  pub front : List ℕ
  pub back : List ℕ
  pub parts : text ≡ front ++ back
  pub first : First front
  pub others : Others back

abbrev pub AreSections : List PlainSection → (List ℕ → Type 0) → List ℕ → Type 0
AreSections [] Ending text = Ending text
AreSections (s ∷ ss) Ending text = AreJoined (λ front. IsClosed front s) (AreSections ss Ending) text

-- the bytes are a text of this log
pub record IsLogText (bytes : List ℕ) (log : PlainLog) : Type 0 where
  pub back : List ℕ
  pub parts : bytes ≡ codes "fund-log 1\n" ++ back
  pub sections : AreSections log.closed (λ text. IsEnding text log.tail log.ended) back

-- ---- the sections before a place

abbrev pub Anything : List ℕ → Type 0
Anything text = Unit {0}

-- these sections stand whole before the place, the first of them behind the line that names the format
pub record StandBefore (bytes : List ℕ) (place : ℕ) (ss : List PlainSection) : Type 0 where
  pub back : List ℕ
  pub parts : take place bytes ≡ codes "fund-log 1\n" ++ back
  pub sections : AreSections ss Anything back

-- so many sections stand whole before the place, and no more
pub record IsCount (bytes : List ℕ) (place n : ℕ) : Type 0 where
  pub most : (ss : List PlainSection) → StandBefore bytes place ss → length ss ≤ n
  pub some : 0 < n → (ss : List PlainSection) × (length ss ≡ n) × StandBefore bytes place ss

-- ---- the text that is written, with digests in lower case

abbrev pub section_text : PlainSection → List ℕ
section_text s = closed_text (encode_lower s.digest) s

abbrev pub tail_text : PlainOpen → List ℕ
tail_text o = open_text (encode_lower o.digest) o

abbrev pub ending_text : Option PlainOpen → Bool → List ℕ
ending_text None true = codes "end\n"
ending_text None false = []
ending_text (Some o) ended = tail_text o

unfoldable pub text_of : PlainLog → List ℕ
text_of log = codes "fund-log 1\n" ++ (flat_map section_text log.closed ++ ending_text log.tail log.ended)

-- numbers as machines hold them: a row in a byte, a place in four bytes, 32 bytes of a digest
pub record IsSizedSection (s : PlainSection) : Type 0 where
  pub row : s.row ≤ 255
  pub digest : (length s.digest ≡ 32) × All (λ b. b < 256) s.digest
  pub places : HasSmallPlaces s.answer

pub record IsSizedOpen (o : PlainOpen) : Type 0 where
  pub row : o.row ≤ 255
  pub digest : (length o.digest ≡ 32) × All (λ b. b < 256) o.digest

pub record IsSized (log : PlainLog) : Type 0 where
  pub closed : AllByRecursion IsSizedSection log.closed
  pub tail : IfSome log.tail IsSizedOpen
