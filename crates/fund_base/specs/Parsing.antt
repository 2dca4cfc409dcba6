-- Reading that goes from part to part and answers the first fault in reading order. Each format
-- brings a type of faults of its own.
use Rattle.std.specs.Prelude.{ℕ, zero, suc, ◌≡◌, ◌≢◌, ◌==◌, List, [], ◌∷◌, ◌++◌, length, Result, Ok, Err, if◌then◌else◌}
use Rattle.fund_base.specs.Cursor.{At, take_at, compact_at}
use Rattle.fund_base.specs.declared.cursor.CutFault.{CutFault}

-- one part, and then what depends on it
infixl 10 ◌>>=◌
abbrev pub ◌>>=◌ : {A B E : Type 0} → Result A E → (A → Result B E) → Result B E
(Ok x) >>= f = f x
(Err e) >>= f = Err e

-- a fault told as one of another type
abbrev pub fault_as : {A E F : Type 0} → (E → F) → Result A E → Result A F
fault_as tell (Ok x) = Ok x
fault_as tell (Err e) = Err (tell e)

-- a fault of the cursor told as one of the format
abbrev pub cut_as : {A E : Type 0} → (CutFault → E) → Result A CutFault → Result A E
cut_as tell read = fault_as tell read

-- a string behind its length in CompactSize
unfoldable pub string_at : At → Result (List ℕ × At) CutFault
string_at at = do
  n ← compact_at at
  take_at n.0 n.1

-- So many items, one behind the other; how each is read may depend on those before it.
unfoldable pub many_from : {X E : Type 0} → (List X → At → Result (X × At) E) → ℕ → List X → At → Result (List X × At) E
many_from item zero before at = Ok (before, at)
many_from item (suc n) before at = do
  x ← item before at
  many_from item n (before ++ x.0 ∷ []) x.1

-- So many items that are read alike.
abbrev pub many_at : {X E : Type 0} → (At → Result (X × At) E) → ℕ → At → Result (List X × At) E
many_at item n at = many_from (λ _. item) n [] at

-- The number of items in CompactSize, and the items, which are read alike.
unfoldable pub counted_at : {X E : Type 0} → (CutFault → E) → (At → Result (X × At) E) → At → Result (List X × At) E
counted_at tell item at = do
  n ← cut_as tell (compact_at at)
  many_at item n.0 n.1

-- the whole of a text: nothing is left behind what was read
abbrev pub whole_of : {X E : Type 0} → (ℕ → E) → Result (X × At) E → Result X E
whole_of trailing read = read >>= λ x. if length x.1.rest == 0 then Ok x.0 else Err (trailing x.1.place)

-- What a call returned, seen by view, and where it left the cursor, is what reading gives, unless
-- memory ran out.
abbrev pub Yields : {X Y E : Type 0} → E → (X → Y) → At → Result X E → Result (Y × At) E → Type 0
Yields memory view new (Ok x) read = read ≡ Ok (view x, new)
Yields memory view new (Err e) read = e ≢ memory → read ≡ Err e

-- The same of a call on a whole text.
abbrev pub YieldsAll : {X Y E : Type 0} → E → (X → Y) → Result X E → Result Y E → Type 0
YieldsAll memory view (Ok x) read = read ≡ Ok (view x)
YieldsAll memory view (Err e) read = e ≢ memory → read ≡ Err e
