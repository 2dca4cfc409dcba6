-- Parts of a file that is read piece by piece.
use Rattle.std.proofs.Common.{◌≡◌, ◌≤◌, ◌<◌, ℕ, ◌+◌, ◌-◌, min, Bool, true, false, ltb, List, [], ◌++◌, length, take, drop, Result, Ok, Err, refl, sym, ◌∙◌, ap, subst, arith, inl, inr}
use Rattle.std.specs.Prelude.{◌==◌, ◌&&◌, IfOk}
use Rattle.std.specs.List.{list_all}
use Rattle.std.proofs.Math.Seq.{take-add}
use Rattle.std.proofs.lemmas.Bool.{cases_lt, eqb-true, lt-ltb, le-ltb}
use Rattle.std.proofs.lemmas.List.{take-append-drop, take_all, take-take, drop-drop, drop-take, length-take, length-take-le, length-drop}
use Rattle.std.proofs.lemmas.List.Folds.{list_all-append}
use Rattle.fund_shelf.specs.Causes.{IsRead}
use Rattle.block_feed.specs.Parts.{IsFirstPart}

-- ---- what is read

-- a piece behind those before it
pub part_more : (file part piece next : List ℕ) (at place had n kept len : ℕ) → part ≡ take had (drop at file) → place ≡ at + had → IsRead file place n piece → n ≤ length piece → kept ≤ n → next ≡ part ++ take kept piece → len ≡ had + length (take kept piece) → next ≡ take len (drop at file)
part_more file part piece next at place had n kept len before there read room few more long =
    let le : kept ≤ length piece = omega arith in
    let same : take kept piece ≡ take kept (drop had (drop at file)) =
    sym (take-take kept n piece few)
    ∙ ap (λ (l : List ℕ). take kept l) read.bytes
    ∙ take-take kept n (drop place file) few
    ∙ ap (λ (p : ℕ). take kept (drop p file)) there
    ∙ ap (λ (l : List ℕ). take kept l) (sym (drop-drop had at file)) in
    more
    ∙ ap (λ (l : List ℕ). l ++ take kept piece) before
    ∙ ap (λ (l : List ℕ). take had (drop at file) ++ l) same
    ∙ sym (take-add had kept (drop at file))
    ∙ ap (λ (k : ℕ). take k (drop at file)) (sym (long ∙ ap (λ (k : ℕ). had + k) (length-take-le kept piece le)))

-- no more than is wanted
pub part_few : (piece : List ℕ) (had count kept len : ℕ) → kept ≤ count - had → had ≤ count → len ≡ had + length (take kept piece) → len ≤ count
part_few piece had count kept len room few long = omega (arith, length-take kept piece)

-- where no byte was read, the file has no more
pub part_all : (file part piece : List ℕ) (at place had count n : ℕ) → part ≡ take had (drop at file) → place ≡ at + had → 0 < length piece → IsRead file place n piece → n ≡ 0 → had ≤ count → part ≡ take count (drop at file)
part_all file part piece at place had count n before there room read none few =
    let ends : length file ≤ place = elim (read.end.0 none) [ inl nothing ↦ absurd (omega arith) | inr all ↦ all ] in
    let all : length (drop at file) ≤ had = omega (arith, length-drop at file) in
    let more : length (drop at file) ≤ count = omega arith in
    before ∙ take_all had (drop at file) all ∙ sym (take_all count (drop at file) more)

-- all that is wanted was read
pub part_full : (file part : List ℕ) (at had count : ℕ) → part ≡ take had (drop at file) → had ≡ count → part ≡ take count (drop at file)
part_full file part at had count before full = before ∙ ap (λ (n : ℕ). take n (drop at file)) full

-- within the limit, the bytes from a place on are those of the file
pub seen_take : (m at n : ℕ) (file : List ℕ) → at + n ≤ m → take n (drop at (take m file)) ≡ take n (drop at file)
seen_take m at n file le =
    let whole : m ≡ at + (m - at) = omega arith in
    ap (λ (k : ℕ). take n (drop at (take k file))) whole
    ∙ ap (λ (l : List ℕ). take n l) (drop-take at (m - at) file)
    ∙ take-take n (m - at) (drop at file) (omega arith)

-- as many bytes as are wanted, or those within the limit
pub part_seen : (m at n k : ℕ) (file : List ℕ) → at ≤ m → k ≡ min n (m - at) → take k (drop at file) ≡ take n (drop at (take m file))
part_seen m at n k file le is =
    let whole : m ≡ at + (m - at) = omega arith in
    let seen : drop at (take m file) ≡ take (m - at) (drop at file) = ap (λ (j : ℕ). drop at (take j file)) whole ∙ drop-take at (m - at) file in
    let short : length (take (m - at) (drop at file)) ≤ m - at = omega (arith, length-take (m - at) (drop at file)) in
    elim (cases_lt n (m - at)) [
      | inl less ↦
          let same : k ≡ n = omega arith in
          ap (λ (j : ℕ). take j (drop at file)) same ∙ sym (ap (λ (l : List ℕ). take n l) seen ∙ take-take n (m - at) (drop at file) (omega arith))
      | inr rest ↦
          let same : k ≡ m - at = omega arith in
          ap (λ (j : ℕ). take j (drop at file)) same ∙ sym (ap (λ (l : List ℕ). take n l) seen ∙ take_all n (take (m - at) (drop at file)) (omega arith))
    ]

pub part_if : {X E : Type 0} (items : X → List ℕ) (m at n k : ℕ) (file : List ℕ) (r : Result X E) → at ≤ m → k ≡ min n (m - at) → IfOk r (λ x. items x ≡ take k (drop at file)) → IfOk r (λ x. items x ≡ take n (drop at (take m file)))
part_if items m at n k file (Ok x) le is h = h ∙ part_seen m at n k file le is
part_if items m at n k file (Err e) le is h = tt

-- a first part of what is there
pub first_if : {X E : Type 0} (items : X → List ℕ) (n : ℕ) (rest : List ℕ) (r : Result X E) → 0 < n → IfOk r (λ x. items x ≡ take n rest) → IfOk r (λ x. IsFirstPart rest (items x))
first_if items n rest (Ok x) some h = record { count = n; some = some; is = h }
first_if items n rest (Err e) some h = tt

some : (n : ℕ) → (n ≡ 0 → ⊥) → 0 < n
some n apart = omega arith

-- a byte behind the first m is read exactly where the file has more
pub longer_is : (m n : ℕ) (file byte : List ℕ) → length byte ≡ 1 → IsRead file m n byte → ltb 0 n ≡ ltb m (length file)
longer_is m n file byte one read =
    elim (cases_lt m (length file)) [
      | inl more ↦
          let there : 0 < n = some n (λ none. elim (read.end.0 none) [ inl room ↦ absurd (omega arith) | inr all ↦ absurd (omega arith) ]) in
          lt-ltb 0 n there ∙ sym (lt-ltb m (length file) more)
      | inr all ↦
          let none : n ≡ 0 = read.end.1 (inr all) in
          le-ltb 0 n (omega arith) ∙ sym (le-ltb m (length file) all)
    ]

-- ---- zero bytes

abbrev are_zero : List ℕ → Bool
are_zero bytes = list_all (λ b. b == 0) bytes

-- what was taken, by its own length
take_own : (n : ℕ) (xs : List ℕ) → take (length (take n xs)) xs ≡ take n xs
take_own n xs =
    elim (cases_lt n (length xs)) [
      | inl less ↦ ap (λ (k : ℕ). take k xs) (length-take-le n xs (omega arith))
      | inr all ↦
          let whole : take n xs ≡ xs = take_all n xs all in
          ap (λ (k : ℕ). take k xs) (ap (λ (l : List ℕ). length l) whole) ∙ take_all (length xs) xs (omega arith) ∙ sym whole
    ]

-- one piece more is taken
pub taken_more : (rest piece : List ℕ) (k : ℕ) → IsFirstPart (drop k rest) piece → take (k + length piece) rest ≡ take k rest ++ piece
taken_more rest piece k first =
    take-add k (length piece) rest
    ∙ ap (λ (l : List ℕ). take k rest ++ l) (ap (λ (l : List ℕ). take (length l) (drop k rest)) first.is ∙ take_own first.count (drop k rest) ∙ sym first.is)

both : (a b : Bool) → a ≡ true → b ≡ true → (a && b) ≡ true
both a b p q = rw (p, q) refl

-- zeros, and then a piece of zeros
pub zeros_more : (rest piece : List ℕ) (k : ℕ) → IsFirstPart (drop k rest) piece → are_zero (take k rest) ≡ true → are_zero piece ≡ true → are_zero (take (k + length piece) rest) ≡ true
zeros_more rest piece k first before zeros =
    ap are_zero (taken_more rest piece k first)
    ∙ list_all-append (λ b. b == 0) (take k rest) piece
    ∙ both (are_zero (take k rest)) (are_zero piece) before zeros

-- nothing more is there
pub tail_all : (rest piece : List ℕ) (k : ℕ) → IsFirstPart (drop k rest) piece → length piece ≡ 0 → take k rest ≡ rest
tail_all rest piece k first none =
    let some = first.some in
    let len : length (take first.count (drop k rest)) ≡ 0 = ap (λ (l : List ℕ). length l) (sym first.is) ∙ none in
    take_all k rest (omega (arith, length-take first.count (drop k rest), length-drop k rest))

pub zeros_end : (rest piece : List ℕ) (k : ℕ) → IsFirstPart (drop k rest) piece → length piece ≡ 0 → are_zero (take k rest) ≡ true → true ≡ are_zero rest
zeros_end rest piece k first none before = sym (ap are_zero (sym (tail_all rest piece k first none)) ∙ before)

false_front : (a b : Bool) → a ≡ false → (a && b) ≡ false
false_front a b p = rw p refl

false_behind : (a b : Bool) → b ≡ false → (a && b) ≡ false
false_behind true b p = p
false_behind false b p = refl

-- where a first part isn't zero, the whole isn't
pub front_not : (n : ℕ) (rest : List ℕ) → are_zero (take n rest) ≡ false → are_zero rest ≡ false
front_not n rest some =
    ap are_zero (sym (take-append-drop n rest))
    ∙ list_all-append (λ b. b == 0) (take n rest) (drop n rest)
    ∙ false_front (are_zero (take n rest)) (are_zero (drop n rest)) some

-- nor where a later piece isn't
pub zeros_not : (rest piece : List ℕ) (k : ℕ) → IsFirstPart (drop k rest) piece → are_zero piece ≡ false → false ≡ are_zero rest
zeros_not rest piece k first other =
    let behind : are_zero (drop k rest) ≡ false = front_not first.count (drop k rest) (ap are_zero (sym first.is) ∙ other) in
    sym (
    ap are_zero (sym (take-append-drop k rest))
    ∙ list_all-append (λ b. b == 0) (take k rest) (drop k rest)
    ∙ false_behind (are_zero (take k rest)) (are_zero (drop k rest)) behind)

-- ---- a scan from a place on

-- the bytes at a later place, as a part of those from the first place on
pub first_from : (front piece : List ℕ) (place at : ℕ) → place ≤ at → IsFirstPart (drop at front) piece → IsFirstPart (drop (at - place) (drop place front)) piece
first_from front piece place at le first =
    let there : place + (at - place) ≡ at = omega arith in
    let same : drop (at - place) (drop place front) ≡ drop at front = drop-drop (at - place) place front ∙ ap (λ (n : ℕ). drop n front) there in
    subst (λ (l : List ℕ). IsFirstPart l piece) (sym same) first

-- nothing was scanned yet
pub scan_none : (rest : List ℕ) (k : ℕ) → k ≡ 0 → are_zero (take k rest) ≡ true
scan_none rest k none = ap (λ (n : ℕ). are_zero (take n rest)) none

-- one piece of zeros more
pub scan_more : (front piece : List ℕ) (place at next : ℕ) → place ≤ at → next ≡ at + length piece → IsFirstPart (drop at front) piece → are_zero (take (at - place) (drop place front)) ≡ true → are_zero piece ≡ true → are_zero (take (next - place) (drop place front)) ≡ true
scan_more front piece place at next le is first before zeros =
    let count : next - place ≡ (at - place) + length piece = omega arith in
    ap (λ (n : ℕ). are_zero (take n (drop place front))) count ∙ zeros_more (drop place front) piece (at - place) (first_from front piece place at le first) before zeros

pub scan_end : (front piece : List ℕ) (place at : ℕ) → place ≤ at → length piece ≡ 0 → IsFirstPart (drop at front) piece → are_zero (take (at - place) (drop place front)) ≡ true → true ≡ are_zero (drop place front)
scan_end front piece place at le none first before = zeros_end (drop place front) piece (at - place) (first_from front piece place at le first) none before

pub scan_not : (front piece : List ℕ) (place at : ℕ) → place ≤ at → IsFirstPart (drop at front) piece → are_zero piece ≡ false → false ≡ are_zero (drop place front)
scan_not front piece place at le first other = zeros_not (drop place front) piece (at - place) (first_from front piece place at le first) other

-- where no piece is left, by the test of its length
pub none_left : (n : ℕ) (piece : List ℕ) (empty : Bool) → empty ≡ (n == 0) → empty ≡ true → n ≡ length piece → length piece ≡ 0
none_left n piece empty is told long = sym long ∙ eqb-true n 0 (sym is ∙ told)

-- a value of so many bytes has some
pub some_if : {X E : Type 0} (len : X → ℕ) (n : ℕ) (r : Result X E) → 0 < n → IfOk r (λ x. len x ≡ n) → IfOk r (λ x. 0 < len x)
some_if len n (Ok x) some is = omega (arith, is)
some_if len n (Err e) some is = tt

-- before the first piece there is nothing
pub part_none : (part file : List ℕ) (n at : ℕ) → part ≡ [] → n ≡ 0 → part ≡ take n (drop at file)
part_none part file n at none zero = none ∙ sym (ap (λ (k : ℕ). take k (drop at file)) zero)
