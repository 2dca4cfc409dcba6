-- A record, by its first eight bytes and those of its block.
use Rattle.std.proofs.Common.{◌≡◌, ℕ, ◌+◌, ◌<◌, ◌≤◌, Bool, true, false, cond, ltb, List, ◌++◌, length, take, drop, Result, Ok, Err, Option, Some, None, refl, sym, ap, subst, ◌∙◌, arith, inl, inr}
use Rattle.std.specs.Prelude.{◌==◌, ◌||◌, ◌&&◌, bytes_eq}
use Rattle.std.specs.Int.{w32, from_le_bytes}
use Rattle.std.specs.List.{list_all}
use Rattle.std.proofs.Math.Seq.{take-add}
use Rattle.std.proofs.lemmas.Bool.{cases_Bool, cases_lt, lt-ltb, le-ltb, and_parts}
use Rattle.std.proofs.lemmas.List.{take-append-drop, take_all, take-take, drop-drop, drop-take, length-take, length-take-le, length-drop}
use Rattle.std.proofs.lemmas.List.Folds.{list_all-append}
use Rattle.fund_base.specs.Parsing.{◌>>=◌}
use Rattle.fund_base.proofs.Laws.{bind_is}
use Rattle.fund_base.proofs.Lists.{equal_bytes}
use Rattle.block_feed.specs.Block.{magic}
use Rattle.block_feed.specs.Feed.{Finds}
use Rattle.block_feed.specs.Reading.{cut_off, magic_at, sized_at, body_at, record_at, size_at, filled_at, ended_at}
use Rattle.block_feed.specs.declared.fault.FeedFault.{FeedFault}
use Rattle.block_feed.specs.declared.fault.FeedFault.TheVariants.{Magic, Length, Limit}
use Rattle.block_feed.proofs.Failing.{bind_fails}
use Rattle.block_feed.proofs.PartLaws.{front_not}

abbrev are_zero : List ℕ → Bool
are_zero bytes = list_all (λ b. b == 0) bytes

-- the body behind its length, in one step or in two
some_or : (few : Bool) (cut : FeedFault) (body : List ℕ) → ((cond few (Err cut) (Ok body)) >>= λ (b : List ℕ). Ok (Some b)) ≡ cond few (Err cut) (Ok (Some body))
some_or true cut body = refl
some_or false cut body = refl

sized_is : (wrong : Bool) (fault cut : FeedFault) (size : ℕ) (behind : List ℕ)
    → ((cond wrong (Err fault) (cond (ltb (length behind) size) (Err cut) (Ok (take size behind)))) >>= λ (b : List ℕ). Ok (Some b)) ≡ ((cond wrong (Err fault) (Ok size)) >>= λ (n : ℕ). cond (ltb (length behind) n) (Err cut) (Ok (Some (take n behind))))
sized_is true fault cut size behind = refl
sized_is false fault cut size behind = some_or (ltb (length behind) size) cut (take size behind)

-- all that there is, is fewer than eight bytes
short_is : (longer : Bool) (place : ℕ) (rest : List ℕ) → length rest < 8 → (magic_at longer place rest >>= λ after. body_at longer (place + 4) after >>= λ b. Ok (Some b)) ≡ (size_at longer place rest >>= filled_at longer place (drop 8 rest))
unfolding magic_at body_at size_at
short_is longer place rest few =
    elim (cases_lt (length rest) 4) [
      | inl less ↦
          let short : ltb (length rest) 4 ≡ true = lt-ltb (length rest) 4 less in
          rw short refl
      | inr more ↦
          let long : ltb (length rest) 4 ≡ false = le-ltb (length rest) 4 more in
          let cut : ltb (length (drop 4 rest)) 4 ≡ true = lt-ltb (length (drop 4 rest)) 4 (omega (arith, length-drop 4 rest)) in
          elim (cases_Bool (bytes_eq (take 4 rest) magic)) [
            | inl there ↦ rw (long, there, cut) refl
            | inr other ↦ rw (long, other) refl
          ]
    ]

-- there are eight bytes or more
long_is : (longer : Bool) (place : ℕ) (rest : List ℕ) → 8 ≤ length rest → (magic_at longer place rest >>= λ after. body_at longer (place + 4) after >>= λ b. Ok (Some b)) ≡ (size_at longer place (take 8 rest) >>= filled_at longer place (drop 8 rest))
unfolding magic_at body_at size_at sized_at
long_is longer place rest more =
    let long : ltb (length rest) 4 ≡ false = le-ltb (length rest) 4 (omega arith) in
    let len : length (take 8 rest) ≡ 8 = length-take-le 8 rest more in
    let head : ltb (length (take 8 rest)) 4 ≡ false = le-ltb (length (take 8 rest)) 4 (omega arith) in
    let front : take 4 (take 8 rest) ≡ take 4 rest = take-take 4 8 rest (omega arith) in
    elim (cases_Bool (bytes_eq (take 4 rest) magic)) [
      | inr other ↦ rw (long, head, front, other) refl
      | inl there ↦
          let behind : drop 4 (take 8 rest) ≡ take 4 (drop 4 rest) = drop-take 4 4 rest in
          let four : length (take 4 (drop 4 rest)) ≡ 4 = length-take-le 4 (drop 4 rest) (omega (arith, length-drop 4 rest)) in
          let whole : ltb (length (take 4 (drop 4 rest))) 4 ≡ false = le-ltb (length (take 4 (drop 4 rest))) 4 (omega arith) in
          let own : take 4 (take 4 (drop 4 rest)) ≡ take 4 (drop 4 rest) = take-take 4 4 (drop 4 rest) (omega arith) in
          let enough : ltb (length (drop 4 rest)) 4 ≡ false = le-ltb (length (drop 4 rest)) 4 (omega (arith, length-drop 4 rest)) in
          let body : drop 4 (drop 4 rest) ≡ drop 8 rest = drop-drop 4 4 rest in
          let size : ℕ = from_le_bytes w32 (take 4 (drop 4 rest)) in
          rw (long, head, front, there, behind, whole, own, enough, body) (sized_is (ltb size 81 || ltb 4_000_000 size) (Length (place + 4)) (cut_off longer (Length (place + 4))) size (drop 8 rest))
    ]

-- A record is read by its first eight bytes, which say how many follow.
pub by_size : (longer : Bool) (place : ℕ) (rest : List ℕ) → are_zero rest ≡ false → record_at longer place rest ≡ (size_at longer place (take 8 rest) >>= filled_at longer place (drop 8 rest))
unfolding record_at
by_size longer place rest some =
    elim (cases_lt (length rest) 8) [
      | inl few ↦
          let whole : take 8 rest ≡ rest = take_all 8 rest (omega arith) in
          rw some (short_is longer place rest few ∙ ap (λ (l : List ℕ). size_at longer place l >>= filled_at longer place (drop 8 rest)) (sym whole))
      | inr more ↦ rw some (long_is longer place rest more)
    ]

-- Of eight bytes it isn't asked whether the file is longer.
pub size_same : (longer : Bool) (place : ℕ) (head : List ℕ) → 8 ≤ length head → size_at false place head ≡ size_at longer place head
unfolding size_at magic_at
size_same longer place head more =
    let long : ltb (length head) 4 ≡ false = le-ltb (length head) 4 (omega arith) in
    let enough : ltb (length (drop 4 head)) 4 ≡ false = le-ltb (length (drop 4 head)) 4 (omega (arith, length-drop 4 head)) in
    elim (cases_Bool (bytes_eq (take 4 head) magic)) [
      | inl there ↦ rw (long, there, enough) refl
      | inr other ↦ rw (long, other) refl
    ]

-- ---- what a call found

pub found_fault : (longer : Bool) (place : ℕ) (rest head : List ℕ) (d : FeedFault) → are_zero head ≡ false → head ≡ take 8 rest → are_zero rest ≡ false → size_at longer place head ≡ Err d → record_at longer place rest ≡ Err d
found_fault longer place rest head d other front some fails =
    by_size longer place rest some ∙ bind_fails (size_at longer place (take 8 rest)) _ d (ap (λ (l : List ℕ). size_at longer place l) (sym front) ∙ fails)

found_by : (longer : Bool) (place size : ℕ) (rest head : List ℕ) → head ≡ take 8 rest → are_zero rest ≡ false → size_at longer place head ≡ Ok size → record_at longer place rest ≡ filled_at longer place (drop 8 rest) size
found_by longer place size rest head front some reads =
    by_size longer place rest some ∙ bind_is (size_at longer place (take 8 rest)) _ size _ (ap (λ (l : List ℕ). size_at longer place l) (sym front) ∙ reads) refl

pub found_short : (longer : Bool) (place size : ℕ) (rest head body : List ℕ) → head ≡ take 8 rest → are_zero rest ≡ false → size_at longer place head ≡ Ok size → body ≡ take size (drop 8 rest) → length body < size → record_at longer place rest ≡ Err (cut_off longer (Length (place + 4)))
found_short longer place size rest head body front some reads is few =
    let len : length body ≡ length (take size (drop 8 rest)) = ap (λ (l : List ℕ). length l) is in
    let short : ltb (length (drop 8 rest)) size ≡ true = lt-ltb (length (drop 8 rest)) size (omega (arith, length-take size (drop 8 rest))) in
    found_by longer place size rest head front some reads ∙ rw short refl

pub found_whole : (longer : Bool) (place size : ℕ) (rest head body : List ℕ) → head ≡ take 8 rest → are_zero rest ≡ false → size_at longer place head ≡ Ok size → body ≡ take size (drop 8 rest) → size ≤ length body → record_at longer place rest ≡ Ok (Some body)
found_whole longer place size rest head body front some reads is enough =
    let len : length body ≡ length (take size (drop 8 rest)) = ap (λ (l : List ℕ). length l) is in
    let long : ltb (length (drop 8 rest)) size ≡ false = le-ltb (length (drop 8 rest)) size (omega (arith, length-take size (drop 8 rest))) in
    found_by longer place size rest head front some reads ∙ rw long (ap (λ (l : List ℕ). Ok (Some l)) (sym is))

-- the two parts of a record are one part of the file
pub joined : (rest head body : List ℕ) (size : ℕ) → head ≡ take 8 rest → body ≡ take size (drop 8 rest) → size ≤ length body → head ++ body ≡ take (8 + length body) rest
joined rest head body size front is enough =
    let len : length body ≡ length (take size (drop 8 rest)) = ap (λ (l : List ℕ). length l) is in
    let all : length body ≡ size = omega (arith, length-take size (drop 8 rest)) in
    ap (λ (l : List ℕ). l ++ body) front
    ∙ ap (λ (l : List ℕ). take 8 rest ++ l) is
    ∙ sym (take-add 8 size rest)
    ∙ ap (λ (n : ℕ). take (8 + n) rest) (sym all)

-- ---- the end

-- a first part of zeros
zeros_front : (n : ℕ) (xs : List ℕ) → are_zero xs ≡ true → are_zero (take n xs) ≡ true
zeros_front n xs zeros =
    let parts : (are_zero (take n xs) && are_zero (drop n xs)) ≡ true = sym (list_all-append (λ b. b == 0) (take n xs) (drop n xs)) ∙ ap are_zero (take-append-drop n xs) ∙ zeros in
    (and_parts (are_zero (take n xs)) (are_zero (drop n xs)) parts).0

not_magic : are_zero magic ≡ true → ⊥
not_magic zeros = absurd cc

false_is : (b : Bool) → (b ≡ true → ⊥) → b ≡ false
false_is true never = absurd (never refl)
false_is false never = refl

-- Where the first eight bytes are zero, or all that there are, no magic is there.
pub zero_head : (longer : Bool) (place : ℕ) (rest : List ℕ) → are_zero (take 8 rest) ≡ true → record_at longer place rest ≡ ended_at longer place rest
unfolding record_at magic_at
zero_head longer place rest zeros =
    elim (cases_Bool (are_zero rest)) [
      | inl tail ↦ rw tail refl
      | inr other ↦
          let more : 8 ≤ length rest = enough other in
          let long : ltb (length rest) 4 ≡ false = le-ltb (length rest) 4 (omega arith) in
          let four : are_zero (take 4 rest) ≡ true = ap are_zero (sym (take-take 4 8 rest (omega arith))) ∙ zeros_front 4 (take 8 rest) zeros in
          let none : bytes_eq (take 4 rest) magic ≡ false = false_is (bytes_eq (take 4 rest) magic) (λ same. not_magic (ap are_zero (sym (equal_bytes (take 4 rest) magic same)) ∙ four)) in
          rw (other, long, none) refl
    ]
  where
    enough : are_zero rest ≡ false → 8 ≤ length rest
    enough other =
        elim (cases_lt (length rest) 8) [
          | inl few ↦
              let all : are_zero rest ≡ true = ap are_zero (sym (take_all 8 rest (omega arith))) ∙ zeros in
              absurd cc
          | inr more ↦ more
        ]

pub ended_not : (longer zeros : Bool) (place : ℕ) (rest : List ℕ) → zeros ≡ are_zero rest → zeros ≡ false → ended_at longer place rest ≡ Err (Magic place)
ended_not longer zeros place rest are none =
    let e : are_zero rest ≡ false = sym are ∙ none in
    rw e refl

pub ended_long : (longer zeros more : Bool) (place : ℕ) (rest : List ℕ) → zeros ≡ are_zero rest → zeros ≡ true → more ≡ longer → more ≡ true → ended_at longer place rest ≡ Err Limit
ended_long longer zeros more place rest are all is there =
    let e : are_zero rest ≡ true = sym are ∙ all in
    let l : longer ≡ true = sym is ∙ there in
    rw (e, l) refl

pub ended_all : (longer zeros more : Bool) (place : ℕ) (rest : List ℕ) → zeros ≡ are_zero rest → zeros ≡ true → more ≡ longer → more ≡ false → ended_at longer place rest ≡ Ok None
ended_all longer zeros more place rest are all is there =
    let e : are_zero rest ≡ true = sym are ∙ all in
    let l : longer ≡ false = sym is ∙ there in
    rw (e, l) refl

-- ---- what is read of a file that stays as it is

pub head_zero : (zero : Bool) (seen head rest : List ℕ) → zero ≡ are_zero seen → seen ≡ head → head ≡ take 8 rest → zero ≡ true → are_zero (take 8 rest) ≡ true
head_zero zero seen head rest is same front told = ap are_zero (sym (same ∙ front)) ∙ sym is ∙ told

pub head_some : (zero : Bool) (seen head : List ℕ) → zero ≡ are_zero seen → seen ≡ head → zero ≡ false → are_zero head ≡ false
head_some zero seen head is same told = ap are_zero (sym same) ∙ sym is ∙ told

pub rest_some : (head rest : List ℕ) → are_zero head ≡ false → head ≡ take 8 rest → are_zero rest ≡ false
rest_some head rest other front = front_not 8 rest (ap are_zero (sym front) ∙ other)

pub size_there : (m place : ℕ) (old now : List ℕ → List ℕ) (name seen head : List ℕ) (r : Result ℕ FeedFault) → now ≡ old → seen ≡ head → Finds (λ (n : ℕ). n) r (size_at (ltb m (length (now name))) place seen) → Finds (λ (n : ℕ). n) r (size_at (ltb m (length (old name))) place head)
size_there m place old now name seen head r same front h =
    subst (λ (l : List ℕ). Finds (λ (n : ℕ). n) r (size_at (ltb m (length (old name))) place l)) front
    (subst (λ (files : List ℕ → List ℕ). Finds (λ (n : ℕ). n) r (size_at (ltb m (length (files name))) place seen)) same h)

pub body_there : (m place size : ℕ) (old now : List ℕ → List ℕ) (name body : List ℕ) → now ≡ old → body ≡ take size (drop (place + 8) (take m (now name))) → body ≡ take size (drop 8 (drop place (take m (old name))))
body_there m place size old now name body same is =
    is
    ∙ ap (λ (files : List ℕ → List ℕ). take size (drop (place + 8) (take m (files name)))) same
    ∙ ap (λ (l : List ℕ). take size l) (sym (drop-drop 8 place (take m (old name))))

pub end_there : {X : Type 0} (m place : ℕ) (old now : List ℕ → List ℕ) (name : List ℕ) (r : Result X FeedFault) (seen : X → Option (List ℕ)) → now ≡ old → Finds seen r (ended_at (ltb m (length (now name))) place (drop place (take m (now name)))) → Finds seen r (ended_at (ltb m (length (old name))) place (drop place (take m (old name))))
end_there m place old now name r seen same h = subst (λ (files : List ℕ → List ℕ). Finds seen r (ended_at (ltb m (length (files name))) place (drop place (take m (files name))))) same h

pub cut_there : (m place : ℕ) (old now : List ℕ → List ℕ) (name : List ℕ) (d : FeedFault) → now ≡ old → d ≡ cut_off (ltb m (length (now name))) (Length place) → d ≡ cut_off (ltb m (length (old name))) (Length place)
cut_there m place old now name d same is = is ∙ ap (λ (files : List ℕ → List ℕ). cut_off (ltb m (length (files name))) (Length place)) same
