-- Steps of the loops that read.
use Rattle.std.proofs.Common.{◌≡◌, ℕ, suc, ◌+◌, ◌-◌, ◌<◌, ◌≤◌, min, Bool, true, false, cond, eqb, List, [], ◌∷◌, ◌++◌, length, get_or, take, drop, Some, None, Result, Ok, Err, refl, sym, ap, ◌∙◌, arith, add-one, drop-cons, eq-eqb, ne_eqb}
use Rattle.std.specs.Prelude.{is_some}
use Rattle.std.specs.List.{list_all, prefix_len, slice_range}
use Rattle.std.proofs.lemmas.List.{drop_all, length-drop, length-take-le, take_min}
use Rattle.std.proofs.lemmas.List.Folds.{drop_split, prefix_len-append}
use Rattle.std.proofs.lemmas.List.Sums.{AllPass-from_list_all, prefix_len_is}
use Rattle.std.proofs.Math.Seq.{take-suc}
use Rattle.hex.specs.Hex.{decode_sized, is_hex_digit}
use Rattle.hex.specs.declared.error.FromHexError.{FromHexError}
use Rattle.fund_base.specs.Decimal.{number_of}
use Rattle.closing_log.specs.Log.{PlainSection, PlainOpen}
use Rattle.closing_log.specs.declared.part.Part.TheVariants.{End, Open, Closed}
use Rattle.closing_log.specs.Reading.{word_at, choice_at, shorter_of, digits_at, number_at, places_from, digest_at, digest_end, part_at, body_at}

-- ---- bytes that pass a test

pub prefix_found : (p : ℕ → Bool) (xs : List ℕ) (i : ℕ) → i < length xs → ((k : ℕ) → k < i → p (get_or xs k 0) ≡ true) → p (get_or xs i 0) ≡ false → prefix_len p xs ≡ i
prefix_found p xs i lt below here = prefix_len_is p xs i 0 (omega arith) below (λ h. here)

pub prefix_whole : (p : ℕ → Bool) (xs : List ℕ) (i : ℕ) → length xs ≤ i → ((k : ℕ) → k < i → p (get_or xs k 0) ≡ true) → prefix_len p xs ≡ length xs
prefix_whole p xs i le below = prefix_len_is p xs (length xs) 0 (omega arith) (λ k h. below k (omega arith)) (λ h. absurd (omega arith))

-- behind a part that passes as a whole it goes on
pub prefix_block : (p : ℕ → Bool) (xs : List ℕ) (at end whole : ℕ) → at ≤ end → end ≤ length xs → list_all p (slice_range xs at end) ≡ true → at + prefix_len p (drop at xs) ≡ whole → end + prefix_len p (drop end xs) ≡ whole
prefix_block p xs at end whole le within all so_far =
    let part : List ℕ = slice_range xs at end in
    let passes : prefix_len p part ≡ length part = prefix_whole p part (length part) (omega arith) (λ k lt. AllPass-from_list_all p part all k 0 lt) in
    let same : eqb (prefix_len p part) (length part) ≡ true = eq-eqb _ _ passes in
    let size : length part ≡ end - at = length-take-le (end - at) (drop at xs) (omega (arith, within, length-drop at xs)) in
    let joined : prefix_len p (drop at xs) ≡ length part + prefix_len p (drop end xs) =
    ap (prefix_len p) (drop_split xs at end le) ∙ prefix_len-append p part (drop end xs) ∙ ap (λ (b : Bool). cond b (length part + prefix_len p (drop end xs)) (prefix_len p part)) same in
    omega (arith, so_far, joined, size)

-- ---- words

next : (xs : List ℕ) (i : ℕ) → i < length xs → drop i xs ≡ get_or xs i 0 ∷ drop (i + 1) xs
next xs i lt = drop-cons xs i 0 lt ∙ ap (λ k. get_or xs i 0 ∷ drop k xs) (sym (add-one i))

pub word_more : (word bytes : List ℕ) (i : ℕ) → i < length word → i < length bytes → get_or bytes i 0 ≡ get_or word i 0 → word_at (drop (i + 1) word) (drop (i + 1) bytes) ≡ word_at (drop i word) (drop i bytes)
unfolding word_at
word_more word bytes i lt in_bytes same =
    let yes : eqb (get_or word i 0) (get_or bytes i 0) ≡ true = eq-eqb _ _ (sym same) in
    rw (next word i lt, next bytes i in_bytes, yes) refl

pub word_short : (word bytes : List ℕ) (i : ℕ) → i < length word → length bytes ≤ i → word_at (drop i word) (drop i bytes) ≡ Err (drop i bytes)
unfolding word_at
word_short word bytes i lt none = rw (next word i lt, drop_all i bytes none) refl

pub word_differs : (word bytes : List ℕ) (i : ℕ) → i < length word → i < length bytes → (get_or bytes i 0 ≡ get_or word i 0 → ⊥) → word_at (drop i word) (drop i bytes) ≡ Err (drop i bytes)
unfolding word_at
word_differs word bytes i lt in_bytes other =
    let no : eqb (get_or word i 0) (get_or bytes i 0) ≡ false = ne_eqb _ _ (λ e. other (sym e)) in
    rw (next word i lt, next bytes i in_bytes, no) refl

pub word_done : (word bytes : List ℕ) (i : ℕ) → length word ≤ i → word_at (drop i word) (drop i bytes) ≡ Ok (tt, drop i bytes)
unfolding word_at
word_done word bytes i le = rw (drop_all i word le) refl

-- ---- one of several words

pub choice_found : {X : Type 0} (word : X → List ℕ) (xs : List X) (i : ℕ) (x : X) (stop bytes after : List ℕ) → i < length xs → x ≡ get_or xs i x → word_at (word x) bytes ≡ Ok (tt, after)
    → choice_at word (drop i xs) stop bytes ≡ Ok (x, after)
unfolding choice_at
choice_found {X = X} word xs i x stop bytes after lt is read =
    let here : drop i xs ≡ x ∷ drop (suc i) xs = drop-cons xs i x lt ∙ ap (λ (y : X). y ∷ drop (suc i) xs) (sym is) in
    rw (here, read) refl

pub choice_more : {X : Type 0} (word : X → List ℕ) (xs : List X) (i : ℕ) (x : X) (stop bytes left : List ℕ) → i < length xs → x ≡ get_or xs i x → word_at (word x) bytes ≡ Err left
    → choice_at word (drop (i + 1) xs) (shorter_of left stop) bytes ≡ choice_at word (drop i xs) stop bytes
unfolding choice_at
choice_more {X = X} word xs i x stop bytes left lt is read =
    let here : drop i xs ≡ x ∷ drop (suc i) xs = drop-cons xs i x lt ∙ ap (λ (y : X). y ∷ drop (suc i) xs) (sym is) in
    rw (here, read, add-one) refl

pub choice_none : {X : Type 0} (word : X → List ℕ) (xs : List X) (i : ℕ) (stop bytes : List ℕ) → length xs ≤ i → choice_at word (drop i xs) stop bytes ≡ Err stop
unfolding choice_at
choice_none word xs i stop bytes le = rw (drop_all i xs le) refl

-- ---- digits

pub digits_more : (most : ℕ) (bytes : List ℕ) (i : ℕ) → i < length bytes → is_some (number_of most (take (i + 1) bytes)) ≡ true → digits_at most (take (i + 1) bytes) (drop (i + 1) bytes) ≡ digits_at most (take i bytes) (drop i bytes)
unfolding digits_at
digits_more most bytes i lt fits =
    let front : take (i + 1) bytes ≡ take i bytes ++ get_or bytes i 0 ∷ [] = ap (λ k. take k bytes) (add-one i) ∙ take-suc bytes i 0 lt in
    let here : is_some (number_of most (take i bytes ++ get_or bytes i 0 ∷ [])) ≡ true = ap (λ t. is_some (number_of most t)) (sym front) ∙ fits in
    rw (next bytes i lt, here, front) refl

pub digits_end : (most : ℕ) (bytes : List ℕ) (i : ℕ) → i < length bytes → is_some (number_of most (take (i + 1) bytes)) ≡ false → digits_at most (take i bytes) (drop i bytes) ≡ (take i bytes, drop i bytes)
unfolding digits_at
digits_end most bytes i lt none =
    let front : take (i + 1) bytes ≡ take i bytes ++ get_or bytes i 0 ∷ [] = ap (λ k. take k bytes) (add-one i) ∙ take-suc bytes i 0 lt in
    let here : is_some (number_of most (take i bytes ++ get_or bytes i 0 ∷ [])) ≡ false = ap (λ t. is_some (number_of most t)) (sym front) ∙ none in
    rw (next bytes i lt, here) refl

pub digits_all : (most : ℕ) (bytes : List ℕ) (i : ℕ) → length bytes ≤ i → digits_at most (take i bytes) (drop i bytes) ≡ (take i bytes, drop i bytes)
unfolding digits_at
digits_all most bytes i le = rw (drop_all i bytes le) refl

-- ---- places

step_down : (count i : ℕ) → i < count → count - i ≡ suc (count - (i + 1))
step_down count i lt = omega arith

pub places_more : (count i : ℕ) (done rest : List ℕ) (p e : ℕ) (after : List ℕ) → i < count → number_at 4_294_967_295 (32 ∷ 10 ∷ []) rest ≡ Ok ((p, e), after) → (e ≡ 10 → ⊥)
    → places_from (count - (i + 1)) (done ++ p ∷ []) after ≡ places_from (count - i) done rest
unfolding places_from
places_more count i done rest p e after lt read other =
    let no : eqb e 10 ≡ false = ne_eqb _ _ other in
    rw (step_down count i lt, read, no) refl

pub places_last : (count i : ℕ) (done rest : List ℕ) (p e : ℕ) (after : List ℕ) → i < count → number_at 4_294_967_295 (32 ∷ 10 ∷ []) rest ≡ Ok ((p, e), after) → e ≡ 10
    → places_from (count - i) done rest ≡ Ok (done ++ p ∷ [], after)
unfolding places_from
places_last count i done rest p e after lt read is =
    let yes : eqb e 10 ≡ true = eq-eqb _ _ is in
    rw (step_down count i lt, read, yes) refl

pub places_fail : (count i : ℕ) (done rest stop : List ℕ) → i < count → number_at 4_294_967_295 (32 ∷ 10 ∷ []) rest ≡ Err stop → places_from (count - i) done rest ≡ Err stop
unfolding places_from
places_fail count i done rest stop lt read = rw (step_down count i lt, read) refl

pub places_out : (count i : ℕ) (done rest : List ℕ) → count ≤ i → places_from (count - i) done rest ≡ Err rest
unfolding places_from
places_out count i done rest le = let k : count - i ≡ 0 = omega arith in rw k refl

-- ---- sections

pub body_more : (count i : ℕ) (done : List PlainSection) (rest : List ℕ) (s : PlainSection) (after : List ℕ) → i < count → part_at rest ≡ Ok (Closed s, after) → body_at (count - (i + 1)) (done ++ s ∷ []) after ≡ body_at (count - i) done rest
unfolding body_at
body_more count i done rest s after lt read = rw (step_down count i lt, read) refl

pub body_end : (count i : ℕ) (done : List PlainSection) (rest after : List ℕ) → i < count → part_at rest ≡ Ok (End, after) → body_at (count - i) done rest ≡ Ok (record { closed = done; tail = None; ended = true })
unfolding body_at
body_end count i done rest after lt read = rw (step_down count i lt, read) refl

pub body_open : (count i : ℕ) (done : List PlainSection) (rest : List ℕ) (o : PlainOpen) (after : List ℕ) → i < count → part_at rest ≡ Ok (Open o, after) → body_at (count - i) done rest ≡ Ok (record { closed = done; tail = Some o; ended = false })
unfolding body_at
body_open count i done rest o after lt read = rw (step_down count i lt, read) refl

pub body_fail : (count i : ℕ) (done : List PlainSection) (rest stop : List ℕ) → i < count → part_at rest ≡ Err stop → body_at (count - i) done rest ≡ Err (stop, length done)
unfolding body_at
body_fail count i done rest stop lt read = rw (step_down count i lt, read) refl

pub body_out : (count i : ℕ) (done : List PlainSection) (rest : List ℕ) → count ≤ i → body_at (count - i) done rest ≡ Err (rest, length done)
unfolding body_at
body_out count i done rest le = let k : count - i ≡ 0 = omega arith in rw k refl

-- ---- digests

pub digest_fails : (bytes front stop : List ℕ) (n k : ℕ) (e : FromHexError) (r : Result (List ℕ) FromHexError) → r ≡ decode_sized front 32 → r ≡ Err e → front ≡ take n bytes → n ≡ min (length bytes) 64 → stop ≡ drop k bytes → k ≡ prefix_len is_hex_digit bytes
    → digest_at bytes ≡ Err stop
unfolding digest_at
digest_fails bytes front stop n k e r read is front-is n-is stop-is k-is =
    let whole : front ≡ take 64 bytes = front-is ∙ ap (λ (m : ℕ). take m bytes) (let h : n ≡ min 64 (length bytes) = omega (arith, n-is) in h) ∙ take_min 64 bytes in
    let failed : decode_sized (take 64 bytes) 32 ≡ Err e = ap (λ (t : List ℕ). decode_sized t 32) (sym whole) ∙ sym read ∙ is in
    let left : stop ≡ drop (prefix_len is_hex_digit bytes) bytes = stop-is ∙ ap (λ (m : ℕ). drop m bytes) k-is in
    ap (digest_end bytes) failed ∙ ap (λ (t : List ℕ). Err t) (sym left)
