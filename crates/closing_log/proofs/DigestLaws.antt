-- Bytes that pass a test, and the hex digits of a digest, which are read exactly.
use Rattle.std.proofs.Common.{◌≡◌, ℕ, suc, ◌+◌, ◌-◌, ◌≤◌, ◌<◌, Bool, true, false, cond, List, [], ◌∷◌, ◌++◌, length, get_or, take, drop, All, Result, Ok, Err, inl, inr, refl, sym, ap, subst, ◌∙◌, arith, one-add}
use Rattle.std.specs.Prelude.{is_ok, replicate}
use Rattle.std.specs.List.{AllByRecursion, AllPass, prefix_len}
use Rattle.std.proofs.lemmas.List.{length-append, length-take, take_at, drop_at, take-append-drop, length-replicate, get_or-replicate, take-take}
use Rattle.std.proofs.lemmas.List.Elements.{All-append, All-take, All-from_recursion, recursion_from_All}
use Rattle.std.proofs.lemmas.List.Sums.{prefix_len-le-length}
use Rattle.std.proofs.lemmas.Bool.{cases_lt}
use Rattle.hex.specs.Hex.{decode_sized, is_hex_digit}
use Rattle.hex.specs.declared.error.FromHexError.{FromHexError}
use Rattle.hex.proofs.HexLemmas.{IsOk-decode_sized}
use Rattle.closing_log.specs.Exact.{Begins, StopsAt, NoneGoesOn}
use Rattle.closing_log.specs.LogText.{IsDigest}
use Rattle.closing_log.specs.Reading.{digest_at, digest_end}
use Rattle.closing_log.proofs.Exactness.{Piece, Held}

-- ---- the bytes in front that pass

abbrev pub FailsFirst : (ℕ → Bool) → List ℕ → Type 0
FailsFirst p [] = Unit {0}
FailsFirst p (b ∷ rest) = p b ≡ false

pub record Passing (p : ℕ → Bool) (bytes : List ℕ) (k : ℕ) : Type 0 where
  pub all : AllByRecursion (λ b. p b ≡ true) (take k bytes)
  pub stops : FailsFirst p (drop k bytes)
  pub len : length (take k bytes) ≡ k

passing_step : (p : ℕ → Bool) (b : ℕ) (rest : List ℕ) (k : ℕ) → Passing p rest k → (t : Bool) → p b ≡ t → Passing p (b ∷ rest) (cond t (1 + k) 0)
passing_step p b rest k s true is =
    subst (Passing p (b ∷ rest)) (sym (one-add k)) (record { all = (is, s.all); stops = s.stops; len = ap suc s.len })
passing_step p b rest k s false is = record { all = tt; stops = is; len = refl }

pub passing : (p : ℕ → Bool) (bytes : List ℕ) → Passing p bytes (prefix_len p bytes)
passing p [] = record { all = tt; stops = tt; len = refl }
passing p (b ∷ rest) = passing_step p b rest (prefix_len p rest) (passing p rest) (p b) refl

-- each byte of some that pass
pub passes_at : (p : ℕ → Bool) (front : List ℕ) (b : ℕ) (more : List ℕ) → AllByRecursion (λ b. p b ≡ true) ((front ++ b ∷ []) ++ more) → p b ≡ true
passes_at p [] b more all = all.0
passes_at p (c ∷ front) b more all = passes_at p front b more all.1

-- ---- a digest

is_ok_of : {A E : Type 0} (r : Result A E) (x : A) → r ≡ Ok x → is_ok r ≡ true
is_ok_of {A = A} {E = E} r x e = ap (λ (s : Result A E). is_ok s) e

decoded : (r : Result (List ℕ) FromHexError) → is_ok r ≡ true → (x : List ℕ) × (r ≡ Ok x)
decoded (Ok x) h = (x, refl)
decoded (Err e) h = absurd cc

pub digest_digits : (text digest : List ℕ) → IsDigest text digest → (length text ≡ 64) × AllPass is_hex_digit text
digest_digits text digest e = (IsOk-decode_sized text 32).0 (is_ok_of (decode_sized text 32) digest e)

digits_decode : (text : List ℕ) → length text ≡ 64 → AllPass is_hex_digit text → (x : List ℕ) × IsDigest text x
digits_decode text len all = decoded (decode_sized text 32) ((IsOk-decode_sized text 32).1 (len, all))

zeros : (n : ℕ) → All (λ b. is_hex_digit b ≡ true) (replicate n 48)
zeros n k d lt = let here : get_or (replicate n 48) k d ≡ 48 = get_or-replicate n k 48 d (omega (arith, lt, length-replicate {A = ℕ} n 48)) in ap is_hex_digit here

digest_begins : (front : List ℕ) → length front ≤ 64 → AllPass is_hex_digit front → Begins IsDigest front
digest_begins front le all =
    let len : length (front ++ replicate (64 - length front) 48) ≡ 64 = omega (arith, length-append front (replicate (64 - length front) 48), length-replicate {A = ℕ} (64 - length front) 48) in
    let d = digits_decode (front ++ replicate (64 - length front) 48) len (All-append (λ b. is_hex_digit b ≡ true) front (replicate (64 - length front) 48) all (zeros (64 - length front))) in
    record { more = replicate (64 - length front) 48; value = d.0; means = d.1 }

digest_never : (front stop : List ℕ) → FailsFirst is_hex_digit stop → NoneGoesOn IsDigest front stop
digest_never front [] fails = tt
digest_never front (b ∷ r) fails = λ begins.
    let all = (digest_digits ((front ++ b ∷ []) ++ begins.more) begins.value begins.means).1 in
    let fits : is_hex_digit b ≡ true = passes_at is_hex_digit front b begins.more (recursion_from_All (λ b. is_hex_digit b ≡ true) ((front ++ b ∷ []) ++ begins.more) all) in
    let no : true ≡ false = sym fits ∙ fails in
    absurd cc

digest_takes_of : (bytes : List ℕ) (x : List ℕ × List ℕ) (r : Result (List ℕ) FromHexError) → decode_sized (take 64 bytes) 32 ≡ r → digest_end bytes r ≡ Ok x → Held IsDigest bytes x
digest_takes_of bytes x (Err d) is e = absurd cc
digest_takes_of bytes x (Ok d) is e =
    let same : (d, drop 64 bytes) ≡ x = cc in
    subst (λ (y : List ℕ × List ℕ). Held IsDigest bytes y) same (record { text = take 64 bytes; parts = sym (take-append-drop 64 bytes); means = is })

all_decode : (bytes : List ℕ) (d : FromHexError) (k : ℕ) → 64 ≤ k → k ≤ length bytes → AllPass is_hex_digit (take k bytes) → decode_sized (take 64 bytes) 32 ≡ Err d → ⊥
all_decode bytes d k many le all is =
    let cut : take 64 (take k bytes) ≡ take 64 bytes = take-take 64 k bytes many in
    let front : AllPass is_hex_digit (take 64 bytes) = subst (AllPass is_hex_digit) cut (All-take (λ b. is_hex_digit b ≡ true) 64 (take k bytes) all) in
    let x = digits_decode (take 64 bytes) (omega (arith, length-take 64 bytes)) front in
    let both : Ok x.0 ≡ Err d = sym x.1 ∙ is in
    absurd cc

digest_stops_of : (bytes stop : List ℕ) (r : Result (List ℕ) FromHexError) → decode_sized (take 64 bytes) 32 ≡ r → digest_end bytes r ≡ Err stop → StopsAt IsDigest bytes stop
digest_stops_of bytes stop (Ok d) is e = absurd cc
digest_stops_of bytes stop (Err d) is e =
    let k = prefix_len is_hex_digit bytes in
    let p = passing is_hex_digit bytes in
    let all = All-from_recursion (λ b. is_hex_digit b ≡ true) (take (prefix_len is_hex_digit bytes) bytes) p.all in
    let stop-is : drop (prefix_len is_hex_digit bytes) bytes ≡ stop = cc in
    let few : prefix_len is_hex_digit bytes < 64 = elim (cases_lt (prefix_len is_hex_digit bytes) 64) [
      | inl lt ↦ lt
      | inr many ↦ absurd (all_decode bytes d (prefix_len is_hex_digit bytes) many (prefix_len-le-length is_hex_digit bytes) all is)
    ] in
    record {
      front = take (prefix_len is_hex_digit bytes) bytes;
      parts = sym (take-append-drop (prefix_len is_hex_digit bytes) bytes) ∙ ap (λ t. take (prefix_len is_hex_digit bytes) bytes ++ t) stop-is;
      begins = digest_begins (take (prefix_len is_hex_digit bytes) bytes) (omega (arith, p.len, few)) all;
      never = subst (λ (s : List ℕ). NoneGoesOn IsDigest (take (prefix_len is_hex_digit bytes) bytes) s) stop-is (digest_never (take (prefix_len is_hex_digit bytes) bytes) (drop (prefix_len is_hex_digit bytes) bytes) p.stops);
    }

pub digest_piece : Piece digest_at IsDigest
unfolding digest_at
digest_piece = record {
  takes = λ bytes x e. digest_takes_of bytes x (decode_sized (take 64 bytes) 32) refl e;
  again = λ text rest x means.
      let len = (digest_digits text x means).0 in
      let front : take 64 (text ++ rest) ≡ text = take_at text rest 64 len in
      let back : drop 64 (text ++ rest) ≡ rest = drop_at text rest 64 len in
      let read : decode_sized (take 64 (text ++ rest)) 32 ≡ Ok x = ap (λ t. decode_sized t 32) front ∙ means in
      ap (digest_end (text ++ rest)) read ∙ ap (λ (t : List ℕ). Ok (x, t)) back;
  stops = λ bytes stop e. digest_stops_of bytes stop (decode_sized (take 64 bytes) 32) refl e;
  some = digest_begins [] (omega arith) (λ k d lt. absurd (omega arith));
}
