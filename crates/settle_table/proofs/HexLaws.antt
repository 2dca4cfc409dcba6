-- What is hex begins as no PSBT does.
use Rattle.std.proofs.Common.{◌≡◌, ◌∙◌, ◌-◌, ◌≤◌, ℕ, zero, suc, Bool, true, false, List, [], ◌∷◌, ◌++◌, length, take, drop, nat_eq, if◌then◌else◌, Result, Ok, Err, refl, sym, ap, subst, arith}
use Rattle.std.specs.Prelude.{codes}
use Rattle.std.specs.Cmp.Lexicographic.{same_text}
use Rattle.std.specs.List.{starts_with}
use Rattle.std.proofs.lemmas.List.{take-append-drop}
use Rattle.hex.specs.Hex.{decode_of, decode_pairs}
use Rattle.hex.specs.declared.error.FromHexError.{FromHexError}
use Rattle.psbt_codec.specs.Psbt.{magic}
use Rattle.tx_codec.specs.Transaction.{Transaction}
use Rattle.command_settle.specs.Files.{Cause, NotHex, by_form, by_hex, line_of, signed_of}
use Rattle.settle_table.specs.Forms.{Holds, HoldsAs, form_of, text_start}
use Rattle.settle_table.specs.declared.forms.Form.{Form}
use Rattle.settle_table.specs.declared.forms.Form.TheVariants.{Hex, Base64, Binary}

-- one of two errors is an error
neither : (b : Bool) (d e : FromHexError) (bytes : List ℕ) → ◌≡◌ {A = Result (List ℕ) FromHexError} (if b then Err d else Err e) (Ok bytes) → ⊥
neither true d e bytes h = absurd cc
neither false d e bytes h = absurd cc

-- p is no digit
not_p : (rest bytes : List ℕ) → decode_of (112 ∷ rest) ≡ Ok bytes → ⊥
unfolding decode_pairs
not_p [] bytes h = absurd cc
not_p (low ∷ rest) bytes h = neither _ _ _ bytes h

-- H is none
not_c_h : (rest bytes : List ℕ) → decode_of (99 ∷ 72 ∷ rest) ≡ Ok bytes → ⊥
unfolding decode_pairs
not_c_h rest bytes h = neither _ _ _ bytes h

-- so neither is the line of a text that begins so
cut_p : (b : Bool) (k : ℕ) (rest bytes : List ℕ) → 1 ≤ k → decode_of (if b then take k (112 ∷ rest) else 112 ∷ rest) ≡ Ok bytes → ⊥
cut_p true zero rest bytes le h = omega (arith, le)
cut_p true (suc k) rest bytes le h = not_p (take k rest) bytes h
cut_p false k rest bytes le h = not_p rest bytes h

cut_c_h : (b : Bool) (k : ℕ) (rest bytes : List ℕ) → 2 ≤ k → decode_of (if b then take k (99 ∷ 72 ∷ rest) else 99 ∷ 72 ∷ rest) ≡ Ok bytes → ⊥
cut_c_h true zero rest bytes le h = omega (arith, le)
cut_c_h true (suc zero) rest bytes le h = omega (arith, le)
cut_c_h true (suc (suc k)) rest bytes le h = not_c_h (take k rest) bytes h
cut_c_h false k rest bytes le h = not_c_h rest bytes h

left_by : (n m : ℕ) → n ≡ suc (suc (suc m)) → 2 ≤ n - 1
left_by n m e = omega (arith, e)

magic_line : (rest bytes : List ℕ) → decode_of (line_of (magic ++ rest)) ≡ Ok bytes → ⊥
magic_line rest bytes h =
    let long : 2 ≤ length (magic ++ rest) - 1 = left_by (length (magic ++ rest)) (suc (suc (length rest))) refl in
    cut_p _ (length (magic ++ rest) - 1) (115 ∷ 98 ∷ 116 ∷ 255 ∷ rest) bytes (omega (arith, long)) h

text_line : (rest bytes : List ℕ) → decode_of (line_of (text_start ++ rest)) ≡ Ok bytes → ⊥
text_line rest bytes h =
    let long : 2 ≤ length (text_start ++ rest) - 1 = left_by (length (text_start ++ rest)) (suc (suc (suc (length rest)))) refl in
    cut_c_h _ (length (text_start ++ rest) - 1) (78 ∷ 105 ∷ 100 ∷ 80 ∷ rest) bytes long h

-- a text that begins with another is that and the rest
begins : (start file : List ℕ) → starts_with nat_eq file start ≡ true → file ≡ start ++ drop (length start) file
begins start file h =
    let same : start ≡ take (length start) file = same_text start (take (length start) file) (sym h) in
    sym (ap (λ (l : List ℕ). l ++ drop (length start) file) same ∙ take-append-drop (length start) file)

-- what is read as hex is decoded
decoded : (x : Result (List ℕ) FromHexError) (t : Transaction) → by_hex x ≡ Ok t → (bytes : List ℕ) × (x ≡ Ok bytes)
decoded (Ok bytes) t h = (bytes, refl)
decoded (Err e) t h = let both : ◌≡◌ {A = Result Transaction Cause} (Err NotHex) (Ok t) = h in absurd cc

by_tests : (b c : Bool) → (b ≡ true → ⊥) → (c ≡ true → ⊥) → (if b then Binary else if c then Base64 else Hex) ≡ Hex
by_tests true c never none = absurd (never refl)
by_tests false true never none = absurd (none refl)
by_tests false false never none = refl

module _ (file : List ℕ) (t : Transaction) where
  no_magic : signed_of file ≡ Ok t → starts_with nat_eq file magic ≡ true → ⊥
  unfolding signed_of
  no_magic h is =
      let x = decoded (decode_of (line_of file)) t h in
      magic_line (drop 5 file) x.0 (subst (λ (l : List ℕ). decode_of (line_of l) ≡ Ok x.0) (begins magic file is) x.1)

  no_text : signed_of file ≡ Ok t → starts_with nat_eq file text_start ≡ true → ⊥
  unfolding signed_of
  no_text h is =
      let x = decoded (decode_of (line_of file)) t h in
      text_line (drop 6 file) x.0 (subst (λ (l : List ℕ). decode_of (line_of l) ≡ Ok x.0) (begins text_start file is) x.1)

pub hex_form : (file : List ℕ) (t : Transaction) → signed_of file ≡ Ok t → form_of file ≡ Hex
hex_form file t h = by_tests (starts_with nat_eq file magic) (starts_with nat_eq file text_start) (no_magic file t h) (no_text file t h)

pub hex_held : (file : List ℕ) (t : Transaction) → signed_of file ≡ Ok t → Holds file t
hex_held file t h = subst (λ (f : Form). HoldsAs f file t) (sym (hex_form file t h)) h
