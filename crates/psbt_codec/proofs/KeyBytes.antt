-- The first byte of a key, which tells a type below FD.
use Rattle.std.proofs.Common.{◌≡◌, ℕ, ◌<◌, true, List, [], ◌∷◌, ◌++◌, sym, ap, subst, ◌∙◌, refl, arith, inl, inr}
use Rattle.std.proofs.lemmas.Bool.{cases_lt, eqb-true, eq-eqb}
use Rattle.fund_base.specs.CompactSize.{compact}
use Rattle.fund_base.proofs.LawsOfNumbers.{compact1, compact3, compact5, compact9}
use Rattle.psbt_codec.specs.Psbt.{Pair, IsOfType}
use Rattle.psbt_codec.specs.Reading.{begins}

pub begun_key : (kind : ℕ) (key : List ℕ) → begins kind key ≡ true → (rest : List ℕ) × (key ≡ kind ∷ rest)
begun_key kind [] e = absurd cc
begun_key kind (b ∷ rest) e = (rest, ap (λ (n : ℕ). n ∷ rest) (eqb-true b kind e))

pub key_begins : (kind : ℕ) (key rest : List ℕ) → key ≡ kind ∷ rest → begins kind key ≡ true
key_begins kind key rest is = ap (begins kind) is ∙ eq-eqb kind kind refl

-- a key that begins with a type begins with its byte
pub type_begins : (kind : ℕ) (p : Pair) → kind < 253 → IsOfType kind p → begins kind p.key ≡ true
type_begins kind p small is = key_begins kind p.key is.0 (is.1 ∙ ap (λ (l : List ℕ). l ++ is.0) (compact1 kind small))

-- and the other way round
pub begun_type : (kind : ℕ) (p : Pair) → kind < 253 → begins kind p.key ≡ true → IsOfType kind p
begun_type kind p small e =
    let b = begun_key kind p.key e in
    (b.0, b.1 ∙ ap (λ (l : List ℕ). l ++ b.0) (sym (compact1 kind small)))

-- the type of a key that begins with the byte of a type
pub kind_begun : (kind n : ℕ) (rest : List ℕ) → kind < 253 → begins kind (compact n ++ rest) ≡ true → n ≡ kind
kind_begun kind n rest small e =
    elim (cases_lt n 253) [
      | inl a ↦ eqb-true n kind (subst (λ (l : List ℕ). begins kind (l ++ rest) ≡ true) (compact1 n a) e)
      | inr a ↦ elim (cases_lt n 65536) [
        | inl b ↦ absurd (omega (arith, small, eqb-true 253 kind (subst (λ (l : List ℕ). begins kind (l ++ rest) ≡ true) (compact3 n a b) e)))
        | inr b ↦ elim (cases_lt n 4294967296) [
          | inl c ↦ absurd (omega (arith, small, eqb-true 254 kind (subst (λ (l : List ℕ). begins kind (l ++ rest) ≡ true) (compact5 n b c) e)))
          | inr c ↦ absurd (omega (arith, small, eqb-true 255 kind (subst (λ (l : List ℕ). begins kind (l ++ rest) ≡ true) (compact9 n c) e)))
        ]
      ]
    ]
