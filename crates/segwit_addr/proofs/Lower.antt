-- Texts in lower case.
use Rattle.std.proofs.Common.{◌≡◌, ℕ, List, [], ◌∷◌, ◌%◌, map, get_or, sym, ◌∙◌, ap, refl}
use Rattle.std.specs.Char.{to_ascii_lowercase}
use Rattle.std.proofs.Math.ListN.{get_or-map}
use Rattle.segwit_addr.specs.Bech32.{alphabet, letter_at, letter_of}
use Rattle.segwit_addr.specs.Address.{IsLower, text_of}

-- the alphabet is in lower case
alphabet_lower : map to_ascii_lowercase alphabet ≡ alphabet
alphabet_lower = refl

-- so is each letter
letter_lower : (value : ℕ) → to_ascii_lowercase (letter_of value) ≡ letter_of value
unfolding letter_at
letter_lower value = sym (get_or-map to_ascii_lowercase alphabet (value % 32) 0) ∙ ap (λ (l : List ℕ). get_or l (value % 32) 0) alphabet_lower

-- so are letters in a row
letters_lower : (values : List ℕ) → map to_ascii_lowercase (map letter_of values) ≡ map letter_of values
letters_lower [] = refl
letters_lower (v ∷ vs) = ap (λ x. x ∷ map to_ascii_lowercase (map letter_of vs)) (letter_lower v) ∙ ap (λ (l : List ℕ). letter_of v ∷ l) (letters_lower vs)

-- so is the text of a version and a program
pub text_lower : (text : List ℕ) (version : ℕ) (values : List ℕ) → text ≡ text_of version values → IsLower text
unfolding IsLower text_of
text_lower text version values is = ap (λ (l : List ℕ). map to_ascii_lowercase l) is ∙ ap (λ (l : List ℕ). 98 ∷ 99 ∷ 49 ∷ l) (letters_lower _) ∙ sym is
