-- Types that must be told, and types that may be missing.
use Rattle.std.proofs.Common.{◌≡◌, ℕ, ◌<◌, true, List, Ok, refl, sym, ap, ◌∙◌, inl, inr}
use Rattle.std.specs.Prelude.{Option, Some, None, option_and_then, is_some, IfSome, Contains}
use Rattle.psbt_codec.specs.Psbt.{Pair, HasKnownPair, TellsOr, typed}
use Rattle.psbt_codec.specs.Reading.{needed, told_or, value_of}
use Rattle.psbt_codec.proofs.Decoded.{Decodes, known_again, known_holds}

pub needed_ok : {X : Type 0} (kind : ℕ) (o : Option X) (x : X) → needed kind o ≡ Ok x → o ≡ Some x
needed_ok kind (Some y) x e = cc
needed_ok kind None x e = absurd cc

pub needed_is : {X : Type 0} (kind : ℕ) (o : Option X) (x : X) → o ≡ Some x → needed kind o ≡ Ok x
needed_is {X = X} kind o x e = ap (λ (p : Option X). needed kind p) e

-- a type that may be missing tells what it tells, or what it stands for
pub or_tells : {X : Type 0} (pairs : List Pair) (kind : ℕ) (text : X → List ℕ) (without : X) (o : Option X) → HasKnownPair pairs kind text o → TellsOr pairs kind text without (told_or without o)
or_tells pairs kind text without None tells = inr (tells, refl)
or_tells pairs kind text without (Some x) tells = inl tells

pub or_fits : {X : Type 0} (Fits : X → Type 0) (without : X) (o : Option X) → IfSome o Fits → Fits without → Fits (told_or without o)
or_fits Fits without None fits other = other
or_fits Fits without (Some x) fits other = fits

-- and it is read as that
pub or_again : {X : Type 0} (decode : List ℕ → Option X) (text : X → List ℕ) (Fits : X → Type 0) → Decodes decode text Fits → (pairs : List Pair) (kind : ℕ) (without told : X) → kind < 253 → TellsOr pairs kind text without told → Fits told
    → told_or without (option_and_then decode (value_of kind pairs)) ≡ told
or_again {X = X} decode text Fits laws pairs kind without told small (inl tells) fits = ap (λ (o : Option X). told_or without o) (known_again decode text Fits laws pairs kind (Some told) small tells fits)
or_again {X = X} decode text Fits laws pairs kind without told small (inr (tells, is)) fits = ap (λ (o : Option X). told_or without o) (known_again decode text Fits laws pairs kind None small tells tt) ∙ sym is

pub or_holds : {X : Type 0} (decode : List ℕ → Option X) (text : X → List ℕ) (Fits : X → Type 0) → Decodes decode text Fits → (pairs : List Pair) (kind : ℕ) (without told : X) → TellsOr pairs kind text without told → Fits told
    → (p : Pair) → Contains pairs p → p ≡ typed kind p.value → is_some (decode p.value) ≡ true
or_holds decode text Fits laws pairs kind without told (inl tells) fits p has is = known_holds decode text Fits laws pairs kind (Some told) tells fits p has is
or_holds decode text Fits laws pairs kind without told (inr (tells, _)) fits p has is = known_holds decode text Fits laws pairs kind None tells tt p has is
