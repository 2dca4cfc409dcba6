-- Where a map has a first pair, and what bytes begin by one.
use Rattle.std.proofs.Common.{◌≡◌, ◌<◌, ℕ, zero, suc, List, [], ◌++◌, length, take, drop, Result, Ok, Err, refl, sym, ap, subst, ◌∙◌, arith, inl, inr}
use Rattle.std.specs.Prelude.{◌⊎◌, Option, Some, None, option_and_then, IsOkAnd, IsSome}
use Rattle.std.proofs.lemmas.List.{take-append-drop}
use Rattle.std.proofs.lemmas.List.Elements.{All-drop}
use Rattle.fund_base.specs.Cursor.{At, IsBytes, after}
use Rattle.fund_base.specs.Parsing.{◌>>=◌}
use Rattle.fund_base.proofs.Laws.{ok_is}
use Rattle.tx_codec.specs.Transaction.{Transaction}
use Rattle.psbt_codec.specs.declared.fault.PsbtFault.{PsbtFault}
use Rattle.psbt_codec.specs.declared.pairs.Part.{Part}
use Rattle.psbt_codec.specs.declared.pairs.Part.TheVariants.{Global}
use Rattle.psbt_codec.specs.FirstPair.{IsGlobalPair, BeginsByPair, HasFirstPair, IsInput}
use Rattle.psbt_codec.specs.Psbt.{Pair, magic, typed, pair_text, global_types}
use Rattle.psbt_codec.specs.Reading.{start, pair_at, pairs_within, ends_or, number32_in, told_or, value_of, version_of, unsigned_of}
use Rattle.psbt_codec.proofs.Decoded.{decoded, number32_decodes}
use Rattle.psbt_codec.proofs.MapMeaning.{kind_of}
use Rattle.psbt_codec.proofs.PairLaws.{PairFits, global_fits, pair_takes}

-- ---- a map in which a type has a value has a first pair

first_is : (go_on : List Pair → At → Result (List Pair × At) PsbtFault) (read : Result (Option Pair × At) PsbtFault) (x : List Pair × At) (kind : ℕ)
    → (read >>= ends_or [] go_on (λ pairs next. (pairs, next))) ≡ Ok x → IsSome (value_of kind x.0) → IsOkAnd read (λ r. IsSome r.0)
first_is go_on (Err e) x kind is some = absurd cc
first_is go_on (Ok (Some p, at)) x kind is some = refl
first_is go_on (Ok (None, at)) x kind is some =
    let none : IsSome (value_of kind []) = subst (λ (y : List Pair × At). IsSome (value_of kind y.0)) (sym (ok_is ([], at) x (Ok ([], at)) refl is)) some in
    absurd cc

first_within : (part : Part) (n : ℕ) (at : At) (x : List Pair × At) (kind : ℕ) → pairs_within n part [] at ≡ Ok x → IsSome (value_of kind x.0) → HasFirstPair part at
unfolding pairs_within
first_within part zero at x kind e some = absurd cc
first_within part (suc n) at x kind e some = first_is (λ pairs next. pairs_within n part pairs next) (pair_at part [] at) x kind e some

pub first_of_map : (part : Part) (at : At) (pairs : List Pair) (next : At) (kind : ℕ) → pairs_within (length at.rest) part [] at ≡ Ok (pairs, next) → IsSome (value_of kind pairs) → HasFirstPair part at
first_of_map part at pairs next kind e some = first_within part (length at.rest) at (pairs, next) kind e some

pub unsigned_some : (o : Option (List ℕ)) (t : Transaction) → unsigned_of o ≡ Ok t → IsSome o
unsigned_some None t e = absurd cc
unsigned_some (Some bytes) t e = refl

some_version : (o : Option (List ℕ)) → told_or 0 (option_and_then number32_in o) ≡ 2 → IsSome o
some_version None e = absurd (omega (arith, e))
some_version (Some value) e = refl

-- a global map that holds a transaction or tells version 2 has a first pair
pub first_by : (at : At) (pairs : List Pair) (next : At) → pairs_within (length at.rest) Global [] at ≡ Ok (pairs, next) → IsSome (value_of 0 pairs) ⊎ (version_of pairs ≡ 2) → HasFirstPair Global at
first_by at pairs next e (inl whole) = first_of_map Global at pairs next 0 e whole
first_by at pairs next e (inr two) = first_of_map Global at pairs next 251 e (some_version (value_of 251 pairs) two)

pub no_input : IsInput Global → ⊥
no_input (inl e) = absurd cc
no_input (inr e) = absurd cc

-- ---- what the first pair is

version_len : (p : Pair) → PairFits Global p → p ≡ typed 251 p.value → length p.value ≡ 4
version_len p fits e =
    let q : PairFits Global (typed 251 p.value) = subst (PairFits Global) e fits in
    let some = global_fits q.is_pair.key.kind p.value q.value_is (kind_of global_types 251 q.is_pair.key (omega arith)) in
    let d = decoded (number32_in p.value) some in
    ap (λ (l : List ℕ). length l) (number32_decodes.takes p.value d.0 fits.is_pair.value_fits.0 d.1).1

record FirstTaken (at : At) : Type 0 where
  pub pair : Pair
  pub rest : List ℕ
  pub parts : at.rest ≡ pair_text pair ++ rest
  pub pair_is : IsGlobalPair pair

first_taken : (at : At) (read : Result (Option Pair × At) PsbtFault) → IsBytes at.rest → pair_at Global [] at ≡ read → IsOkAnd read (λ r. IsSome r.0) → FirstTaken at
first_taken at (Err e) fits is first = absurd first
first_taken at (Ok (None, next)) fits is first = absurd cc
first_taken at (Ok (Some p, next)) fits is first =
    let t = pair_takes Global [] at (Some p, next) fits is in
    record { pair = p; rest = next.rest; parts = t.0.parts; pair_is = record { pair_is = t.1.fits.is_pair; version = version_len p t.1.fits } }

pub begins : (bytes : List ℕ) → IsBytes bytes → take 5 bytes ≡ magic → HasFirstPair Global (after 5 (start bytes)) → BeginsByPair bytes
begins bytes fits marked first =
    let t = first_taken (after 5 (start bytes)) (pair_at Global [] (after 5 (start bytes))) (All-drop (λ b. b < 256) 5 bytes fits) refl first in
    record {
      pair = t.pair;
      rest = t.rest;
      parts = sym (take-append-drop 5 bytes) ∙ ap (λ (l : List ℕ). l ++ drop 5 bytes) marked ∙ ap (λ (l : List ℕ). magic ++ l) t.parts;
      pair_is = t.pair_is;
    }
