-- A PSBT whose maps got pairs of types that say nothing of the payment is of the same payment.
use Rattle.std.proofs.Common.{◌≡◌, ◌∙◌, ◌<◌, ℕ, List, [], ◌∷◌, ◌++◌, get_or, Option, Some, None, All, refl, sym, ap, subst, inl, inr, arith}
use Rattle.std.specs.Prelude.{Contains}
use Rattle.std.proofs.lemmas.List.{append-nil}
use Rattle.std.proofs.lemmas.List.Elements.{All-contains, Contains-get_or}
use Rattle.fund_base.specs.CompactSize.{compact}
use Rattle.fund_base.proofs.LawsOfNumbers.{compact1}
use Rattle.psbt_codec.specs.Psbt.{HasKnownPair, IsKey, IsMap, IsPair, Pair, RequiresLock, TellsOr, typed}
use Rattle.psbt_keys.specs.Extended.{IsExtended}
use Rattle.psbt_keys.specs.Pairs.{HasLengths}

-- a pair of a type that isn't one of these
pub record IsForeign (meant : List ℕ) (p : Pair) : Type 0 where
  pub kind : ℕ
  pub key_data : List ℕ
  pub small : kind < 253
  pub key_is : p.key ≡ kind ∷ key_data
  pub other : Contains meant kind → ⊥

-- ---- a map

first_is : (a b : ℕ) (x y : List ℕ) → a ∷ x ≡ b ∷ y → a ≡ b
first_is a b x y e = cc

not_of_type : (meant : List ℕ) (q : Pair) (n : ℕ) (more : List ℕ) → n < 253 → Contains meant n → IsForeign meant q → q.key ≡ compact n ++ more → ⊥
not_of_type meant q n more small listed f key =
    let same : f.kind ≡ n = first_is f.kind n f.key_data more (sym f.key_is ∙ key ∙ ap (λ (l : List ℕ). l ++ more) (compact1 n small)) in
    f.other (subst (λ (m : ℕ). Contains meant m) (sym same) listed)

pub not_typed : (meant : List ℕ) (due : List Pair) (n : ℕ) (value : List ℕ) → n < 253 → Contains meant n → All (IsForeign meant) due → Contains due (typed n value) → ⊥
not_typed meant due n value small listed foreign c =
    not_of_type meant (typed n value) n [] small listed (All-contains (IsForeign meant) due (typed n value) foreign c) (sym (append-nil (compact n)))

pub known_kept : {X : Type 0} → (meant : List ℕ) (due old new : List Pair) (n : ℕ) (text : X → List ℕ) (known : Option X) → n < 253 → Contains meant n → All (IsForeign meant) due → IsExtended due old new → HasKnownPair old n text known → HasKnownPair new n text known
known_kept meant due old new n text known small listed foreign g h = λ value. (
  λ c. elim ((g.each (typed n value)).0 c) [ inl a ↦ (h value).0 a | inr b ↦ absurd (not_typed meant due n value small listed foreign b) ],
  λ e. (g.each (typed n value)).1 (inl ((h value).1 e)),
)

pub tells_kept : {X : Type 0} → (meant : List ℕ) (due old new : List Pair) (n : ℕ) (text : X → List ℕ) (without told : X) → n < 253 → Contains meant n → All (IsForeign meant) due → IsExtended due old new → TellsOr old n text without told → TellsOr new n text without told
tells_kept meant due old new n text without told small listed foreign g (inl h) = inl (known_kept meant due old new n text (Some told) small listed foreign g h)
tells_kept meant due old new n text without told small listed foreign g (inr h) = inr (known_kept meant due old new n text None small listed foreign g h.0, h.1)

foreign_pair : (meant : List ℕ) (q : Pair) → IsForeign meant q → HasLengths q → IsPair meant q
foreign_pair meant q f fits =
    let key : IsKey meant q.key = record {
      kind = f.kind;
      key_data = f.key_data;
      kind_fits = let small = f.small in omega (arith, small);
      parts = f.key_is ∙ ap (λ (l : List ℕ). l ++ f.key_data) (sym (compact1 f.kind f.small));
      whole = λ listed. absurd (f.other listed);
    } in
    record { key = key; key_fits = fits.0; value_fits = fits.1 }

pub map_kept : (meant : List ℕ) (due old new : List Pair) → All (IsForeign meant) due → All HasLengths new → IsExtended due old new → IsMap meant old → IsMap meant new
map_kept meant due old new foreign fits g m = record {
  each = λ k d lt.
      let q = get_or new k d in
      elim ((g.each q).0 (Contains-get_or new k d lt)) [
        | inl a ↦ All-contains (IsPair meant) old q m.each a
        | inr b ↦ foreign_pair meant q (All-contains (IsForeign meant) due q foreign b) (fits k d lt)
      ];
  distinct = g.alone;
}

pub no_lock : (due old new : List Pair) → All (IsForeign (17 ∷ 18 ∷ [])) due → IsExtended due old new → (RequiresLock old → ⊥) → RequiresLock new → ⊥
no_lock due old new foreign g unlocked lock =
    let x = lock.1 in
    let there : Contains new x = (lock.0, lock.2, lock.3) in
    elim ((g.each x).0 there) [
      | inl a ↦ unlocked (a.0, x, a.1, a.2, lock.4)
      | inr b ↦
          let f = All-contains (IsForeign (17 ∷ 18 ∷ [])) due x foreign b in
          elim lock.4 [
            | inl t ↦ not_of_type (17 ∷ 18 ∷ []) x 17 t.0 (omega arith) (0, omega arith, refl) f t.1
            | inr t ↦ not_of_type (17 ∷ 18 ∷ []) x 18 t.0 (omega arith) (1, omega arith, refl) f t.1
          ]
    ]
