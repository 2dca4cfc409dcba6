-- The keys of pairs, kept in order beside them, as a pair is added.
use Rattle.std.proofs.Common.{◌≡◌, ℕ, true, false, cond, List, [], ◌∷◌, ◌++◌, refl, sym, ap, ◌∙◌}
use Rattle.std.specs.Prelude.{Bool, ◌||◌, bytes_eq}
use Rattle.std.specs.Borrow.{Bor}
use Rattle.std.specs.BTreeSet.{BTreeSet, Updates}
use Rattle.std.specs.Cmp.Lexicographic.{slice_cmp}
use Rattle.std.specs.Ordering.{nat_cmp}
use Rattle.std.proofs.lemmas.List.Folds.{list_any-append}
use Rattle.std.proofs.lemmas.Map.Text.{is_eq-slice_cmp}
use Rattle.psbt_codec.specs.Keys.{is_among, AreKeysOf}
use Rattle.psbt_codec.specs.Psbt.{Pair}
use Rattle.psbt_codec.specs.Reading.{has_key}

abbrev Keys : Type 0
Keys = BTreeSet (Bor (List ℕ))

last_or_before : (a b : Bool) → (a || (b || false)) ≡ cond b true a
last_or_before true true = refl
last_or_before true false = refl
last_or_before false true = refl
last_or_before false false = refl

has_more : (key : List ℕ) (pairs : List Pair) (p : Pair) → has_key key (pairs ++ p ∷ []) ≡ cond (bytes_eq p.key key) true (has_key key pairs)
has_more key pairs p = list_any-append (λ (r : Pair). bytes_eq r.key key) pairs (p ∷ []) ∙ last_or_before (has_key key pairs) (bytes_eq p.key key)

pub keys_more : (old new : Keys) (k : Bor (List ℕ)) (p : Pair) (pairs more : List Pair)
    → Updates (λ (x y : Bor (List ℕ)). slice_cmp nat_cmp x.now y.now) old new k true → k.now ≡ p.key → more ≡ pairs ++ p ∷ [] → AreKeysOf pairs old → AreKeysOf more new
keys_more old new k p pairs more updates same put are =
    λ key.
    let q : Bor (List ℕ) = record { ref_ptr = k.ref_ptr; now = key } in
    updates.0 q
    ∙ ap (λ (b : Bool). cond b true (is_among key old)) (is_eq-slice_cmp k.now key)
    ∙ ap (λ (bytes : List ℕ). cond (bytes_eq bytes key) true (is_among key old)) same
    ∙ ap (λ (b : Bool). cond (bytes_eq p.key key) true b) (are key)
    ∙ sym (has_more key pairs p)
    ∙ sym (ap (has_key key) put)
