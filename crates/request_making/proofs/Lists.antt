-- Lists of JSON values that are made one by one.
use Rattle.std.proofs.Common.{◌≡◌, ℕ, ◌+◌, ◌<◌, List, [], ◌∷◌, ◌++◌, length, get_or, take, refl, subst, map, below_more}
use Rattle.std.proofs.lemmas.List.{take_more, map-append, get_or_default}
use Rattle.serde_json.specs.Data.{Data}
use Rattle.serde_json.specs.View.{view}
use Rattle.serde_json.specs.declared.value.Value.{Value}
use Rattle.request_making.specs.Asked.{HasBytes}
use Rattle.request_making.specs.declared.payment.Payment.{Payment}

-- one value more, of the next element
pub made_more : {X : Type 0} (f : X → Data) (vs : List Value) (v : Value) (xs : List X) (i : ℕ) (x : X) → i < length xs → x ≡ get_or xs i x → view v ≡ f x → map view vs ≡ map f (take i xs) → map view (vs ++ v ∷ []) ≡ map f (take (i + 1) xs)
made_more {X} f vs v xs i x lt here is made =
    let P : X → Type 0 = λ y. map view (vs ++ v ∷ []) ≡ map f (take i xs ++ y ∷ []) in
    let so_far : P x = rw (map-append view vs (v ∷ []), map-append f (take i xs) (x ∷ []), made, is) refl in
    rw (take_more xs i x lt) (subst P here so_far)

-- one payment more is of bytes
pub bytes_more : (ps : List Payment) (i : ℕ) (p : Payment) → i < length ps → p ≡ get_or ps i p → ((k : ℕ) (d : Payment) → k < i → HasBytes (get_or ps k d)) → HasBytes p → (k : ℕ) (d : Payment) → k < i + 1 → HasBytes (get_or ps k d)
bytes_more ps i p lt here below is k d =
    let at_i : HasBytes (get_or ps i d) = subst HasBytes (get_or_default ps i p d lt) (subst HasBytes here is) in
    below_more (λ n. HasBytes (get_or ps n d)) i (λ n. below n d) at_i k
