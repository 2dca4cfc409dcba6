-- What the first repeated coin is.
use Rattle.std.proofs.Common.{◌≡◌, ◌≢◌, ℕ, ◌-◌, Bool, true, false, cond, true≢false, List, [], ◌∷◌, ◌++◌, length, get_or, Some, None, refl, sym, ap, ◌∙◌, subst, append_assoc, append-nil, arith}
use Rattle.std.specs.Prelude.{AllPairs, Contains}
use Rattle.std.specs.List.{list_any}
use Rattle.std.proofs.lemmas.List.{get_or_append_left, get_or-append_right, length-append}
use Rattle.std.proofs.lemmas.List.Folds.{list_any_at}
use Rattle.std.proofs.lemmas.List.Quantifiers.{all_pairs_push}
use Rattle.std.proofs.lemmas.Map.Views.{Contains-from_any}
use Rattle.fund_base.proofs.OutpointLaws.{same_outpoint-Decides}
use Rattle.fund_base.specs.Outpoints.{same_outpoint}
use Rattle.fund_base.specs.declared.outpoint.OutPoint.{OutPoint}
use Rattle.json_fields.specs.Repeats.{IsFirstRepeat}
use Rattle.request_text.specs.RequestText.{repeat_behind}

abbrev AreDistinct : List OutPoint → Type 0
AreDistinct coins = AllPairs (λ a b. a ≢ b) coins

-- distinct coins with one after them that isn't among them
pushed : (front : List OutPoint) (coin : OutPoint) → AreDistinct front → list_any (same_outpoint coin) front ≡ false → AreDistinct (front ++ coin ∷ [])
pushed front coin h new = all_pairs_push (λ a b. a ≢ b) front coin h (λ k d lt same. true≢false (sym (list_any_at (same_outpoint coin) front k d lt ((same_outpoint-Decides coin (get_or front k d)).1 (sym same))) ∙ new))

regrouped : (front : List OutPoint) (coin : OutPoint) (coins : List OutPoint) → (front ++ coin ∷ []) ++ coins ≡ front ++ coin ∷ coins
regrouped front coin coins = append_assoc front (coin ∷ []) coins

none_behind : (front coins : List OutPoint) → AreDistinct front → repeat_behind front coins ≡ None → AreDistinct (front ++ coins)
unfolding repeat_behind
none_behind front [] h e = rw append-nil h
none_behind front (c ∷ cs) h e = by (list_any (same_outpoint c) front) refl e (none_behind (front ++ c ∷ []) cs)
  where
    by : (b : Bool) → list_any (same_outpoint c) front ≡ b → cond b (Some (length front)) (repeat_behind (front ++ c ∷ []) cs) ≡ None → (AreDistinct (front ++ c ∷ []) → repeat_behind (front ++ c ∷ []) cs ≡ None → AreDistinct ((front ++ c ∷ []) ++ cs)) → AreDistinct (front ++ c ∷ cs)
    by true seen r rest = absurd (cc r)
    by false new r rest = subst (λ (l : List OutPoint). AreDistinct l) (regrouped front c cs) (rest (pushed front c h new) r)

some_behind : (front coins : List OutPoint) (place : ℕ) → AreDistinct front → repeat_behind front coins ≡ Some place → IsFirstRepeat (front ++ coins) place
unfolding repeat_behind
some_behind front [] place h e = absurd (cc e)
some_behind front (c ∷ cs) place h e = by (list_any (same_outpoint c) front) refl e (some_behind (front ++ c ∷ []) cs place)
  where
    by : (b : Bool) → list_any (same_outpoint c) front ≡ b → cond b (Some (length front)) (repeat_behind (front ++ c ∷ []) cs) ≡ Some place → (AreDistinct (front ++ c ∷ []) → repeat_behind (front ++ c ∷ []) cs ≡ Some place → IsFirstRepeat ((front ++ c ∷ []) ++ cs) place)
        → IsFirstRepeat (front ++ c ∷ cs) place
    by true seen r rest = record {
      front = front;
      again = c;
      back = cs;
      parts = refl;
      place_is = sym (cc r);
      stood = Contains-from_any (λ x y. (same_outpoint-Decides x y).0) c front seen;
      distinct = h;
    }
    by false new r rest = subst (λ (l : List OutPoint). IsFirstRepeat l place) (regrouped front c cs) (rest (pushed front c h new) r)

-- a coin that stands in front stands twice
twice : (front : List OutPoint) (coin : OutPoint) (coins : List OutPoint) → AreDistinct (front ++ coin ∷ coins) → Contains front coin → ⊥
twice front coin coins h c =
    let first : get_or (front ++ coin ∷ coins) c.0 coin ≡ coin = get_or_append_left front (coin ∷ coins) coin c.0 c.1 ∙ c.2 in
    let none_left : length front - length front ≡ 0 = omega arith in
    let second : get_or (front ++ coin ∷ coins) (length front) coin ≡ coin = get_or-append_right front (coin ∷ coins) (length front) (length front) coin refl (omega arith) ∙ ap (λ k. get_or (coin ∷ coins) k coin) none_left in
    h c.0 (length front) coin c.1 (let e = length-append front (coin ∷ coins) in omega arith) (first ∙ sym second)

none_of : (front coins : List OutPoint) → AreDistinct (front ++ coins) → repeat_behind front coins ≡ None
unfolding repeat_behind
none_of front [] h = refl
none_of front (c ∷ cs) h = by (list_any (same_outpoint c) front) refl (none_of (front ++ c ∷ []) cs (subst (λ (l : List OutPoint). AreDistinct l) (sym (regrouped front c cs)) h))
  where
    by : (b : Bool) → list_any (same_outpoint c) front ≡ b → repeat_behind (front ++ c ∷ []) cs ≡ None → cond b (Some (length front)) (repeat_behind (front ++ c ∷ []) cs) ≡ None
    by true seen rest = absurd (twice front c cs h (Contains-from_any (λ x y. (same_outpoint-Decides x y).0) c front seen))
    by false new rest = rest

no_pairs : AreDistinct []
no_pairs i j d lt short = absurd (omega arith)

pub none_twice : (coins : List OutPoint) → repeat_behind [] coins ≡ None → AllPairs (λ a b. a ≢ b) coins
none_twice coins e = none_behind [] coins no_pairs e

pub first_twice : (coins : List OutPoint) (place : ℕ) → repeat_behind [] coins ≡ Some place → IsFirstRepeat coins place
first_twice coins place e = some_behind [] coins place no_pairs e

pub only_distinct : (coins : List OutPoint) → AllPairs (λ a b. a ≢ b) coins → repeat_behind [] coins ≡ None
only_distinct coins h = none_of [] coins h
