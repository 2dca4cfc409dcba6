-- Spends that are kept once for each transaction.
use Rattle.std.proofs.Common.{◌≡◌, ◌∙◌, Bool, true, false, cond, ◌||◌, ◌&&◌, List, [], ◌∷◌, ◌++◌, refl, sym, ap}
use Rattle.std.specs.Prelude.{bytes_eq, not}
use Rattle.std.proofs.lemmas.List.{append-nil}
use Rattle.std.proofs.lemmas.List.Folds.{list_any-append}
use Rattle.std.proofs.lemmas.Slice.Eq.{bytes_eq-Decides}
use Rattle.coin_book.specs.Merging.{is_spender}
use Rattle.coin_book.specs.declared.coin.Spend.{Spend}

-- what isn't new at a place isn't put there
pub not_put : (same new here : Bool) (old one : List Spend) → (same ≡ true → new ≡ here) → here ≡ false → old ≡ old ++ cond (same && new) one []
not_put false new here old one e is = sym (append-nil old)
not_put true new here old one e is = sym (append-nil old) ∙ ap (λ (b : Bool). old ++ cond b one []) (sym (e refl ∙ is))

-- what is new at a place is put there
pub put : (same new here : Bool) → (same ≡ true → new ≡ here) → here ≡ true → same ≡ (same && new)
put false new here e is = refl
put true new here e is = sym (e refl ∙ is)

-- One outpoint more: front tells whether an input before spends it, here whether this one does, and fresh what is new after
-- some spends.
pub one_more : (fresh : List Spend → Bool) (front here : Bool) (old : List Spend) (s : Spend) → fresh (old ++ s ∷ []) ≡ false
    → (old ++ cond (front && fresh old) (s ∷ []) []) ++ cond (here && fresh (old ++ cond (front && fresh old) (s ∷ []) [])) (s ∷ []) [] ≡ old ++ cond ((front || here) && fresh old) (s ∷ []) []
one_more fresh false here old s once = ap (λ (l : List Spend). l ++ cond (here && fresh l) (s ∷ []) []) (append-nil old)
one_more fresh true here old s once = by (fresh old) refl
  where
    none : (b : Bool) → cond (b && false) (s ∷ []) [] ≡ []
    none true = refl
    none false = refl

    by : (b : Bool) → fresh old ≡ b → (old ++ cond b (s ∷ []) []) ++ cond (here && fresh (old ++ cond b (s ∷ []) [])) (s ∷ []) [] ≡ old ++ cond b (s ∷ []) []
    by true e =
        ap (λ (b : Bool). (old ++ s ∷ []) ++ cond (here && b) (s ∷ []) []) once ∙ ap (λ (l : List Spend). (old ++ s ∷ []) ++ l) (none here) ∙ append-nil (old ++ s ∷ [])
    by false e =
        ap (λ (b : Bool). (old ++ []) ++ cond (here && b) (s ∷ []) []) (ap fresh (append-nil old) ∙ e) ∙ ap (λ (l : List Spend). (old ++ []) ++ l) (none here) ∙ append-nil (old ++ [])

-- after the spend itself none of its transaction is new
pub once : (seen base : Bool) (old : List Spend) (s : Spend) → (seen && not (base || is_spender (old ++ s ∷ []) s.txid)) ≡ false
unfolding is_spender
once seen base old s =
    ap (λ (b : Bool). seen && not (base || b))
    (list_any-append (λ (x : Spend). bytes_eq x.txid s.txid) old (s ∷ []) ∙ ap (λ (b : Bool). is_spender old s.txid || (b || false)) ((bytes_eq-Decides s.txid s.txid).1 refl) ∙ or_true (is_spender old s.txid))
    ∙ ap (λ (b : Bool). seen && not b) (or_true base)
    ∙ none seen
  where
    or_true : (b : Bool) → (b || true) ≡ true
    or_true true = refl
    or_true false = refl

    none : (b : Bool) → (b && false) ≡ false
    none true = refl
    none false = refl
