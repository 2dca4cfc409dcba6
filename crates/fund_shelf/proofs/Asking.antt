-- The names that a shelf was asked for over a run of several calls.
use Rattle.std.proofs.Common.{ℕ, ◌+◌, List, [], ◌∷◌, ◌++◌, refl, sym, ◌∙◌, ap, subst, append_assoc}
use Rattle.std.specs.Prelude.{replicate}
use Rattle.std.proofs.lemmas.List.{append-nil, replicate-append-replicate}
use Rattle.fund_shelf.specs.Causes.{Asks}

-- nothing was asked for
pub asks_none : (names before : List (List ℕ)) → Asks names before before
asks_none [] before = refl
asks_none (name ∷ names) before = (0, subst (λ (b : List (List ℕ)). Asks names b before) (sym (append-nil before)) (asks_none names before))

-- a name was asked for once
pub asks_once : (name : List ℕ) (before : List (List ℕ)) → Asks (name ∷ []) before (before ++ name ∷ [])
asks_once name before = (1, refl)

-- a name that was asked for is asked for again
pub asks_again : (name : List ℕ) (before middle now : List (List ℕ)) → Asks (name ∷ []) before middle → Asks (name ∷ []) middle now → Asks (name ∷ []) before now
asks_again name before middle now first second = (
  first.0 + second.0,
  second.1
      ∙ ap (λ (l : List (List ℕ)). l ++ replicate second.0 name) first.1
      ∙ append_assoc before (replicate first.0 name) (replicate second.0 name)
      ∙ ap (λ (l : List (List ℕ)). before ++ l) (replicate-append-replicate first.0 second.0 name),
)

-- some names are asked for, and then others
pub asks_then : (names others before middle now : List (List ℕ)) → Asks names before middle → Asks others middle now → Asks (names ++ others) before now
asks_then [] others before middle now first second = subst (λ (b : List (List ℕ)). Asks others b now) first second
asks_then (name ∷ names) others before middle now first second = (first.0, asks_then names others (before ++ replicate first.0 name) middle now first.1 second)

-- of some names the first were asked for
pub asks_first : (names others before now : List (List ℕ)) → Asks names before now → Asks (names ++ others) before now
asks_first names others before now asked = asks_then names others before now now asked (asks_none others now)
