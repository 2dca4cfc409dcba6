-- One of two things, told apart by their first byte, is read exactly.
use Rattle.std.proofs.Common.{◌≡◌, ℕ, ◌<◌, Bool, true, false, cond, eqb, List, [], ◌∷◌, ◌++◌, length, get_or, Result, Ok, Err, ◌⊎◌, inl, inr, sym, ap, subst, ◌∙◌, arith, eqb-true, eq-eqb, ne_eqb, refl}
use Rattle.std.proofs.lemmas.Bool.{eqb-false}
use Rattle.closing_log.specs.Exact.{Begins, StopsAt, NoneGoesOn}
use Rattle.closing_log.specs.Lines.{either_at}
use Rattle.closing_log.proofs.Exactness.{Piece, Held, none_of}

abbrev pub Either : {X : Type 0} → (List ℕ → X → Type 0) → (List ℕ → X → Type 0) → List ℕ → X → Type 0
Either First Others text x = First text x ⊎ Others text x

-- what begins like these bytes up to and with a byte of them has their first byte
same_head : (front : List ℕ) (d : ℕ) (r more : List ℕ) (b : ℕ) (rest : List ℕ) → b ∷ rest ≡ front ++ d ∷ r → get_or ((front ++ d ∷ []) ++ more) 0 0 ≡ b
same_head [] d r more b rest is = cc
same_head (c ∷ front) d r more b rest is = cc

-- texts that begin with this byte, and texts that don't
abbrev pub AllLed : {X : Type 0} → ℕ → (List ℕ → X → Type 0) → Type 0
AllLed {X = X} m Means = (text : List ℕ) (x : X) → Means text x → (get_or text 0 0 ≡ m) × (0 < length text)

abbrev pub NoneLed : {X : Type 0} → ℕ → (List ℕ → X → Type 0) → Type 0
NoneLed {X = X} m Means = (text : List ℕ) (x : X) → Means text x → (get_or text 0 0 ≡ m → ⊥) × (0 < length text)

module _ (X : Type 0) (m : ℕ) (first others : List ℕ → Result (X × List ℕ) (List ℕ)) (First Others : List ℕ → X → Type 0) (one : Piece first First) (two : Piece others Others) (led : AllLed m First) (apart : NoneLed m Others) where
  took : (b : ℕ) (rest : List ℕ) (x : X × List ℕ) (t : Bool) → cond t (first (b ∷ rest)) (others (b ∷ rest)) ≡ Ok x → Held (Either First Others) (b ∷ rest) x
  took b rest x true e = let h = one.takes (b ∷ rest) x e in record { text = h.text; parts = h.parts; means = inl h.means }
  took b rest x false e = let h = two.takes (b ∷ rest) x e in record { text = h.text; parts = h.parts; means = inr h.means }

  takes : (bytes : List ℕ) (x : X × List ℕ) → either_at m first others bytes ≡ Ok x → Held (Either First Others) bytes x
  unfolding either_at
  takes [] x e = absurd cc
  takes (b ∷ rest) x e = took b rest x (eqb b m) e

  again_first : (text rest : List ℕ) (x : X) → First text x → either_at m first others (text ++ rest) ≡ Ok (x, rest)
  unfolding either_at
  again_first [] rest x f = absurd (omega (arith, (led [] x f).1))
  again_first (b ∷ text) rest x f =
      let same : eqb b m ≡ true = eq-eqb b m (led (b ∷ text) x f).0 in
      rw same (one.again (b ∷ text) rest x f)

  again_other : (text rest : List ℕ) (x : X) → Others text x → either_at m first others (text ++ rest) ≡ Ok (x, rest)
  unfolding either_at
  again_other [] rest x o = absurd (omega (arith, (apart [] x o).1))
  again_other (b ∷ text) rest x o =
      let other : eqb b m ≡ false = ne_eqb b m (apart (b ∷ text) x o).0 in
      rw other (two.again (b ∷ text) rest x o)

  again : (text rest : List ℕ) (x : X) → Either First Others text x → either_at m first others (text ++ rest) ≡ Ok (x, rest)
  again text rest x means = elim means [ inl f ↦ again_first text rest x f | inr o ↦ again_other text rest x o ]

  only_first : (front : List ℕ) (d : ℕ) (r more : List ℕ) (b : ℕ) (rest : List ℕ) (x : X) → b ∷ rest ≡ front ++ d ∷ r → b ≡ m → Either First Others ((front ++ d ∷ []) ++ more) x → First ((front ++ d ∷ []) ++ more) x
  only_first front d r more b rest x is n means =
      elim means [ inl f ↦ f | inr o ↦ absurd ((apart ((front ++ d ∷ []) ++ more) x o).0 (same_head front d r more b rest is ∙ n)) ]

  only_other : (front : List ℕ) (d : ℕ) (r more : List ℕ) (b : ℕ) (rest : List ℕ) (x : X) → b ∷ rest ≡ front ++ d ∷ r → (b ≡ m → ⊥) → Either First Others ((front ++ d ∷ []) ++ more) x → Others ((front ++ d ∷ []) ++ more) x
  only_other front d r more b rest x is n means =
      elim means [ inl f ↦ absurd (n (sym (same_head front d r more b rest is) ∙ (led ((front ++ d ∷ []) ++ more) x f).0)) | inr o ↦ o ]

  stopped : (b : ℕ) (rest stop : List ℕ) (t : Bool) → eqb b m ≡ t → cond t (first (b ∷ rest)) (others (b ∷ rest)) ≡ Err stop → StopsAt (Either First Others) (b ∷ rest) stop
  stopped b rest stop true at e =
      let s = one.stops (b ∷ rest) stop e in
      record {
        front = s.front;
        parts = s.parts;
        begins = record { more = s.begins.more; value = s.begins.value; means = inl s.begins.means };
        never = none_of (Either First Others) First s.front s.front stop
            (λ d r is begins. record { more = begins.more; value = begins.value; means = only_first s.front d r begins.more b rest begins.value (s.parts ∙ ap (λ t. s.front ++ t) is) (eqb-true b m at) begins.means })
            s.never;
      }
  stopped b rest stop false at e =
      let s = two.stops (b ∷ rest) stop e in
      record {
        front = s.front;
        parts = s.parts;
        begins = record { more = s.begins.more; value = s.begins.value; means = inr s.begins.means };
        never = none_of (Either First Others) Others s.front s.front stop
            (λ d r is begins. record { more = begins.more; value = begins.value; means = only_other s.front d r begins.more b rest begins.value (s.parts ∙ ap (λ t. s.front ++ t) is) (eqb-false b m at) begins.means })
            s.never;
      }

  some : Begins (Either First Others) []
  some = record { more = one.some.more; value = one.some.value; means = inl one.some.means }

  stops : (bytes stop : List ℕ) → either_at m first others bytes ≡ Err stop → StopsAt (Either First Others) bytes stop
  unfolding either_at
  stops [] stop e =
      let is : [] ≡ stop = cc in
      record { front = []; parts = is; begins = some; never = subst (λ (s : List ℕ). NoneGoesOn (Either First Others) [] s) is tt }
  stops (b ∷ rest) stop e = stopped b rest stop (eqb b m) refl e

  pub either_piece : Piece (either_at m first others) (Either First Others)
  either_piece = record { takes = takes; again = again; stops = stops; some = some }
