-- Words are read exactly, one of them or one of several.
use Rattle.std.proofs.Common.{◌≡◌, ℕ, ◌≤◌, Bool, true, false, cond, eqb, leb, List, [], ◌∷◌, ◌++◌, length, Result, Ok, Err, inl, inr, refl, sym, ap, subst, ◌∙◌, append_assoc, arith, eq-eqb, eqb-true, leb-true, leb-false}
use Rattle.std.specs.Prelude.{⊤}
use Rattle.std.specs.List.{AllByRecursion}
use Rattle.std.proofs.lemmas.List.{append-nil, length-append, nil_from_length}
use Rattle.fund_base.proofs.Laws.{guard_met}
use Rattle.closing_log.specs.Exact.{Begins, StopsAt, NoneGoesOn}
use Rattle.closing_log.specs.Reading.{word_at, choice_at, told_or, shorter_of}
use Rattle.closing_log.proofs.Exactness.{Piece, Held, none_of, overlap, one_on, ok_is}

abbrev pub IsWord : List ℕ → List ℕ → ⊤ → Type 0
IsWord word text u = text ≡ word

word_takes : (word bytes : List ℕ) (x : ⊤ × List ℕ) → word_at word bytes ≡ Ok x → bytes ≡ word ++ x.1
unfolding word_at
word_takes [] bytes x e = let k : (tt, bytes) ≡ x = cc in ap (λ (p : ⊤ × List ℕ). p.1) k
word_takes (c ∷ word) [] x e = absurd cc
word_takes (c ∷ word) (b ∷ rest) x e =
    let g = guard_met (eqb c b) (b ∷ rest) (word_at word rest) x e in
    let same : c ≡ b = eqb-true c b g.0 in
    let others : rest ≡ word ++ x.1 = word_takes word rest x g.1 in
    cc

pub word_again : (word rest : List ℕ) → word_at word (word ++ rest) ≡ Ok (tt, rest)
unfolding word_at
word_again [] rest = refl
word_again (c ∷ word) rest = let same : eqb c c ≡ true = eq-eqb c c refl in rw same (word_again word rest)

word_step : (c : ℕ) (word : List ℕ) (b : ℕ) (rest stop : List ℕ) → (word_at word rest ≡ Err stop → StopsAt (IsWord word) rest stop)
    → (t : Bool) → eqb c b ≡ t → cond t (word_at word rest) (Err (b ∷ rest)) ≡ Err stop → StopsAt (IsWord (c ∷ word)) (b ∷ rest) stop
word_step c word b rest stop others true is e =
    let s = others e in
    let same : c ≡ b = eqb-true c b is in
    record {
      front = b ∷ s.front;
      parts = ap (λ (t : List ℕ). b ∷ t) s.parts;
      begins = record { more = s.begins.more; value = tt; means = let m : s.front ++ s.begins.more ≡ word = s.begins.means in cc };
      never = none_of (IsWord (c ∷ word)) (IsWord word) (b ∷ s.front) s.front stop
          (λ d r at begins. record { more = begins.more; value = tt; means = let m : b ∷ ((s.front ++ d ∷ []) ++ begins.more) ≡ c ∷ word = begins.means in cc })
          s.never;
    }
word_step c word b rest stop others false is e =
    let stop-is : b ∷ rest ≡ stop = cc in
    record {
      front = [];
      parts = stop-is;
      begins = record { more = c ∷ word; value = tt; means = refl };
      never = subst (λ (s : List ℕ). NoneGoesOn (IsWord (c ∷ word)) [] s) stop-is
          (λ begins. let m : b ∷ begins.more ≡ c ∷ word = begins.means in let same : eqb c b ≡ true = eq-eqb c b (let k : b ≡ c = cc in sym k) in let no : true ≡ false = sym same ∙ is in absurd cc);
    }

pub word_stops : (word bytes stop : List ℕ) → word_at word bytes ≡ Err stop → StopsAt (IsWord word) bytes stop
unfolding word_at
word_stops [] bytes stop e = absurd cc
word_stops (c ∷ word) [] stop e =
    let stop-is : [] ≡ stop = cc in
    record {
      front = [];
      parts = stop-is;
      begins = record { more = c ∷ word; value = tt; means = refl };
      never = subst (λ (s : List ℕ). NoneGoesOn (IsWord (c ∷ word)) [] s) stop-is tt;
    }
word_stops (c ∷ word) (b ∷ rest) stop e = word_step c word b rest stop (word_stops word rest stop) (eqb c b) refl e

pub word_piece : (word : List ℕ) → Piece (word_at word) (IsWord word)
word_piece word = record {
  takes = λ bytes x e. record { text = word; parts = word_takes word bytes x e; means = refl };
  again = λ text rest x means. ap (λ (t : List ℕ). word_at word (t ++ rest)) means ∙ word_again word rest;
  stops = word_stops word;
  some = record { more = word; value = tt; means = refl };
}

-- ---- one of several words

abbrev pub IsOneOf : {X : Type 0} → (X → List ℕ) → (X → Type 0) → List ℕ → X → Type 0
IsOneOf word In text x = In x × (text ≡ word x)

-- a stop up to which one of the words goes
pub record Reached {X : Type 0} (Means : List ℕ → X → Type 0) (bytes stop : List ℕ) : Type 0 where
  pub front : List ℕ
  pub parts : bytes ≡ front ++ stop
  pub begins : Begins Means front

-- a word that goes no further than the stop
pub record Missed {X : Type 0} (word : X → List ℕ) (bytes stop : List ℕ) (x : X) : Type 0 where
  pub left : List ℕ
  pub stops : StopsAt (IsWord (word x)) bytes left
  pub le : length stop ≤ length left

pub record Furthest {X : Type 0} (word : X → List ℕ) (In : X → Type 0) (xs : List X) (bytes before stop : List ℕ) : Type 0 where
  pub reached : Reached (IsOneOf word In) bytes stop
  pub le : length stop ≤ length before
  pub missed : AllByRecursion (Missed word bytes stop) xs

shorter_at : (P : List ℕ → Type 0) (a b : List ℕ) → P a → P b → (t : Bool) → leb (length a) (length b) ≡ t → P (cond t a b) × (length (cond t a b) ≤ length a) × (length (cond t a b) ≤ length b)
shorter_at P a b pa pb true is = (pa, omega arith, leb-true _ _ is)
shorter_at P a b pa pb false is = let lt = leb-false (length a) (length b) is in (pb, omega (arith, lt), omega arith)

shorter_cases : (P : List ℕ → Type 0) (a b : List ℕ) → P a → P b → P (shorter_of a b) × (length (shorter_of a b) ≤ length a) × (length (shorter_of a b) ≤ length b)
shorter_cases P a b pa pb = shorter_at P a b pa pb (leb (length a) (length b)) refl

furthest_step : {X : Type 0} (word : X → List ℕ) (In : X → Type 0) (x : X) (xs : List X) (bytes before stop : List ℕ) → In x × AllByRecursion In xs → Reached (IsOneOf word In) bytes before
    → ((now stop : List ℕ) → AllByRecursion In xs → Reached (IsOneOf word In) bytes now → choice_at word xs now bytes ≡ Err stop → Furthest word In xs bytes now stop)
    → (r : Result (⊤ × List ℕ) (List ℕ)) → word_at (word x) bytes ≡ r → told_or x (λ left. choice_at word xs (shorter_of left before) bytes) r ≡ Err stop → Furthest word In (x ∷ xs) bytes before stop
furthest_step word In x xs bytes before stop all reached others (Ok y) is e = absurd cc
furthest_step word In x xs bytes before stop all reached others (Err left) is e =
    let s = word_stops (word x) bytes left is in
    let here : Reached (IsOneOf word In) bytes left = record { front = s.front; parts = s.parts; begins = record { more = s.begins.more; value = x; means = (all.0, s.begins.means) } } in
    let c = shorter_cases (Reached (IsOneOf word In) bytes) left before here reached in
    let f = others (shorter_of left before) stop all.1 c.0 e in
    record {
      reached = f.reached;
      le = omega (arith, f.le, c.2);
      missed = (record { left = left; stops = s; le = omega (arith, f.le, c.1) }, f.missed);
    }

furthest : {X : Type 0} (word : X → List ℕ) (In : X → Type 0) (xs : List X) (bytes before stop : List ℕ) → AllByRecursion In xs → Reached (IsOneOf word In) bytes before → choice_at word xs before bytes ≡ Err stop → Furthest word In xs bytes before stop
unfolding choice_at
furthest word In [] bytes before stop all reached e =
    let is : before ≡ stop = cc in
    subst (λ (s : List ℕ). Furthest word In [] bytes before s) is (record { reached = reached; le = omega arith; missed = tt })
furthest word In (x ∷ xs) bytes before stop all reached e = furthest_step word In x xs bytes before stop all reached (furthest word In xs bytes) (word_at (word x) bytes) refl e

-- a word that goes no further leaves none that goes on
none_left : {X : Type 0} (word : X → List ℕ) (bytes front : List ℕ) (b : ℕ) (r more : List ℕ) (y : X) → bytes ≡ front ++ b ∷ r → (left : List ℕ) → StopsAt (IsWord (word y)) bytes left → length (b ∷ r) ≤ length left → (front ++ b ∷ []) ++ more ≡ word y → ⊥
none_left word bytes front b r more y parts [] stops le means = omega (arith, le)
none_left word bytes front b r more y parts (d ∷ l) stops le means =
    let f = stops.front in
    let whole : (front ++ b ∷ []) ++ r ≡ (f ++ d ∷ []) ++ l = one_on front b r ∙ sym parts ∙ stops.parts ∙ sym (one_on f d l) in
    elim (overlap (front ++ b ∷ []) (f ++ d ∷ []) r l whole) [
      | inl longer ↦ stops.never (record { more = longer.more ++ more; value = tt; means = sym (append_assoc (f ++ d ∷ []) longer.more more) ∙ ap (λ t. t ++ more) (sym longer.is) ∙ means })
      | inr longer ↦
          let counted : length (front ++ b ∷ r) ≡ length (f ++ d ∷ l) = ap length (sym parts ∙ stops.parts) in
          let nothing : longer.more ≡ [] = nil_from_length longer.more (omega (arith, le, counted, length-append front (b ∷ r), length-append f (d ∷ l), length-append front (b ∷ []), length-append f (d ∷ []), ap length longer.is, length-append (front ++ b ∷ []) longer.more)) in
          let same : f ++ d ∷ [] ≡ front ++ b ∷ [] = longer.is ∙ ap (λ t. (front ++ b ∷ []) ++ t) nothing ∙ append-nil (front ++ b ∷ []) in
          stops.never (record { more = more; value = tt; means = ap (λ t. t ++ more) same ∙ means })
    ]

none_further : {X : Type 0} (word : X → List ℕ) (bytes front : List ℕ) (b : ℕ) (r more : List ℕ) (y : X) → bytes ≡ front ++ b ∷ r → Missed word bytes (b ∷ r) y → (front ++ b ∷ []) ++ more ≡ word y → ⊥
none_further word bytes front b r more y parts missed means = none_left word bytes front b r more y parts missed.left missed.stops missed.le means

choice_never : {X : Type 0} (word : X → List ℕ) (In : X → Type 0) (xs : List X) (bytes front stop : List ℕ) → ((P : X → Type 0) → AllByRecursion P xs → (y : X) → In y → P y) → bytes ≡ front ++ stop → AllByRecursion (Missed word bytes stop) xs → NoneGoesOn (IsOneOf word In) front stop
choice_never word In xs bytes front [] each parts missed = tt
choice_never word In xs bytes front (b ∷ r) each parts missed = λ begins. none_further word bytes front b r begins.more begins.value parts (each (Missed word bytes (b ∷ r)) missed begins.value begins.means.0) begins.means.1

choice_took : {X : Type 0} (word : X → List ℕ) (In : X → Type 0) (y : X) (bytes : List ℕ) (x : X × List ℕ) → In y → (others : List ℕ → Result (X × List ℕ) (List ℕ)) → ((left : List ℕ) → others left ≡ Ok x → Held (IsOneOf word In) bytes x)
    → (r : Result (⊤ × List ℕ) (List ℕ)) → word_at (word y) bytes ≡ r → told_or y others r ≡ Ok x → Held (IsOneOf word In) bytes x
choice_took {X = X} word In y bytes x is_in others go (Ok u) is e =
    subst (λ (p : X × List ℕ). Held (IsOneOf word In) bytes p) (ok_is (y, u.1) x (Ok (y, u.1)) refl e) (record { text = word y; parts = word_takes (word y) bytes u is; means = (is_in, refl) })
choice_took word In y bytes x is_in others go (Err left) is e = go left e

choice_takes : {X : Type 0} (word : X → List ℕ) (In : X → Type 0) (xs : List X) (stop bytes : List ℕ) (x : X × List ℕ) → AllByRecursion In xs → choice_at word xs stop bytes ≡ Ok x → Held (IsOneOf word In) bytes x
unfolding choice_at
choice_takes word In [] stop bytes x all e = absurd cc
choice_takes word In (y ∷ xs) stop bytes x all e = choice_took word In y bytes x all.0 (λ left. choice_at word xs (shorter_of left stop) bytes) (λ left. choice_takes word In xs (shorter_of left stop) bytes x all.1) (word_at (word y) bytes) refl e

-- words of which each is in the list, and of which none before it fits where it stands
pub choice_piece : {X : Type 0} (word : X → List ℕ) (In : X → Type 0) (xs : List X) → AllByRecursion In xs → ((P : X → Type 0) → AllByRecursion P xs → (y : X) → In y → P y)
    → ((x : X) (rest : List ℕ) → In x → choice_at word xs (word x ++ rest) (word x ++ rest) ≡ Ok (x, rest)) → Begins (IsOneOf word In) [] → Piece (λ bytes. choice_at word xs bytes bytes) (IsOneOf word In)
choice_piece {X = X} word In xs all each again some = record {
  takes = λ bytes x e. choice_takes word In xs bytes bytes x all e;
  again = λ text rest x means. ap (λ (t : List ℕ). choice_at word xs (t ++ rest) (t ++ rest)) means.1 ∙ again x rest means.0;
  stops = λ bytes stop e.
      let f = furthest word In xs bytes bytes stop all (record { front = []; parts = refl; begins = some }) e in
      let r = f.reached in
      record {
        front = r.front;
        parts = r.parts;
        begins = r.begins;
        never = choice_never word In xs bytes r.front stop each r.parts f.missed;
      };
  some = some;
}
