-- Steps in pieces, the first that isn't allowed, and acceptance by steps.
use Rattle.std.specs.Prelude.{◌≡◌, ℕ, ◌<◌, ◌↔◌, Bool, true, false, List, [], ◌∷◌, ◌++◌, length, Option, Some, None, IsSomeAnd}
use Rattle.std.proofs.Common.{arith, refl, sym, ap, subst, ◌∙◌}
use Rattle.wide_check.specs.declared.token.WideToken.{WideToken}
use Rattle.pick_problem.specs.Problem.{PlainProblem}
use Rattle.wide_check.specs.WideTokens.{letter_of, token_of}
use Rattle.wide_check.specs.WideSteps.{WideState, root, after, after_all, IsAllowed, AreAllowed}
use Rattle.wide_check.specs.WideTree.{IsWideAccepted, IsAnswered}
use Rattle.wide_check.specs.WideLetters.{letters_of, token_read, read, IsTaken, AreTaken, led, StopsAt, IsWideAcceptedText}
use Rattle.wide_check.proofs.WideTreeSteps.{steps_from_tree, tree_from_closed}
use Rattle.wide_check.proofs.WideLetterLaws.{letter_is, letter_read, read_is, read_letters, token_of_letter}

module _ (p : PlainProblem) (a : Option (List ℕ)) where
  -- ---- tokens

  pub allowed-append : (s : WideState) (ks ls : List WideToken) → AreAllowed p a s ks → AreAllowed p a (after_all p a s ks) ls →
      AreAllowed p a s (ks ++ ls)
  allowed-append s [] ls h f = f
  allowed-append s (k ∷ ks) ls h f = (h.0, allowed-append (after p a s k) ks ls h.1 f)

  pub allowed_front : (s : WideState) (ks ls : List WideToken) → AreAllowed p a s (ks ++ ls) → AreAllowed p a s ks
  allowed_front s [] ls h = tt
  allowed_front s (k ∷ ks) ls h = (h.0, allowed_front (after p a s k) ks ls h.1)

  pub allowed_behind : (s : WideState) (ks ls : List WideToken) → AreAllowed p a s (ks ++ ls) →
      AreAllowed p a (after_all p a s ks) ls
  allowed_behind s [] ls h = h
  allowed_behind s (k ∷ ks) ls h = allowed_behind (after p a s k) ks ls h.1

  pub after-append : (s : WideState) (ks ls : List WideToken) →
      after_all p a s (ks ++ ls) ≡ after_all p a (after_all p a s ks) ls
  after-append s [] ls = refl
  after-append s (k ∷ ks) ls = after-append (after p a s k) ks ls

  -- ---- letters

  pub taken-append : (s : WideState) (xs ys : List ℕ) → AreTaken p a s xs → AreTaken p a (led p a s xs) ys →
      AreTaken p a s (xs ++ ys)
  taken-append s [] ys h f = f
  taken-append s (x ∷ xs) ys h f = (h.0, taken-append (after p a s (token_read x)) xs ys h.1 f)

  pub taken_front : (s : WideState) (xs ys : List ℕ) → AreTaken p a s (xs ++ ys) → AreTaken p a s xs
  taken_front s [] ys h = tt
  taken_front s (x ∷ xs) ys h = (h.0, taken_front (after p a s (token_read x)) xs ys h.1)

  pub taken_behind : (s : WideState) (xs ys : List ℕ) → AreTaken p a s (xs ++ ys) → AreTaken p a (led p a s xs) ys
  taken_behind s [] ys h = h
  taken_behind s (x ∷ xs) ys h = taken_behind (after p a s (token_read x)) xs ys h.1

  pub led-append : (s : WideState) (xs ys : List ℕ) → led p a s (xs ++ ys) ≡ led p a (led p a s xs) ys
  led-append s [] ys = refl
  led-append s (x ∷ xs) ys = led-append (after p a s (token_read x)) xs ys

  -- bytes are taken exactly where they are the letters of allowed tokens
  taken_one : (s : WideState) (b : ℕ) (o : Option WideToken) → token_of b ≡ o → IsSomeAnd o (λ token. IsAllowed p a s token) →
      (b ≡ letter_of (token_read b)) × IsAllowed p a s (token_read b)
  taken_one s b None e h = absurd h
  taken_one s b (Some k) e h =
      let same : token_read b ≡ k = read_is b k e in
      (sym (ap letter_of same ∙ letter_is b k e), subst (λ (m : WideToken). IsAllowed p a s m) (sym same) h)

  taken_allowed : (s : WideState) (letters : List ℕ) → AreTaken p a s letters →
      (letters ≡ letters_of (read letters)) × AreAllowed p a s (read letters)
  taken_allowed s [] h = (refl, tt)
  taken_allowed s (b ∷ bs) h =
      let one = taken_one s b (token_of b) refl h.0 in
      let rest = taken_allowed (after p a s (token_read b)) bs h.1 in
      (ap (λ (x : ℕ). x ∷ bs) one.0 ∙ ap (λ (xs : List ℕ). letter_of (token_read b) ∷ xs) rest.0, (one.1, rest.1))

  pub letters_taken : (s : WideState) (ks : List WideToken) → AreAllowed p a s ks → AreTaken p a s (letters_of ks)
  letters_taken s [] h = tt
  letters_taken s (k ∷ ks) h = (
    subst (λ (o : Option WideToken). IsSomeAnd o (λ token. IsAllowed p a s token)) (sym (token_of_letter k)) h.0,
    subst (λ (m : WideToken). AreTaken p a (after p a s m) (letters_of ks)) (sym (letter_read k)) (letters_taken (after p a s k) ks h.1),
  )

  pub taken_is : (s : WideState) (letters : List ℕ) →
      AreTaken p a s letters ↔ ((letters ≡ letters_of (read letters)) × AreAllowed p a s (read letters))
  taken_is s letters = (taken_allowed s letters, λ h. subst (λ (xs : List ℕ). AreTaken p a s xs) (sym h.0) (letters_taken s (read letters) h.1))

  -- ---- the first byte that isn't taken

  same_stop : (s : WideState) (f g : List ℕ) (b c : ℕ) (bs cs : List ℕ) → f ++ b ∷ bs ≡ g ++ c ∷ cs → AreTaken p a s f →
      AreTaken p a s g → (¬ IsTaken p a (led p a s f) b) → (¬ IsTaken p a (led p a s g) c) → (f ≡ g) × (b ≡ c)
  same_stop s [] [] b c bs cs e h k m n = (refl, cc)
  same_stop s [] (y ∷ g) b c bs cs e h k m n = let same : y ≡ b = cc in absurd (m (subst (λ (x : ℕ). IsTaken p a s x) same k.0))
  same_stop s (x ∷ f) [] b c bs cs e h k m n = let same : x ≡ c = cc in absurd (n (subst (λ (z : ℕ). IsTaken p a s z) same h.0))
  same_stop s (x ∷ f) (y ∷ g) b c bs cs e h k m n =
      let same : y ≡ x = cc in
      let behind : f ++ b ∷ bs ≡ g ++ c ∷ cs = cc in
      let taken : AreTaken p a (after p a s (token_read x)) g = subst (λ (z : ℕ). AreTaken p a (after p a s (token_read z)) g) same k.1 in
      let refused : ¬ IsTaken p a (led p a (after p a s (token_read x)) g) c = subst (λ (z : ℕ). ¬ IsTaken p a (led p a (after p a s (token_read z)) g) c) same n in
      let rest = same_stop (after p a s (token_read x)) f g b c bs cs behind h.1 taken m refused in
      let fronts : f ≡ g = rest.0 in
      (cc, rest.1)

  -- bytes stop at one place
  pub one_stop : (s : WideState) (letters : List ℕ) (x y : StopsAt p a s letters) →
      (x.front ≡ y.front) × (x.letter ≡ y.letter)
  one_stop s letters x y = same_stop s x.front y.front x.letter y.letter x.rest y.rest (sym x.split ∙ y.split) x.taken y.taken x.refused y.refused

  -- those that are taken don't stop
  pub taken_goes_on : (s : WideState) (letters : List ℕ) → AreTaken p a s letters → StopsAt p a s letters → ⊥
  taken_goes_on s letters h x =
      let whole : AreTaken p a s (x.front ++ x.letter ∷ x.rest) = subst (λ (xs : List ℕ). AreTaken p a s xs) x.split h in
      x.refused (taken_behind s x.front (x.letter ∷ x.rest) whole).0

  -- ---- acceptance

  pub accepted_by_steps : (ks : List WideToken) →
      IsWideAccepted p a ks ↔ (AreAllowed p a root ks × ((after_all p a root ks).closed ≡ true) × IsAnswered p a (after_all p a root ks).met)
  accepted_by_steps ks = (
    λ h.
        let steps = steps_from_tree p a ks h.met h.tree in
        (steps.0, ap (λ (s : WideState). s.closed) steps.1, subst (λ (m : Bool). IsAnswered p a m) (sym (ap (λ (s : WideState). s.met) steps.1)) h.answered),
    λ h. record { met = (after_all p a root ks).met; tree = tree_from_closed p a ks h.0 h.1; answered = h.2 },
  )

  pub accepted_by_letters : (letters : List ℕ) →
      IsWideAcceptedText p a letters ↔ (AreTaken p a root letters × ((led p a root letters).closed ≡ true) × IsAnswered p a (led p a root letters).met)
  accepted_by_letters letters = (
    λ h.
        let steps = (accepted_by_steps h.0).0 h.2 in
        let tokens : read letters ≡ h.0 = ap read h.1 ∙ read_letters h.0 in
        let there : led p a root letters ≡ after_all p a root h.0 = ap (λ (ks : List WideToken). after_all p a root ks) tokens in (
          subst (λ (xs : List ℕ). AreTaken p a root xs) (sym h.1) (letters_taken root h.0 steps.0),
          subst (λ (s : WideState). s.closed ≡ true) (sym there) steps.1,
          subst (λ (s : WideState). IsAnswered p a s.met) (sym there) steps.2,
        ),
    λ h.
        let taken = taken_allowed root letters h.0 in
        (read letters, taken.0, (accepted_by_steps (read letters)).1 (taken.1, h.1, h.2)),
  )

  -- a log that is accepted has a token
  pub accepted_has_token : (ks : List WideToken) → IsWideAccepted p a ks → 0 < length ks
  accepted_has_token [] h = let e : false ≡ true = ((accepted_by_steps []).0 h).1 in absurd (cc)
  accepted_has_token (k ∷ ks) h = omega arith
