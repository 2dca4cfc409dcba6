-- A letter that is refused isn't taken, and has one fault; so the letters of a piece have one fault at most.
use Rattle.std.specs.Prelude.{◌≡◌, ℕ, true, false, List, length, Option, Some, None, IsSome, IsSomeAnd}
use Rattle.std.proofs.Common.{refl, sym, ap, subst, ◌∙◌}
use Rattle.wide_check.specs.declared.fault.WideFault.{WideFault}
use Rattle.wide_check.specs.declared.fault.WideFault.TheVariants.{UnknownToken, ReasonFalse, TooLong, Open, AnswerNotMet, BetterMet, AnswerNotAdmissible, Memory}
use Rattle.wide_check.specs.Feeding.{PlainWideChecker, IsFalse, IsFirstFault, IsRefused, Takes, counted}
use Rattle.wide_check.specs.declared.token.WideToken.{WideToken}
use Rattle.wide_check.specs.declared.token.WideToken.TheVariants.{Mark}
use Rattle.pick_problem.specs.Problem.{PlainProblem}
use Rattle.wide_check.specs.WideTokens.{token_of}
use Rattle.wide_check.specs.WideSteps.{WideState, IsAllowed, IsAllowedAt}
use Rattle.wide_check.specs.WideLetters.{IsTaken, StopsAt, led}
use Rattle.wide_check.proofs.WideStepLaws.{one_stop, taken_goes_on}

apart : {T : Type 0} (o : Option T) (P Q : T → Type 0) → IsSomeAnd o P → IsSomeAnd o Q → ((x : T) → P x → Q x → ⊥) → ⊥
apart None P Q h k other = h
apart (Some x) P Q h k other = other x h k

false_not_allowed : (p : PlainProblem) (a : Option (List ℕ)) (s : WideState) (token : WideToken) → IsFalse p a s token →
    IsAllowedAt p a s.entered s.met s.chosen s.next token → ⊥
false_not_allowed p a s token h k = h.1 k

module _ (p : PlainProblem) (a : Option (List ℕ)) (s : WideState) (place b : ℕ) where
  none_taken : token_of b ≡ None → IsTaken p a s b → ⊥
  none_taken e h = let none : IsSomeAnd None (λ (k : WideToken). IsAllowed p a s k) = subst (λ (o : Option WideToken). IsSomeAnd o (λ k. IsAllowed p a s k)) e h in none

  none_false : token_of b ≡ None → IsSomeAnd (token_of b) (λ k. IsFalse p a s k) → ⊥
  none_false e h = let none : IsSomeAnd None (λ (k : WideToken). IsFalse p a s k) = subst (λ (o : Option WideToken). IsSomeAnd o (λ k. IsFalse p a s k)) e h in none

  none_some : token_of b ≡ None → IsSome (token_of b) → ⊥
  none_some e h = let none : IsSome {T = WideToken} None = subst (λ (o : Option WideToken). IsSome o) e h in cc

  mark_taken : token_of b ≡ Some Mark → IsTaken p a s b → IsAllowed p a s Mark
  mark_taken e h = subst (λ (o : Option WideToken). IsSomeAnd o (λ k. IsAllowed p a s k)) e h

  false_better : IsSomeAnd (token_of b) (λ k. IsFalse p a s k) → token_of b ≡ Some Mark → ⊥
  false_better h e =
      let here : IsFalse p a s Mark = subst (λ (o : Option WideToken). IsSomeAnd o (λ k. IsFalse p a s k)) e h in
      here.0 refl

  pub refused_not_taken : (f : WideFault) → IsRefused p a s place b f → IsTaken p a s b → ⊥
  refused_not_taken (UnknownToken q) h taken = none_taken h.1 taken
  refused_not_taken (ReasonFalse q) h taken =
      apart (token_of b) (λ k. IsFalse p a s k) (λ k. IsAllowed p a s k) h.2 taken (λ k wrong allowed. false_not_allowed p a s k wrong allowed.1)
  refused_not_taken (TooLong q) h taken =
      apart (token_of b) (λ k. IsAllowed p a s k) (λ k. IsAllowed p a s k) taken taken (λ k allowed same. let clash : true ≡ false = sym h.1 ∙ allowed.0 in cc)
  refused_not_taken (BetterMet q) h taken = h.3 (mark_taken h.2 taken).1
  refused_not_taken Open h taken = h
  refused_not_taken AnswerNotMet h taken = h
  refused_not_taken AnswerNotAdmissible h taken = h
  refused_not_taken Memory h taken = h

  pub same_refusal : (f g : WideFault) → IsRefused p a s place b f → IsRefused p a s place b g → f ≡ g
  same_refusal (UnknownToken q) (UnknownToken r) h k = let e : q ≡ r = h.0 ∙ sym k.0 in ap (λ (m : ℕ). UnknownToken m) e
  same_refusal (UnknownToken q) (ReasonFalse r) h k = absurd (none_false h.1 k.2)
  same_refusal (UnknownToken q) (TooLong r) h k = absurd (none_some h.1 k.2)
  same_refusal (UnknownToken q) (BetterMet r) h k = absurd (let clash : None ≡ Some Mark = sym h.1 ∙ k.2 in cc)
  same_refusal (UnknownToken q) Open h k = absurd k
  same_refusal (UnknownToken q) AnswerNotMet h k = absurd k
  same_refusal (UnknownToken q) AnswerNotAdmissible h k = absurd k
  same_refusal (UnknownToken q) Memory h k = absurd k
  same_refusal (ReasonFalse q) (UnknownToken r) h k = absurd (none_false k.1 h.2)
  same_refusal (ReasonFalse q) (ReasonFalse r) h k = let e : q ≡ r = h.0 ∙ sym k.0 in ap (λ (m : ℕ). ReasonFalse m) e
  same_refusal (ReasonFalse q) (TooLong r) h k = absurd (let clash : true ≡ false = sym k.1 ∙ h.1 in cc)
  same_refusal (ReasonFalse q) (BetterMet r) h k = absurd (false_better h.2 k.2)
  same_refusal (ReasonFalse q) Open h k = absurd k
  same_refusal (ReasonFalse q) AnswerNotMet h k = absurd k
  same_refusal (ReasonFalse q) AnswerNotAdmissible h k = absurd k
  same_refusal (ReasonFalse q) Memory h k = absurd k
  same_refusal (TooLong q) (UnknownToken r) h k = absurd (none_some k.1 h.2)
  same_refusal (TooLong q) (ReasonFalse r) h k = absurd (let clash : true ≡ false = sym h.1 ∙ k.1 in cc)
  same_refusal (TooLong q) (TooLong r) h k = let e : q ≡ r = h.0 ∙ sym k.0 in ap (λ (m : ℕ). TooLong m) e
  same_refusal (TooLong q) (BetterMet r) h k = absurd (let clash : true ≡ false = sym h.1 ∙ k.1 in cc)
  same_refusal (TooLong q) Open h k = absurd k
  same_refusal (TooLong q) AnswerNotMet h k = absurd k
  same_refusal (TooLong q) AnswerNotAdmissible h k = absurd k
  same_refusal (TooLong q) Memory h k = absurd k
  same_refusal (BetterMet q) (UnknownToken r) h k = absurd (let clash : None ≡ Some Mark = sym k.1 ∙ h.2 in cc)
  same_refusal (BetterMet q) (ReasonFalse r) h k = absurd (false_better k.2 h.2)
  same_refusal (BetterMet q) (TooLong r) h k = absurd (let clash : true ≡ false = sym k.1 ∙ h.1 in cc)
  same_refusal (BetterMet q) (BetterMet r) h k = let e : q ≡ r = h.0 ∙ sym k.0 in ap (λ (m : ℕ). BetterMet m) e
  same_refusal (BetterMet q) Open h k = absurd k
  same_refusal (BetterMet q) AnswerNotMet h k = absurd k
  same_refusal (BetterMet q) AnswerNotAdmissible h k = absurd k
  same_refusal (BetterMet q) Memory h k = absurd k
  same_refusal Open g h k = absurd h
  same_refusal AnswerNotMet g h k = absurd h
  same_refusal AnswerNotAdmissible g h k = absurd h
  same_refusal Memory g h k = absurd h

-- ---- the first fault of letters

stop_of : (c : PlainWideChecker) (letters : List ℕ) (f : WideFault) → IsFirstFault c letters f →
    StopsAt c.problem c.answer c.state letters
stop_of c letters f x = record {
  front = x.front;
  letter = x.letter;
  rest = x.rest;
  split = x.split;
  taken = x.taken;
  refused = refused_not_taken c.problem c.answer (led c.problem c.answer c.state x.front) (counted c.fed (length x.front)) x.letter f x.refused;
}

pub taken_without_fault : (c : PlainWideChecker) (letters : List ℕ) (f : WideFault) → Takes c letters →
    IsFirstFault c letters f → ⊥
taken_without_fault c letters f taken x = taken_goes_on c.problem c.answer c.state letters taken (stop_of c letters f x)

pub one_first_fault : (c : PlainWideChecker) (letters : List ℕ) (f g : WideFault) → IsFirstFault c letters f →
    IsFirstFault c letters g → f ≡ g
unfolding stop_of
one_first_fault c letters f g x y =
    let same = one_stop c.problem c.answer c.state letters (stop_of c letters f x) (stop_of c letters g y) in
    let fronts : x.front ≡ y.front = same.0 in
    let bytes : x.letter ≡ y.letter = same.1 in
    let other : IsRefused c.problem c.answer (led c.problem c.answer c.state x.front) (counted c.fed (length x.front)) x.letter g =
    subst (λ (b : ℕ). IsRefused c.problem c.answer (led c.problem c.answer c.state x.front) (counted c.fed (length x.front)) b g) (sym bytes)
    (subst (λ (q : List ℕ). IsRefused c.problem c.answer (led c.problem c.answer c.state q) (counted c.fed (length q)) y.letter g) (sym fronts) y.refused) in
    same_refusal c.problem c.answer (led c.problem c.answer c.state x.front) (counted c.fed (length x.front)) x.letter f g x.refused other
