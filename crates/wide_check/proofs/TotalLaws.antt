-- A letter is taken or has a fault; so a section is accepted or has one.
use Rattle.std.specs.Prelude.{◌≡◌, ℕ, ◌⊎◌, Bool, true, false, List, [], ◌∷◌, Option, Some, None, IsSome, IsSomeAnd}
use Rattle.std.proofs.Common.{refl, sym, ap, subst, inl, inr}
use Rattle.wide_check.specs.declared.fault.WideFault.{WideFault}
use Rattle.wide_check.specs.declared.fault.WideFault.TheVariants.{UnknownToken, ReasonFalse, TooLong, Open, AnswerNotMet, BetterMet, AnswerNotAdmissible}
use Rattle.wide_check.specs.Feeding.{PlainWideChecker, EndsWell, IsFalse, IsFirstFault, IsMet, IsRefused, Takes, begun, counted, fed}
use Rattle.wide_check.specs.Sections.{EndsIn, SectionHas}
use Rattle.wide_check.proofs.DecideLaws.{allowed, fit}
use Rattle.wide_check.proofs.PieceLaws.{counted_more}
use Rattle.wide_check.proofs.SectionLaws.{accepted_is}
use Rattle.wide_check.specs.declared.token.WideToken.{WideToken}
use Rattle.wide_check.specs.declared.token.WideToken.TheVariants.{Enter, Pass, Mark, Close}
use Rattle.pick_problem.specs.Problem.{PlainProblem}
use Rattle.wide_check.specs.WideTokens.{token_of}
use Rattle.wide_check.specs.WideSteps.{WideState, IsAllowed, IsAllowedAt}
use Rattle.wide_check.specs.WideLetters.{IsWideAcceptedText, IsTaken, led}

module _ (p : PlainProblem) (a : Option (List ℕ)) (s : WideState) (place b : ℕ) where
  false_here : (token : WideToken) → token_of b ≡ Some token → s.closed ≡ false → IsFalse p a s token →
      (f : WideFault) × IsRefused p a s place b f
  false_here token e open_ wrong = (ReasonFalse place, (refl, open_, subst (λ (o : Option WideToken). IsSomeAnd o (λ k. IsFalse p a s k)) (sym e) wrong))

  -- B that isn't allowed breaks its rule, any other token is false
  token_fault : (token : WideToken) → token_of b ≡ Some token → s.closed ≡ false →
      (¬ IsAllowedAt p a s.entered s.met s.chosen s.next token) → (f : WideFault) × IsRefused p a s place b f
  token_fault Mark e open_ other = (BetterMet place, (refl, open_, e, other))
  token_fault Enter e open_ other = false_here Enter e open_ ((λ same. cc), other)
  token_fault Pass e open_ other = false_here Pass e open_ ((λ same. cc), other)
  token_fault (Close reason) e open_ other = false_here (Close reason) e open_ ((λ same. cc), other)

  at_token : (o : Option WideToken) (c : Bool) → token_of b ≡ o → s.closed ≡ c →
      IsTaken p a s b ⊎ ((f : WideFault) × IsRefused p a s place b f)
  at_token None c e shut = inr (UnknownToken place, (refl, e))
  at_token (Some token) true e shut = inr (TooLong place, (refl, shut, subst (λ (o : Option WideToken). IsSome o) (sym e) refl))
  at_token (Some token) false e shut =
      elim (allowed p a s.entered s.met s.chosen s.next token) [
        | inl h ↦ inl (subst (λ (o : Option WideToken). IsSomeAnd o (λ k. IsAllowed p a s k)) (sym e) (shut, h))
        | inr h ↦ inr (token_fault token e shut h)
      ]

  taken_or_refused : IsTaken p a s b ⊎ ((f : WideFault) × IsRefused p a s place b f)
  taken_or_refused = at_token (token_of b) s.closed refl refl

-- a fault after one letter more
behind_letter : (c : PlainWideChecker) (b : ℕ) (bs : List ℕ) (f : WideFault) → IsTaken c.problem c.answer c.state b →
    IsFirstFault (fed c (b ∷ [])) bs f → IsFirstFault c (b ∷ bs) f
behind_letter c b bs f taken x = record {
  front = b ∷ x.front;
  letter = x.letter;
  rest = x.rest;
  split = ap (λ (q : List ℕ). b ∷ q) x.split;
  taken = (taken, x.taken);
  refused =
      subst (λ (n : ℕ). IsRefused c.problem c.answer (led c.problem c.answer c.state (b ∷ x.front)) n x.letter f) (counted_more c.fed (b ∷ []) x.front) x.refused;
}

letters_judged : (c : PlainWideChecker) (letters : List ℕ) → Takes c letters ⊎ ((f : WideFault) × IsFirstFault c letters f)
letters_judged c [] = inl tt
letters_judged c (b ∷ bs) =
    let rest = letters_judged (fed c (b ∷ [])) bs in
    elim (taken_or_refused c.problem c.answer c.state (counted c.fed 0) b) [
      | inl h ↦ elim rest [ inl k ↦ inl (h, k) | inr k ↦ inr (k.0, behind_letter c b bs k.0 h k.1) ]
      | inr h ↦ inr (h.0, record { front = []; letter = b; rest = bs; split = refl; taken = tt; refused = h.1 })
    ]

met_or_not : (a : Option (List ℕ)) (met : Bool) → IsMet a met ⊎ (¬ IsMet a met)
met_or_not None met = inl tt
met_or_not (Some best) true = inl refl
met_or_not (Some best) false = inr (λ m. cc)

end_judged : (c : PlainWideChecker) (shut : Bool) → c.state.closed ≡ shut → c.fault ≡ None →
    EndsWell c ⊎ ((f : WideFault) × EndsIn c f)
end_judged c false e fine = inr (Open, e)
end_judged c true e fine = elim (met_or_not c.answer c.state.met) [ inl h ↦ inl (fine, e, h) | inr h ↦ inr (AnswerNotMet, (e, h)) ]

-- each section is accepted, or has a fault
pub judged : (p : PlainProblem) (a : Option (List ℕ)) (letters : List ℕ) →
    IsWideAcceptedText p a letters ⊎ ((f : WideFault) × SectionHas p a letters f)
judged p a letters =
    elim (fit p a) [
      | inl good ↦
          elim (letters_judged (begun p a) letters) [
            | inl taken ↦
                elim (end_judged (fed (begun p a) letters) (fed (begun p a) letters).state.closed refl refl) [
                  | inl well ↦ inl ((accepted_is p a letters).1 (good, taken, well))
                  | inr h ↦ inr (h.0, inr (good, inr (taken, h.1)))
                ]
            | inr h ↦ inr (h.0, inr (good, inl h.1))
          ]
      | inr unfit ↦ inr (AnswerNotAdmissible, inl (refl, unfit))
    ]
