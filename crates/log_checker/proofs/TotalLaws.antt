-- A letter is taken or has a fault; so a section is accepted or has one.
use Rattle.std.specs.Prelude.{◌≡◌, ℕ, ◌⊎◌, Bool, true, false, List, [], ◌∷◌, Option, Some, None, IsSome, IsSomeAnd}
use Rattle.std.proofs.Common.{refl, sym, ap, subst, inl, inr}
use Rattle.std.proofs.lemmas.Bool.{cases_lt}
use Rattle.log_checker.specs.declared.fault.LogFault.{LogFault}
use Rattle.log_checker.specs.declared.fault.LogFault.TheVariants.{UnknownToken, ReasonFalse, TooLong, Open, AnswerNotMet, BetterMet, AnswerNotAdmissible}
use Rattle.log_checker.specs.Feeding.{PlainChecker, EndsWell, IsFalse, IsFirstFault, IsMet, IsRefused, Takes, begun, counted, fed}
use Rattle.log_checker.specs.Sections.{EndsIn, SectionHas}
use Rattle.log_checker.proofs.DecideLaws.{admissible, allowed, fit, no_better_than_answer}
use Rattle.log_checker.proofs.PieceLaws.{counted_more}
use Rattle.log_checker.proofs.SectionLaws.{accepted_is}
use Rattle.pick_problem.specs.declared.token.Reason.TheVariants.{Short, Over, Heavy, NoRoom, Worse, Heavier, Far, Hit}
use Rattle.pick_problem.specs.declared.token.Token.{Token}
use Rattle.pick_problem.specs.declared.token.Token.TheVariants.{Enter, Pass, Close}
use Rattle.pick_problem.specs.Problem.{PlainProblem, value_of}
use Rattle.pick_problem.specs.Tokens.{token_of}
use Rattle.pick_problem.specs.Steps.{State, IsAllowed, IsAllowedAt}
use Rattle.pick_problem.specs.Letters.{IsAcceptedText, IsTaken, led}

module _ (p : PlainProblem) (a : Option (List ℕ)) (s : State) (place b : ℕ) where
  false_here : (token : Token) → token_of b ≡ Some token → s.closed ≡ false → IsFalse p a s token →
      (f : LogFault) × IsRefused p a s place b f
  false_here token e open_ wrong = (ReasonFalse place, (refl, open_, subst (λ (o : Option Token). IsSomeAnd o (λ k. IsFalse p a s k)) (sym e) wrong))

  -- A below lo is false; at an admissible selection that isn't beaten a better one is met
  hit_fault : token_of b ≡ Some (Close Hit) → s.closed ≡ false → (¬ IsAllowedAt p a s.met s.chosen s.next (Close Hit)) →
      (f : LogFault) × IsRefused p a s place b f
  hit_fault e open_ other =
      elim (cases_lt (value_of p s.chosen) p.lo) [
        | inl low ↦ false_here (Close Hit) e open_ low
        | inr enough ↦
            elim (admissible p s.chosen) [
              | inl good ↦
                  elim (no_better_than_answer p a s.met s.chosen) [
                    | inl beaten ↦ absurd (other (enough, λ m. beaten))
                    | inr better ↦ (BetterMet place, (refl, open_, e, good, better))
                  ]
              | inr unfit ↦ absurd (other (enough, λ m. absurd (unfit m)))
            ]
      ]

  token_fault : (token : Token) → token_of b ≡ Some token → s.closed ≡ false →
      (¬ IsAllowedAt p a s.met s.chosen s.next token) → (f : LogFault) × IsRefused p a s place b f
  token_fault Enter e open_ other = false_here Enter e open_ other
  token_fault Pass e open_ other = false_here Pass e open_ other
  token_fault (Close Short) e open_ other = false_here (Close Short) e open_ other
  token_fault (Close Over) e open_ other = false_here (Close Over) e open_ other
  token_fault (Close Heavy) e open_ other = false_here (Close Heavy) e open_ other
  token_fault (Close NoRoom) e open_ other = false_here (Close NoRoom) e open_ other
  token_fault (Close Worse) e open_ other = false_here (Close Worse) e open_ other
  token_fault (Close Heavier) e open_ other = false_here (Close Heavier) e open_ other
  token_fault (Close Far) e open_ other = false_here (Close Far) e open_ other
  token_fault (Close Hit) e open_ other = hit_fault e open_ other

  at_token : (o : Option Token) (c : Bool) → token_of b ≡ o → s.closed ≡ c →
      IsTaken p a s b ⊎ ((f : LogFault) × IsRefused p a s place b f)
  at_token None c e shut = inr (UnknownToken place, (refl, e))
  at_token (Some token) true e shut = inr (TooLong place, (refl, shut, subst (λ (o : Option Token). IsSome o) (sym e) refl))
  at_token (Some token) false e shut =
      elim (allowed p a s.met s.chosen s.next token) [
        | inl h ↦ inl (subst (λ (o : Option Token). IsSomeAnd o (λ k. IsAllowed p a s k)) (sym e) (shut, h))
        | inr h ↦ inr (token_fault token e shut h)
      ]

  taken_or_refused : IsTaken p a s b ⊎ ((f : LogFault) × IsRefused p a s place b f)
  taken_or_refused = at_token (token_of b) s.closed refl refl

-- a fault after one letter more
behind_letter : (c : PlainChecker) (b : ℕ) (bs : List ℕ) (f : LogFault) → IsTaken c.problem c.answer c.state b →
    IsFirstFault (fed c (b ∷ [])) bs f → IsFirstFault c (b ∷ bs) f
behind_letter c b bs f taken x = record {
  front = b ∷ x.front;
  letter = x.letter;
  rest = x.rest;
  split = ap (λ (q : List ℕ). b ∷ q) x.split;
  taken = (taken, x.taken);
  refused =
      subst (λ (n : ℕ). IsRefused c.problem c.answer (led c.problem c.answer c.state (b ∷ x.front)) n x.letter f) (counted_more c.fed (b ∷ []) x.front) x.refused;
}

letters_judged : (c : PlainChecker) (letters : List ℕ) → Takes c letters ⊎ ((f : LogFault) × IsFirstFault c letters f)
letters_judged c [] = inl tt
letters_judged c (b ∷ bs) =
    let rest = letters_judged (fed c (b ∷ [])) bs in
    elim (taken_or_refused c.problem c.answer c.state (counted c.fed 0) b) [
      | inl h ↦ elim rest [ inl k ↦ inl (h, k) | inr k ↦ inr (k.0, behind_letter c b bs k.0 h k.1) ]
      | inr h ↦ inr (h.0, record { front = []; letter = b; rest = bs; split = refl; taken = tt; refused = h.1 })
    ]

met_or_not : (a : Option (List ℕ)) (met : Bool) → IsMet a met ⊎ (¬ IsMet a met)
met_or_not None met = inl tt
met_or_not (Some best) true = inl refl
met_or_not (Some best) false = inr (λ m. cc)

end_judged : (c : PlainChecker) (shut : Bool) → c.state.closed ≡ shut → c.fault ≡ None →
    EndsWell c ⊎ ((f : LogFault) × EndsIn c f)
end_judged c false e fine = inr (Open, e)
end_judged c true e fine = elim (met_or_not c.answer c.state.met) [ inl h ↦ inl (fine, e, h) | inr h ↦ inr (AnswerNotMet, (e, h)) ]

-- each section is accepted, or has a fault
pub judged : (p : PlainProblem) (a : Option (List ℕ)) (letters : List ℕ) →
    IsAcceptedText p a letters ⊎ ((f : LogFault) × SectionHas p a letters f)
judged p a letters =
    elim (fit p a) [
      | inl good ↦
          elim (letters_judged (begun p a) letters) [
            | inl taken ↦
                elim (end_judged (fed (begun p a) letters) (fed (begun p a) letters).state.closed refl refl) [
                  | inl well ↦ inl ((accepted_is p a letters).1 (good, taken, well))
                  | inr h ↦ inr (h.0, inr (good, inr (taken, h.1)))
                ]
            | inr h ↦ inr (h.0, inr (good, inl h.1))
          ]
      | inr unfit ↦ inr (AnswerNotAdmissible, inl (refl, unfit))
    ]
