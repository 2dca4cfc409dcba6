-- Sections: which are accepted, and which fault the others have. And the same in pieces.
use Rattle.std.specs.Prelude.{◌≡◌, ◌↔◌, ℕ, Bool, true, false, List, length, Option, Some, None}
use Rattle.std.proofs.Common.{refl, sym, inl, inr, ◌∙◌}
use Rattle.wide_check.specs.declared.fault.WideFault.{WideFault}
use Rattle.wide_check.specs.declared.fault.WideFault.TheVariants.{UnknownToken, ReasonFalse, TooLong, Open, AnswerNotMet, BetterMet, AnswerNotAdmissible, Memory}
use Rattle.wide_check.specs.Feeding.{PlainWideChecker, EndsWell, IsMet, Takes, begun, counted, fed}
use Rattle.wide_check.specs.Sections.{EndsIn, LettersHave, SectionHas}
use Rattle.wide_check.proofs.FaultLaws.{one_first_fault, taken_without_fault}
use Rattle.wide_check.proofs.FeedLaws.{answered_of, refused_letters}
use Rattle.pick_problem.specs.Problem.{PlainProblem}
use Rattle.wide_check.specs.Wide.{IsWideFit, IsWideProblem}
use Rattle.wide_check.specs.WideTree.{IsAnswered}
use Rattle.wide_check.specs.WideSteps.{WideState, root}
use Rattle.wide_check.specs.WideSoFar.{SoFar}
use Rattle.wide_check.specs.WideLetters.{IsWideAcceptedText, led, read}
use Rattle.wide_check.proofs.WideSoundLaws.{closed_met, root_so_far, steps_keep}
use Rattle.wide_check.proofs.WideStepLaws.{accepted_by_letters, taken_is}

-- ---- accepted

fit_of : (p : PlainProblem) (a : Option (List ℕ)) (met : Bool) → IsAnswered p a met → IsWideFit p a
fit_of p None met h = tt
fit_of p (Some best) met h = h.0

met_of : (p : PlainProblem) (a : Option (List ℕ)) (met : Bool) → IsAnswered p a met → IsMet a met
met_of p None met h = tt
met_of p (Some best) met h = h.1

pub accepted_is : (p : PlainProblem) (a : Option (List ℕ)) (letters : List ℕ) →
    IsWideAcceptedText p a letters ↔ (IsWideFit p a × Takes (begun p a) letters × EndsWell (fed (begun p a) letters))
accepted_is p a letters = (
  λ h.
      let steps = (accepted_by_letters p a letters).0 h in
      let met : Bool = (led p a root letters).met in
      (fit_of p a met steps.2, steps.0, (refl, steps.1, met_of p a met steps.2)),
  λ h. (accepted_by_letters p a letters).1 (h.1, h.2.1, answered_of p a (led p a root letters).met h.0 h.2.2),
)

-- ---- faults

end_not_well : (c : PlainWideChecker) (f : WideFault) → EndsWell c → EndsIn c f → ⊥
end_not_well c Open well h = let clash : true ≡ false = sym well.1 ∙ h in cc
end_not_well c AnswerNotMet well h = h.1 well.2
end_not_well c (UnknownToken q) well h = h
end_not_well c (ReasonFalse q) well h = h
end_not_well c (TooLong q) well h = h
end_not_well c (BetterMet q) well h = h
end_not_well c AnswerNotAdmissible well h = h
end_not_well c Memory well h = h

one_end : (c : PlainWideChecker) (f g : WideFault) → EndsIn c f → EndsIn c g → f ≡ g
one_end c Open Open h k = refl
one_end c AnswerNotMet AnswerNotMet h k = refl
one_end c Open AnswerNotMet h k = absurd (let clash : true ≡ false = sym k.0 ∙ h in cc)
one_end c AnswerNotMet Open h k = absurd (let clash : true ≡ false = sym h.0 ∙ k in cc)
one_end c Open (UnknownToken q) h k = absurd k
one_end c Open (ReasonFalse q) h k = absurd k
one_end c Open (TooLong q) h k = absurd k
one_end c Open (BetterMet q) h k = absurd k
one_end c Open AnswerNotAdmissible h k = absurd k
one_end c Open Memory h k = absurd k
one_end c AnswerNotMet (UnknownToken q) h k = absurd k
one_end c AnswerNotMet (ReasonFalse q) h k = absurd k
one_end c AnswerNotMet (TooLong q) h k = absurd k
one_end c AnswerNotMet (BetterMet q) h k = absurd k
one_end c AnswerNotMet AnswerNotAdmissible h k = absurd k
one_end c AnswerNotMet Memory h k = absurd k
one_end c (UnknownToken q) g h k = absurd h
one_end c (ReasonFalse q) g h k = absurd h
one_end c (TooLong q) g h k = absurd h
one_end c (BetterMet q) g h k = absurd h
one_end c AnswerNotAdmissible g h k = absurd h
one_end c Memory g h k = absurd h

one_of_letters : (c : PlainWideChecker) (letters : List ℕ) (f g : WideFault) → LettersHave c letters f →
    LettersHave c letters g → f ≡ g
one_of_letters c letters f g h k =
    elim h [
      | inl x ↦ elim k [ inl y ↦ one_first_fault c letters f g x y | inr y ↦ absurd (taken_without_fault c letters f y.0 x) ]
      | inr x ↦ elim k [ inl y ↦ absurd (taken_without_fault c letters g x.0 y) | inr y ↦ one_end (fed c letters) f g x.1 y.1 ]
    ]

pub one_fault : (p : PlainProblem) (a : Option (List ℕ)) (letters : List ℕ) (f g : WideFault) →
    SectionHas p a letters f → SectionHas p a letters g → f ≡ g
one_fault p a letters f g h k =
    elim h [
      | inl x ↦ elim k [ inl y ↦ x.0 ∙ sym y.0 | inr y ↦ absurd (x.1 y.0) ]
      | inr x ↦ elim k [ inl y ↦ absurd (y.1 x.0) | inr y ↦ one_of_letters (begun p a) letters f g x.1 y.1 ]
    ]

pub accepted_without_fault : (p : PlainProblem) (a : Option (List ℕ)) (letters : List ℕ) (f : WideFault) →
    IsWideAcceptedText p a letters → SectionHas p a letters f → ⊥
accepted_without_fault p a letters f good h =
    let parts = (accepted_is p a letters).0 good in
    elim h [
      | inl x ↦ x.1 parts.0
      | inr x ↦ elim x.1 [ inl y ↦ taken_without_fault (begun p a) letters f parts.1 y | inr y ↦ end_not_well (fed (begun p a) letters) f parts.2 y.1 ]
    ]

-- an answer that is admissible is met once the tree is closed
unmet : (p : PlainProblem) (a : Option (List ℕ)) (s : WideState) → IsWideFit p a → s.closed ≡ true → SoFar p a s →
    (¬ IsMet a s.met) → ⊥
unmet p None s fit shut so_far none = none tt
unmet p (Some best) s fit shut so_far none = none (closed_met p best s shut so_far fit)

not_kept : (p : PlainProblem) (a : Option (List ℕ)) (letters : List ℕ) → LettersHave (begun p a) letters AnswerNotMet →
    Takes (begun p a) letters × EndsIn (fed (begun p a) letters) AnswerNotMet
not_kept p a letters h =
    elim h [ inl x ↦ absurd (refused_letters p a (led p a root x.front) (counted 0 (length x.front)) x.letter AnswerNotMet x.refused) | inr y ↦ y ]

pub never_unmet : (p : PlainProblem) (a : Option (List ℕ)) (letters : List ℕ) → IsWideProblem p →
    SectionHas p a letters AnswerNotMet → ⊥
never_unmet p a letters is h =
    elim h [
      | inl x ↦ let clash : AnswerNotMet ≡ AnswerNotAdmissible = x.0 in absurd (cc)
      | inr x ↦
          let end_ = not_kept p a letters x.1 in
          let so_far : SoFar p a (led p a root letters) = steps_keep p is a root (read letters) ((taken_is p a root letters).0 end_.0).1 (root_so_far p a) in
          unmet p a (led p a root letters) x.0 end_.1.0 so_far end_.1.1
    ]
