-- Letters in two parts, and in many.
use Rattle.std.specs.Prelude.{◌≡◌, ◌↔◌, ℕ, ◌⊎◌, ◌++◌, true, List, [], ◌∷◌, length, Option}
use Rattle.std.specs.List.{concat}
use Rattle.std.proofs.Common.{refl, sym, ap, subst, inl, inr, ◌∙◌, append_assoc}
use Rattle.wide_check.specs.declared.fault.WideFault.{WideFault}
use Rattle.wide_check.specs.declared.fault.WideFault.TheVariants.{UnknownToken, ReasonFalse, TooLong, Open, AnswerNotMet, BetterMet, AnswerNotAdmissible, Memory}
use Rattle.wide_check.specs.Feeding.{PlainWideChecker, EndsWell, IsFirstFault, IsMet, IsRefused, Takes, begun, counted, fed}
use Rattle.wide_check.specs.Sections.{EndsIn, LettersHave, PiecesEndWell, PiecesHave}
use Rattle.wide_check.proofs.PieceLaws.{counted_more}
use Rattle.wide_check.proofs.SectionLaws.{accepted_is}
use Rattle.pick_problem.specs.Problem.{PlainProblem}
use Rattle.wide_check.specs.Wide.{IsWideFit}
use Rattle.wide_check.specs.WideSteps.{WideState}
use Rattle.wide_check.specs.WideLetters.{IsWideAcceptedText, led}
use Rattle.wide_check.proofs.WideStepLaws.{led-append, taken-append, taken_behind, taken_front}

-- a letter of two lists joined stands in the first, or after it
cut : (f x : List ℕ) (l : ℕ) (r ys : List ℕ) → f ++ l ∷ r ≡ x ++ ys →
    ((m : List ℕ) × (x ≡ f ++ l ∷ m)) ⊎ ((m : List ℕ) × (f ≡ x ++ m) × (ys ≡ m ++ l ∷ r))
cut [] [] l r ys e = inr ([], refl, sym e)
cut [] (b ∷ x) l r ys e = let same : b ≡ l = cc in inl (x, ap (λ (z : ℕ). z ∷ x) same)
cut (d ∷ f) [] l r ys e = inr (d ∷ f, refl, sym e)
cut (d ∷ f) (b ∷ x) l r ys e =
    let same : d ≡ b = cc in
    let behind : f ++ l ∷ r ≡ x ++ ys = cc in
    elim (cut f x l r ys behind) [
      | inl k ↦ let here : x ≡ f ++ l ∷ k.0 = k.1 in let whole : b ∷ x ≡ d ∷ (f ++ l ∷ k.0) = cc in inl (k.0, whole)
      | inr k ↦ let here : f ≡ x ++ k.0 = k.1 in let whole : d ∷ f ≡ b ∷ (x ++ k.0) = cc in inr (k.0, whole, k.2)
    ]

module _ (c : PlainWideChecker) (xs ys : List ℕ) where
  refused_at : (q : List ℕ) (l : ℕ) (fault : WideFault) →
      IsRefused c.problem c.answer (led c.problem c.answer c.state (xs ++ q)) (counted c.fed (length (xs ++ q))) l fault →
      IsRefused c.problem c.answer (led c.problem c.answer (led c.problem c.answer c.state xs) q) (counted (counted c.fed (length xs)) (length q)) l fault
  refused_at q l fault h =
      subst (λ (s : WideState). IsRefused c.problem c.answer s (counted (counted c.fed (length xs)) (length q)) l fault) (led-append c.problem c.answer c.state xs q)
      (subst (λ (n : ℕ). IsRefused c.problem c.answer (led c.problem c.answer c.state (xs ++ q)) n l fault) (sym (counted_more c.fed xs q)) h)

  refused_whole : (q : List ℕ) (l : ℕ) (fault : WideFault) →
      IsRefused c.problem c.answer (led c.problem c.answer (led c.problem c.answer c.state xs) q) (counted (counted c.fed (length xs)) (length q)) l fault → IsRefused c.problem c.answer (led c.problem c.answer c.state (xs ++ q)) (counted c.fed (length (xs ++ q))) l fault
  refused_whole q l fault h =
      subst (λ (s : WideState). IsRefused c.problem c.answer s (counted c.fed (length (xs ++ q))) l fault) (sym (led-append c.problem c.answer c.state xs q))
      (subst (λ (n : ℕ). IsRefused c.problem c.answer (led c.problem c.answer (led c.problem c.answer c.state xs) q) n l fault) (counted_more c.fed xs q) h)

  first_of_two : (fault : WideFault) → IsFirstFault c (xs ++ ys) fault →
      IsFirstFault c xs fault ⊎ (Takes c xs × IsFirstFault (fed c xs) ys fault)
  first_of_two fault x =
      elim (cut x.front xs x.letter x.rest ys (sym x.split)) [
        | inl k ↦ inl (record { front = x.front; letter = x.letter; rest = k.0; split = k.1; taken = x.taken; refused = x.refused })
        | inr k ↦
            let taken : Takes c (xs ++ k.0) = subst (λ (q : List ℕ). Takes c q) k.1 x.taken in
            let refused : IsRefused c.problem c.answer (led c.problem c.answer c.state (xs ++ k.0)) (counted c.fed (length (xs ++ k.0))) x.letter fault =
            subst (λ (q : List ℕ). IsRefused c.problem c.answer (led c.problem c.answer c.state q) (counted c.fed (length q)) x.letter fault) k.1 x.refused in
            inr (
              taken_front c.problem c.answer c.state xs k.0 taken,
              record {
                front = k.0;
                letter = x.letter;
                rest = x.rest;
                split = k.2;
                taken = taken_behind c.problem c.answer c.state xs k.0 taken;
                refused = refused_at k.0 x.letter fault refused;
              },
            )
      ]

  first_in_front : (fault : WideFault) → IsFirstFault c xs fault → IsFirstFault c (xs ++ ys) fault
  first_in_front fault x = record {
    front = x.front;
    letter = x.letter;
    rest = x.rest ++ ys;
    split = ap (λ (q : List ℕ). q ++ ys) x.split ∙ append_assoc x.front (x.letter ∷ x.rest) ys;
    taken = x.taken;
    refused = x.refused;
  }

  first_behind : (fault : WideFault) → Takes c xs → IsFirstFault (fed c xs) ys fault → IsFirstFault c (xs ++ ys) fault
  first_behind fault taken x = record {
    front = xs ++ x.front;
    letter = x.letter;
    rest = x.rest;
    split = ap (λ (q : List ℕ). xs ++ q) x.split ∙ sym (append_assoc xs x.front (x.letter ∷ x.rest));
    taken = taken-append c.problem c.answer c.state xs x.front taken x.taken;
    refused = refused_whole x.front x.letter fault x.refused;
  }

  end_of_two : (P : WideState → Type 0) → P (led c.problem c.answer (led c.problem c.answer c.state xs) ys) →
      P (led c.problem c.answer c.state (xs ++ ys))
  end_of_two P h = subst P (sym (led-append c.problem c.answer c.state xs ys)) h

  end_in_two : (P : WideState → Type 0) → P (led c.problem c.answer c.state (xs ++ ys)) →
      P (led c.problem c.answer (led c.problem c.answer c.state xs) ys)
  end_in_two P h = subst P (led-append c.problem c.answer c.state xs ys) h

-- ---- many pieces

-- an end is a matter of the state and the answer alone
end_same : (c d : PlainWideChecker) (f : WideFault) → c.state ≡ d.state → c.answer ≡ d.answer → EndsIn c f → EndsIn d f
end_same c d Open state answer h = sym (ap (λ (s : WideState). s.closed) state) ∙ h
end_same c d AnswerNotMet state answer h = (
  sym (ap (λ (s : WideState). s.closed) state) ∙ h.0,
  λ met. h.1 (subst (λ (a : Option (List ℕ)). IsMet a c.state.met) (sym answer) (subst (λ (s : WideState). IsMet d.answer s.met) (sym state) met)),
)
end_same c d (UnknownToken q) state answer h = h
end_same c d (ReasonFalse q) state answer h = h
end_same c d (TooLong q) state answer h = h
end_same c d (BetterMet q) state answer h = h
end_same c d AnswerNotAdmissible state answer h = h
end_same c d Memory state answer h = h

no_first : (c : PlainWideChecker) (f : WideFault) (q : List ℕ) (l : ℕ) (r : List ℕ) → [] ≡ q ++ l ∷ r → ⊥
no_first c f [] l r e = cc
no_first c f (x ∷ q) l r e = cc

ends_whole : (c : PlainWideChecker) (pieces : List (List ℕ)) →
    PiecesEndWell c pieces ↔ (Takes c (concat pieces) × EndsWell (fed c (concat pieces)))
ends_whole c [] = (λ h. (tt, h), λ h. h.1)
ends_whole c (xs ∷ pieces) =
    let ys : List ℕ = concat pieces in
    let rest = ends_whole (fed c xs) pieces in (
      λ h.
          let there = rest.0 h.1 in (
            taken-append c.problem c.answer c.state xs ys h.0 there.0,
            (there.1.0, end_of_two c xs ys (λ s. s.closed ≡ true) there.1.1, end_of_two c xs ys (λ s. IsMet c.answer s.met) there.1.2),
          ),
      λ h. (
        taken_front c.problem c.answer c.state xs ys h.0,
        rest.1 (
          taken_behind c.problem c.answer c.state xs ys h.0,
          (h.1.0, end_in_two c xs ys (λ s. s.closed ≡ true) h.1.1, end_in_two c xs ys (λ s. IsMet c.answer s.met) h.1.2),
        ),
      ),
    )

pub pieces_accepted : (p : PlainProblem) (a : Option (List ℕ)) (pieces : List (List ℕ)) →
    (IsWideFit p a × PiecesEndWell (begun p a) pieces) ↔ IsWideAcceptedText p a (concat pieces)
pieces_accepted p a pieces =
    let whole = ends_whole (begun p a) pieces in
    let accepted = accepted_is p a (concat pieces) in
    (λ h. let there = whole.0 h.1 in accepted.1 (h.0, there.0, there.1), λ h. let there = accepted.0 h in (there.0, whole.1 (there.1, there.2)))

pub pieces_fault : (c : PlainWideChecker) (pieces : List (List ℕ)) (f : WideFault) →
    PiecesHave c pieces f ↔ LettersHave c (concat pieces) f
pieces_fault c [] f = (
  λ h. inr (tt, end_same c (fed c []) f refl refl h),
  λ h. elim h [ inl x ↦ absurd (no_first c f x.front x.letter x.rest x.split) | inr x ↦ end_same (fed c []) c f refl refl x.1 ],
)
pieces_fault c (xs ∷ pieces) f =
    let ys : List ℕ = concat pieces in
    let rest = pieces_fault (fed c xs) pieces f in
    let joined = led-append c.problem c.answer c.state xs ys in (
      λ h.
          elim h [
            | inl x ↦ inl (first_in_front c xs ys f x)
            | inr x ↦
                elim (rest.0 x.1) [
                  | inl y ↦ inl (first_behind c xs ys f x.0 y)
                  | inr y ↦ inr (taken-append c.problem c.answer c.state xs ys x.0 y.0, end_same (fed (fed c xs) ys) (fed c (xs ++ ys)) f (sym joined) refl y.1)
                ]
          ],
      λ h.
          elim h [
            | inl x ↦ elim (first_of_two c xs ys f x) [ inl y ↦ inl y | inr y ↦ inr (y.0, rest.1 (inl y.1)) ]
            | inr x ↦
                inr (
                  taken_front c.problem c.answer c.state xs ys x.0,
                  rest.1 (inr (taken_behind c.problem c.answer c.state xs ys x.0, end_same (fed c (xs ++ ys)) (fed (fed c xs) ys) f joined refl x.1)),
                )
          ],
    )
