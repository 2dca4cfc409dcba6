-- Each allowed step keeps what is known of the closed part, so a closed tree proves the best.
use Rattle.std.specs.Prelude.{◌≡◌, ℕ, ◌+◌, ◌<◌, ◌≤◌, ◌⊎◌, Bool, true, false, List, [], ◌∷◌, ◌++◌, length, Option, Some, None, bytes_eq}
use Rattle.std.proofs.Common.{arith, refl, sym, ap, subst, inl, inr, ◌∙◌}
use Rattle.std.proofs.lemmas.Bool.{or_cases, or_left, or_right}
use Rattle.std.proofs.lemmas.Int.{ints}
use Rattle.fund_base.proofs.Lists.{equal_bytes, same_bytes}
use Rattle.pick_problem.specs.Later.{behind_twins}
use Rattle.pick_problem.specs.Problem.{PlainProblem, Rising}
use Rattle.pick_problem.specs.Steps.{met_at}
use Rattle.pick_problem.proofs.RisingLaws.{Rising-push, Rising-until, Rising-wider, twins_within}
use Rattle.pick_problem.proofs.SoundLaws.{Ends, empty, pushed, ends}
use Rattle.wide_check.specs.declared.token.WideReason.{WideReason}
use Rattle.wide_check.specs.declared.token.WideToken.{WideToken}
use Rattle.wide_check.specs.declared.token.WideToken.TheVariants.{Enter, Pass, Mark, Close}
use Rattle.wide_check.specs.Wide.{IsWide, IsWideBest, IsWideBetter, IsWideProblem, is_met_before, waste_of}
use Rattle.wide_check.specs.WideSoFar.{ComesAfter, IsBeaten, IsOpen, SoFar, Stands}
use Rattle.wide_check.specs.WideSteps.{WideState, root, left, closed, after, after_all, Closes, IsAllowedAt, IsAllowed, IsDue, AreAllowed, StandsAt, Suits}
use Rattle.wide_check.specs.WideTree.{IsWideAccepted, IsAnswered}
use Rattle.wide_check.proofs.MetLaws.{met_by_test}
use Rattle.wide_check.proofs.WideBranchLaws.{closed_beaten}
use Rattle.wide_check.proofs.WideOpenLaws.{opens_enter, opens_all, opens_close, opens_pass, opens_after, settled}
use Rattle.wide_check.proofs.WideTreeSteps.{open_at, left_push, steps_from_tree}
use Rattle.wide_check.proofs.WideTwinLaws.{passed_beaten}

-- where the answer is met with what is chosen, it was met before, or it is what is chosen
met_before_mark : (a : Option (List ℕ)) (met : Bool) (chosen : List ℕ) → met_at a met chosen ≡ true → (met ≡ true) ⊎ (a ≡ Some chosen)
met_before_mark None met chosen e = inl e
met_before_mark (Some best) met chosen e =
    elim (or_cases met (bytes_eq chosen best) e) [
      | inl m ↦ inl m
      | inr s ↦ let same : chosen ≡ best = equal_bytes chosen best s in inr (ap (λ (r : List ℕ). Some r) (sym same))
    ]

met_stays : (a : Option (List ℕ)) (met : Bool) (chosen : List ℕ) → met ≡ true → met_at a met chosen ≡ true
met_stays None met chosen e = e
met_stays (Some best) met chosen e = or_left met (bytes_eq chosen best) e

beaten_stays : (p : PlainProblem) (a : Option (List ℕ)) (met met' : Bool) (q : List ℕ) → (met ≡ true → met' ≡ true) → IsBeaten p a met q → IsBeaten p a met' q
beaten_stays p None met met' q stays h = h
beaten_stays p (Some best) met met' q stays h = elim h [ inl l ↦ inl l | inr s ↦ inr (stays s.0, s.1, s.2) ]

comes_after : (a : Option (List ℕ)) (chosen q : List ℕ) → a ≡ Some chosen → is_met_before chosen q ≡ true → ComesAfter a q
comes_after a chosen q e h = subst (λ (o : Option (List ℕ)). ComesAfter o q) (sym e) h

behind-least : (p : PlainProblem) (t : ℕ) → t ≤ behind_twins p t
behind-least p t = omega arith

-- a list that is marked is the answer or beaten by it
marked_beaten : (p : PlainProblem) (a : Option (List ℕ)) (met : Bool) (chosen q : List ℕ) → q ≡ chosen → (met ≡ true → ComesAfter a q) → StandsAt p a met chosen 0 Mark → IsBeaten p a (met_at a met chosen) q
marked_beaten p None met chosen q same later h = absurd h
marked_beaten p (Some best) met chosen q same later h =
    elim h [
      | inl e ↦
          let is_it : q ≡ best = same ∙ e in
          inr (or_right met (bytes_eq chosen best) (same_bytes chosen best e), ap (waste_of p) (sym is_it), inl is_it)
      | inr l ↦
          let wastes : waste_of p q ≡ waste_of p chosen = ap (waste_of p) same in
          elim l [
            | inl more ↦ inl (omega (arith, ints, more, wastes))
            | inr e ↦ inr (or_left met (bytes_eq chosen best) e.1, omega (arith, ints, e.0, wastes), inr (later e.1))
          ]
    ]

module _ (p : PlainProblem) (is : IsWideProblem p) (a : Option (List ℕ)) where
  step_close : (entered met : Bool) (chosen : List ℕ) (t : ℕ) (reason : WideReason) → Ends chosen → Suits p entered chosen (Close reason) → Closes p a met chosen t reason → SoFar p a (open_at chosen t entered met) → SoFar p a (left p met chosen)
  step_close entered met chosen t reason empty suits h so =
      let each : (q : List ℕ) → IsWide p q → Stands p a (closed p met) q = λ q good.
      elim (so.each q good) [
        | inl o ↦ inr (closed_beaten p entered [] t q (opens_all (length p.items) entered t q o.0) good a met reason o.1 suits h)
        | inr b ↦ inr b
      ] in
      record { chosen = tt; within = omega arith; each = each }
  step_close entered met chosen t reason (pushed front last) suits h so =
      let before = Rising-until t 0 front last so.chosen in
      let rises : Rising (last + 1) 0 front = Rising-wider last (last + 1) 0 front (omega arith) before.0 in
      let each : (q : List ℕ) → IsWide p q → Stands p a (open_at front (last + 1) false met) q = λ q good.
      elim (so.each q good) [
        | inl o ↦
            elim (opens_close (length p.items) entered front last t q o.0) [
              | inl x ↦ inr (closed_beaten p entered (front ++ last ∷ []) t q x good a met reason o.1 suits h)
              | inr f ↦ inl (f, o.1)
            ]
        | inr b ↦ inr b
      ] in
      let within : last + 1 ≤ length p.items = omega (arith, before.2, so.within) in
      let there : SoFar p a (open_at front (last + 1) false met) = record { chosen = rises; within = within; each = each } in
      subst (SoFar p a) (sym (left_push p met front last)) there

  -- where nothing is due, the chosen places themselves are decided
  decided : (entered met : Bool) (chosen : List ℕ) (t : ℕ) → (¬ IsDue p entered chosen) → SoFar p a (open_at chosen t entered met) → SoFar p a (open_at chosen t false met)
  decided false met chosen t nothing_due so = so
  decided true met chosen t nothing_due so =
      record {
        chosen = so.chosen;
        within = so.within;
        each = λ q good.
            elim (so.each q good) [
              | inl o ↦
                  elim (settled (length p.items) true chosen t q o.0) [
                    | inl e ↦ absurd (nothing_due (refl, subst (IsWide p) e good))
                    | inr f ↦ inl (f, o.1)
                  ]
              | inr b ↦ inr b
            ];
      }

  step_enter : (met : Bool) (chosen : List ℕ) (t : ℕ) → t < length p.items → SoFar p a (open_at chosen t false met) → SoFar p a (open_at (chosen ++ t ∷ []) (t + 1) true met)
  step_enter met chosen t below so =
      record {
        chosen = Rising-push (t + 1) 0 t chosen (omega arith) (omega arith) so.chosen;
        within = omega arith;
        each = λ q good.
            elim (so.each q good) [
              | inl o ↦ inl (opens_enter (length p.items) chosen t q o.0, o.1)
              | inr b ↦ inr b
            ];
      }

  step_pass : (met : Bool) (chosen : List ℕ) (t : ℕ) → StandsAt p a met chosen t Pass → SoFar p a (open_at chosen t false met) → SoFar p a (open_at chosen (behind_twins p t) false met)
  step_pass met chosen t allowed so =
      let still : (r : List ℕ) → IsWide p r → IsOpen (length p.items) false chosen t r ⊎ IsBeaten p a met r = λ r good.
      elim (so.each r good) [ inl o ↦ inl o.0 | inr b ↦ inr b ] in
      record {
        chosen = Rising-wider t (behind_twins p t) 0 chosen (behind-least p t) so.chosen;
        within = twins_within p t (omega (arith, allowed.1));
        each = λ q good.
            elim (so.each q good) [
              | inl o ↦
                  elim (opens_pass (length p.items) chosen t (behind_twins p t) q o.0) [
                    | inl f ↦ inl (f, o.1)
                    | inr y ↦ inr (passed_beaten p is.kind a met chosen t allowed so.chosen q y good still o.1)
                  ]
              | inr b ↦ inr b
            ];
      }

  step_mark : (entered met : Bool) (chosen : List ℕ) (t : ℕ) → StandsAt p a met chosen t Mark → SoFar p a (open_at chosen t entered met) → SoFar p a (open_at chosen t false (met_at a met chosen))
  step_mark entered met chosen t stands so =
      record {
        chosen = so.chosen;
        within = so.within;
        each = λ q good.
            elim (so.each q good) [
              | inl o ↦
                  elim (settled (length p.items) entered chosen t q o.0) [
                    | inl e ↦ inr (marked_beaten p a met chosen q e o.1 stands)
                    | inr f ↦
                        inl (
                          f,
                          λ m. elim (met_before_mark a met chosen m) [
                            | inl old ↦ o.1 old
                            | inr e ↦ comes_after a chosen q e (opens_after (length p.items) chosen t q f)
                          ],
                        )
                  ]
              | inr b ↦ inr (beaten_stays p a met (met_at a met chosen) q (met_stays a met chosen) b)
            ];
      }

  step_open : (entered met : Bool) (chosen : List ℕ) (t : ℕ) (k : WideToken) → IsAllowedAt p a entered met chosen t k → SoFar p a (open_at chosen t entered met) → SoFar p a (after p a (open_at chosen t entered met) k)
  step_open entered met chosen t Enter h so = step_enter met chosen t h.stands (decided entered met chosen t h.suits so)
  step_open entered met chosen t Pass h so = step_pass met chosen t h.stands (decided entered met chosen t h.suits so)
  step_open entered met chosen t Mark h so = step_mark entered met chosen t h.stands so
  step_open entered met chosen t (Close reason) h so = step_close entered met chosen t reason (ends chosen) h.suits h.stands so

  -- each allowed step keeps what is known
  pub step_keeps : (s : WideState) (k : WideToken) → IsAllowed p a s k → SoFar p a s → SoFar p a (after p a s k)
  step_keeps s k h so =
      let e : s ≡ open_at s.chosen s.next s.entered s.met = ap (λ (b : Bool). record s { closed = b }) h.0 in
      subst (λ (x : WideState). SoFar p a (after p a x k)) (sym e) (step_open s.entered s.met s.chosen s.next k h.1 (subst (SoFar p a) e so))

  pub steps_keep : (s : WideState) (ks : List WideToken) → AreAllowed p a s ks → SoFar p a s → SoFar p a (after_all p a s ks)
  steps_keep s [] h so = so
  steps_keep s (k ∷ ks) h so = steps_keep (after p a s k) ks h.1 (step_keeps s k h.0 so)

module _ (p : PlainProblem) (a : Option (List ℕ)) where
  pub root_so_far : SoFar p a root
  root_so_far = record { chosen = tt; within = omega arith; each = λ q good. inl ((good.rising, λ e. good.some), λ m. absurd (cc)) }

  -- after a closed tree every selection is beaten
  pub all_beaten : (s : WideState) → s.closed ≡ true → SoFar p a s → (q : List ℕ) → IsWide p q → IsBeaten p a s.met q
  all_beaten s e so q good =
      let w : WideState = record s { closed = true } in
      let same : s ≡ w = ap (λ (b : Bool). record s { closed = b }) e in
      let stands : Stands p a w q = (subst (SoFar p a) same so).each q good in
      elim stands [ inl o ↦ absurd o.0 | inr b ↦ b ]

-- an answer that is a selection was met after a closed tree, since it doesn't beat itself by its waste
pub closed_met : (p : PlainProblem) (best : List ℕ) (s : WideState) → s.closed ≡ true → SoFar p (Some best) s → IsWide p best → s.met ≡ true
closed_met p best s e so good =
    elim (all_beaten p (Some best) s e so best good) [ inl l ↦ absurd (omega (arith, ints, l)) | inr m ↦ m.0 ]

better_than : (p : PlainProblem) (best : List ℕ) (met : Bool) (q : List ℕ) → IsBeaten p (Some best) met q → (q ≡ best) ⊎ IsWideBetter p best q
better_than p best met q h =
    elim h [
      | inl l ↦ inr (inl l)
      | inr s ↦
          elim s.2 [
            | inl e ↦ inl e
            | inr c ↦ inr (inr (s.1, met_by_test best q c))
          ]
    ]

pub closed_best : (p : PlainProblem) (a : Option (List ℕ)) (s : WideState) → s.closed ≡ true → SoFar p a s → IsAnswered p a s.met → IsWideBest p a
closed_best p None s e so answered = λ q good. all_beaten p None s e so q good
closed_best p (Some best) s e so answered =
    (answered.0, λ q good. better_than p best s.met q (all_beaten p (Some best) s e so q good))

pub accepted_best : (p : PlainProblem) (a : Option (List ℕ)) (ks : List WideToken) → IsWideProblem p → IsWideAccepted p a ks → IsWideBest p a
accepted_best p a ks is h =
    let steps = steps_from_tree p a ks h.met h.tree in
    let there : SoFar p a (closed p h.met) = subst (SoFar p a) steps.1 (steps_keep p is a root ks steps.0 (root_so_far p a)) in
    closed_best p a (closed p h.met) refl there h.answered
