-- Each allowed step keeps what is known of the closed part, so a closed tree proves the best.
use Rattle.std.specs.Prelude.{◌≡◌, ℕ, ◌+◌, ◌<◌, ◌≤◌, ◌⊎◌, Bool, true, List, [], ◌∷◌, ◌++◌, length, Option, Some, None, bytes_eq}
use Rattle.std.proofs.Common.{arith, refl, sym, ap, subst, inl, inr}
use Rattle.std.proofs.lemmas.Bool.{or_cases, or_left}
use Rattle.fund_base.proofs.Lists.{equal_bytes}
use Rattle.pick_problem.specs.declared.item.Kind.{Kind}
use Rattle.pick_problem.specs.declared.token.Reason.{Reason}
use Rattle.pick_problem.specs.declared.token.Reason.TheVariants.{Hit}
use Rattle.pick_problem.specs.declared.token.Token.{Token}
use Rattle.pick_problem.specs.declared.token.Token.TheVariants.{Enter, Pass, Close}
use Rattle.pick_problem.specs.Problem.{PlainProblem, IsProblem, Rising}
use Rattle.pick_problem.specs.Admissible.{IsAdmissible}
use Rattle.pick_problem.specs.Best.{IsBest, IsBetter, comes_before}
use Rattle.pick_problem.specs.Score.{score_by}
use Rattle.pick_problem.specs.Later.{behind_twins}
use Rattle.pick_problem.specs.Steps.{State, root, left, closed, after, after_all, Closes, IsAllowedAt, IsAllowed, AreAllowed, met_behind}
use Rattle.pick_problem.specs.ClosingTree.{IsAccepted, IsAnswered}
use Rattle.pick_problem.specs.SoFar.{ComesAfter, IsBeaten, IsOpen, SoFar, Stands}
use Rattle.pick_problem.proofs.OrderLaws.{before_by_test}
use Rattle.pick_problem.proofs.RisingLaws.{Rising-push, Rising-until, Rising-wider, twins_within}
use Rattle.pick_problem.proofs.OpenLaws.{opens_enter, opens_all, opens_close, opens_pass, opens_behind}
use Rattle.pick_problem.proofs.BestLaws.{below_irreflexive}
use Rattle.pick_problem.proofs.BranchLaws.{closed_beaten}
use Rattle.pick_problem.proofs.TwinLaws.{passed_beaten}
use Rattle.pick_problem.proofs.TreeSteps.{open_at, left_push, steps_from_tree}

-- a list is empty, or has a last element
pub data Ends : List ℕ → Type 0 where
  empty : Ends []
  pushed : (front : List ℕ) (last : ℕ) → Ends (front ++ last ∷ [])

push_front : (x : ℕ) (xs : List ℕ) → Ends xs → Ends (x ∷ xs)
push_front x xs empty = pushed [] x
push_front x xs (pushed front last) = pushed (x ∷ front) last

pub ends : (xs : List ℕ) → Ends xs
ends [] = empty
ends (x ∷ xs) = push_front x xs (ends xs)

-- where the answer is met after a branch, it was met before, or it is what is chosen
met_before : (a : Option (List ℕ)) (met : Bool) (chosen : List ℕ) (reason : Reason) → met_behind a met chosen reason ≡ true → (met ≡ true) ⊎ (a ≡ Some chosen)
met_before None met chosen Hit e = inl e
met_before (Some best) met chosen Hit e =
    elim (or_cases met (bytes_eq chosen best) e) [
      | inl m ↦ inl m
      | inr s ↦ let same : chosen ≡ best = equal_bytes chosen best s in inr (ap (λ (r : List ℕ). Some r) (sym same))
    ]
met_before a met chosen _ e = inl e

met_stays : (a : Option (List ℕ)) (met : Bool) (chosen : List ℕ) (reason : Reason) → met ≡ true → met_behind a met chosen reason ≡ true
met_stays None met chosen Hit e = e
met_stays (Some best) met chosen Hit e = or_left met (bytes_eq chosen best) e
met_stays a met chosen _ e = e

beaten_stays : (k : Kind) (p : PlainProblem) (a : Option (List ℕ)) (met met' : Bool) (q : List ℕ) → (met ≡ true → met' ≡ true) → IsBeaten k p a met q → IsBeaten k p a met' q
beaten_stays k p None met met' q stays h = h
beaten_stays k p (Some best) met met' q stays h = elim h [ inl l ↦ inl l | inr s ↦ inr (stays s.0, s.1, s.2) ]

comes_after : (a : Option (List ℕ)) (chosen q : List ℕ) → a ≡ Some chosen → comes_before chosen q ≡ true → ComesAfter a q
comes_after a chosen q e h = subst (λ (o : Option (List ℕ)). ComesAfter o q) (sym e) h

behind-least : (p : PlainProblem) (t : ℕ) → t ≤ behind_twins p t
behind-least p t = omega arith

module _ (p : PlainProblem) (is : IsProblem p) (a : Option (List ℕ)) where
  step_close : (met : Bool) (chosen : List ℕ) (t : ℕ) (reason : Reason) → Ends chosen → Closes p a met chosen t reason → SoFar p a (open_at chosen t met) → SoFar p a (left p (met_behind a met chosen reason) chosen)
  step_close met chosen t reason empty h so =
      let met' = met_behind a met [] reason in
      let each : (q : List ℕ) → IsAdmissible p q → Stands p a (closed p met') q = λ q good.
      elim (so.each q good) [
        | inl o ↦ inr (closed_beaten p is [] t q (opens_all (length p.items) t q o.0) good a met reason o.1 h)
        | inr b ↦ inr (beaten_stays p.kind p a met met' q (met_stays a met [] reason) b)
      ] in
      record { chosen = tt; within = omega arith; each = each }
  step_close met chosen t reason (pushed front last) h so =
      let met' = met_behind a met (front ++ last ∷ []) reason in
      let before = Rising-until t 0 front last so.chosen in
      let rises : Rising (last + 1) 0 front = Rising-wider last (last + 1) 0 front (omega arith) before.0 in
      let each : (q : List ℕ) → IsAdmissible p q → Stands p a (open_at front (last + 1) met') q = λ q good.
      elim (so.each q good) [
        | inl o ↦
            elim (opens_close (length p.items) front last t q o.0) [
              | inl x ↦ inr (closed_beaten p is (front ++ last ∷ []) t q x good a met reason o.1 h)
              | inr f ↦
                  inl (
                    f,
                    λ m. elim (met_before a met (front ++ last ∷ []) reason m) [
                      | inl old ↦ o.1 old
                      | inr e ↦ comes_after a (front ++ last ∷ []) q e (opens_behind (length p.items) front last q f)
                    ],
                  )
            ]
        | inr b ↦ inr (beaten_stays p.kind p a met met' q (met_stays a met (front ++ last ∷ []) reason) b)
      ] in
      let within : last + 1 ≤ length p.items = omega (arith, before.2, so.within) in
      let there : SoFar p a (open_at front (last + 1) met') = record { chosen = rises; within = within; each = each } in
      subst (SoFar p a) (sym (left_push p met' front last)) there

  step_enter : (met : Bool) (chosen : List ℕ) (t : ℕ) → t < length p.items → SoFar p a (open_at chosen t met) → SoFar p a (open_at (chosen ++ t ∷ []) (t + 1) met)
  step_enter met chosen t below so =
      record {
        chosen = Rising-push (t + 1) 0 t chosen (omega arith) (omega arith) so.chosen;
        within = omega arith;
        each = λ q good.
            elim (so.each q good) [
              | inl o ↦ inl (opens_enter (length p.items) chosen t q o.0, o.1)
              | inr b ↦ inr b
            ];
      }

  step_pass : (met : Bool) (chosen : List ℕ) (t : ℕ) → IsAllowedAt p a met chosen t Pass → SoFar p a (open_at chosen t met) → SoFar p a (open_at chosen (behind_twins p t) met)
  step_pass met chosen t allowed so =
      let still : (r : List ℕ) → IsAdmissible p r → IsOpen (length p.items) chosen t r ⊎ IsBeaten p.kind p a met r = λ r good.
      elim (so.each r good) [ inl o ↦ inl o.0 | inr b ↦ inr b ] in
      record {
        chosen = Rising-wider t (behind_twins p t) 0 chosen (behind-least p t) so.chosen;
        within = twins_within p t (omega (arith, allowed.1));
        each = λ q good.
            elim (so.each q good) [
              | inl o ↦
                  elim (opens_pass (length p.items) chosen t (behind_twins p t) q o.0) [
                    | inl f ↦ inl (f, o.1)
                    | inr y ↦ inr (passed_beaten p is a met chosen t allowed so.chosen q y good still o.1)
                  ]
              | inr b ↦ inr b
            ];
      }

  step_open : (met : Bool) (chosen : List ℕ) (t : ℕ) (k : Token) → IsAllowedAt p a met chosen t k → SoFar p a (open_at chosen t met) → SoFar p a (after p a (open_at chosen t met) k)
  step_open met chosen t Enter h so = step_enter met chosen t h so
  step_open met chosen t Pass h so = step_pass met chosen t h so
  step_open met chosen t (Close reason) h so = step_close met chosen t reason (ends chosen) h so

  -- each allowed step keeps what is known
  pub step_keeps : (s : State) (k : Token) → IsAllowed p a s k → SoFar p a s → SoFar p a (after p a s k)
  step_keeps s k h so =
      let e : s ≡ open_at s.chosen s.next s.met = ap (λ (b : Bool). record s { closed = b }) h.0 in
      subst (λ (x : State). SoFar p a (after p a x k)) (sym e) (step_open s.met s.chosen s.next k h.1 (subst (SoFar p a) e so))

  pub root_so_far : SoFar p a root
  root_so_far = record { chosen = tt; within = omega arith; each = λ q good. inl (good.rising, λ m. absurd (cc)) }

  pub steps_keep : (s : State) (ks : List Token) → AreAllowed p a s ks → SoFar p a s → SoFar p a (after_all p a s ks)
  steps_keep s [] h so = so
  steps_keep s (k ∷ ks) h so = steps_keep (after p a s k) ks h.1 (step_keeps s k h.0 so)

  -- after a closed tree every admissible selection is beaten
  pub all_beaten : (s : State) → s.closed ≡ true → SoFar p a s → (q : List ℕ) → IsAdmissible p q → IsBeaten p.kind p a s.met q
  all_beaten s e so q good =
      let w : State = record s { closed = true } in
      let same : s ≡ w = ap (λ (b : Bool). record s { closed = b }) e in
      let stands : Stands p a w q = (subst (SoFar p a) same so).each q good in
      elim stands [ inl o ↦ absurd o.0 | inr b ↦ b ]

-- an admissible answer was met after a closed tree, since it doesn't beat itself by its score
pub closed_met : (p : PlainProblem) (best : List ℕ) (s : State) → IsProblem p → s.closed ≡ true → SoFar p (Some best) s → IsAdmissible p best → s.met ≡ true
closed_met p best s is e so good =
    elim (all_beaten p is (Some best) s e so best good) [ inl l ↦ absurd (below_irreflexive (score_by p.kind p best) l) | inr m ↦ m.0 ]

better_than : (p : PlainProblem) (best : List ℕ) (met : Bool) (q : List ℕ) → IsAdmissible p best → IsAdmissible p q → IsBeaten p.kind p (Some best) met q → (q ≡ best) ⊎ IsBetter p best q
better_than p best met q a b h =
    elim h [
      | inl l ↦ inr (inl l)
      | inr s ↦
          elim s.2 [
            | inl e ↦ inl e
            | inr c ↦ inr (inr (s.1, before_by_test (length p.items) 0 best q a.rising b.rising c))
          ]
    ]

pub closed_best : (p : PlainProblem) → IsProblem p → (a : Option (List ℕ)) (s : State) → s.closed ≡ true → SoFar p a s → IsAnswered p a s.met → IsBest p a
closed_best p is None s e so answered = λ q good. all_beaten p is None s e so q good
closed_best p is (Some best) s e so answered =
    (answered.0, λ q good. better_than p best s.met q answered.0 good (all_beaten p is (Some best) s e so q good))

pub accepted_best : (p : PlainProblem) (a : Option (List ℕ)) (ks : List Token) → IsProblem p → IsAccepted p a ks → IsBest p a
accepted_best p a ks is h =
    let steps = steps_from_tree p a ks h.met h.tree in
    let there : SoFar p a (closed p h.met) = subst (SoFar p a) steps.1 (steps_keep p is a root ks steps.0 (root_so_far p is a)) in
    closed_best p is a (closed p h.met) refl there h.answered
