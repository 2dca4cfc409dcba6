-- Tries that drop their place and change nothing else: by which rules they are told, and what they write.
use Rattle.std.specs.Prelude.{◌≡◌, ℕ, ◌+◌, ◌<◌, ◌≤◌, List, [], ◌∷◌, ◌++◌, length, reverse, Option, nat_lt}
use Rattle.std.proofs.Common.{refl, sym, ap, ◌∙◌, append-nil, append_assoc}
use Rattle.pick_problem.specs.Later.{behind_twins}
use Rattle.pick_problem.specs.Problem.{PlainProblem}
use Rattle.pick_problem.proofs.Deciding.{if_false, if_true}
use Rattle.wide_check.specs.declared.token.WideReason.{WideReason}
use Rattle.wide_check.specs.declared.token.WideReason.TheVariants.{Over, Heavy, Wasteful}
use Rattle.wide_check.specs.declared.token.WideToken.{WideToken}
use Rattle.wide_check.specs.declared.token.WideToken.TheVariants.{Enter, Pass, Close}
use Rattle.wide_check.specs.WideLetters.{letters_of}
use Rattle.wide_check.specs.WideTokens.{letter_of}
use Rattle.wide_search.specs.Skipping.{OnlyDrops, dropping}
use Rattle.wide_search.specs.WideWalk.{Rule, IsOver, IsHeavy, IsWasteful, best_of, rule, shift, way_of, writes}
use Rattle.wide_search.proofs.WayLaws.{lt_false, lt_true, pass_tokens}

module _ (p : PlainProblem) (t : ℕ) (reason : WideReason) (old mid new : List ℕ)
    (noted : mid ≡ old ++ letters_of (Enter ∷ Close reason ∷ [])) where
  noted_more : (ks : List WideToken) → pass_tokens p t ≡ ks → new ≡ mid ++ letters_of ks →
      new ≡ old ++ letters_of (dropping p t reason)
  noted_more ks passed e =
      e ∙ (ap (λ (xs : List ℕ). xs ++ letters_of ks) noted
      ∙ (append_assoc old (letters_of (Enter ∷ Close reason ∷ [])) (letters_of ks)
      ∙ ap (λ (ls : List WideToken). old ++ letters_of (Enter ∷ Close reason ∷ ls)) (sym passed)))

  -- twins are passed, or there are none
  pub drops_some : t + 1 < behind_twins p (t + 1) → new ≡ mid ++ letter_of Pass ∷ [] →
      new ≡ old ++ letters_of (dropping p t reason)
  drops_some more e = noted_more (Pass ∷ []) (if_true (nat_lt (t + 1) (behind_twins p (t + 1))) (Pass ∷ []) []
      (lt_true (t + 1) (behind_twins p (t + 1)) more)) e

pub drops_none : (p : PlainProblem) (t : ℕ) (reason : WideReason) (old new : List ℕ) →
    new ≡ old ++ letters_of (Enter ∷ Close reason ∷ []) → behind_twins p (t + 1) ≤ t + 1 →
    new ≡ old ++ letters_of (dropping p t reason)
drops_none p t reason old new noted none =
    noted_more p t reason old new new noted [] (if_false (nat_lt (t + 1) (behind_twins p (t + 1))) (Pass ∷ []) []
    (lt_false (t + 1) (behind_twins p (t + 1)) none)) (sym (append-nil new))

-- ---- which rule it is

drops_by : (p : PlainProblem) (b : Option (List ℕ)) (q : List ℕ) (t : ℕ) (r : Rule) (reason : WideReason) →
    behind_twins p (t + 1) < length p.items → r ≡ rule p b (q ++ t ∷ []) t →
    way_of p (reverse q) t r ≡ writes (Close reason) (shift p (reverse q) t) →
    best_of p b (q ++ t ∷ []) r ≡ b → OnlyDrops p b q t reason
drops_by p b q t r reason more e way best =
    record {
      way = ap (way_of p (reverse q) t) (sym e) ∙ way;
      best = ap (best_of p b (q ++ t ∷ [])) (sym e) ∙ best;
      more = more;
    }

module _ (p : PlainProblem) (b : Option (List ℕ)) (q : List ℕ) (t : ℕ) (more : behind_twins p (t + 1) < length p.items) where
  pub drops_over : IsOver ≡ rule p b (q ++ t ∷ []) t → OnlyDrops p b q t Over
  drops_over e = drops_by p b q t IsOver Over more e refl refl

  pub drops_heavy : IsHeavy ≡ rule p b (q ++ t ∷ []) t → OnlyDrops p b q t Heavy
  drops_heavy e = drops_by p b q t IsHeavy Heavy more e refl refl

  pub drops_wasteful : IsWasteful ≡ rule p b (q ++ t ∷ []) t → OnlyDrops p b q t Wasteful
  drops_wasteful e = drops_by p b q t IsWasteful Wasteful more e refl refl
