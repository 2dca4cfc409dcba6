-- The law of steps: a tree of the root and steps that close it are one and the same.
use Rattle.std.specs.Prelude.{◌≡◌, ℕ, zero, suc, ◌+◌, ◌≤◌, ◌↔◌, Bool, true, false, List, [], ◌∷◌, ◌++◌, length, Option}
use Rattle.std.proofs.Common.{arith, refl, sym, ap, subst, ◌∙◌, append_assoc, length-append}
use Rattle.std.proofs.lemmas.List.{append-nil}
use Rattle.wide_check.specs.declared.token.WideToken.{WideToken}
use Rattle.wide_check.specs.declared.token.WideToken.TheVariants.{Enter, Pass, Mark, Close}
use Rattle.pick_problem.specs.Problem.{PlainProblem}
use Rattle.pick_problem.specs.Later.{behind_twins}
use Rattle.pick_problem.specs.Steps.{met_at}
use Rattle.pick_problem.proofs.TreeSteps.{split_last_push}
use Rattle.wide_check.specs.WideSteps.{WideState, root, left, left_at, closed, after_all, AreAllowed, IsClosedBySteps}
use Rattle.wide_check.specs.WideTree.{Tree, Leaf, Fork, Skip, Marked, tokens_of, met_after, IsTree, IsRootTree}

abbrev pub open_at : List ℕ → ℕ → Bool → Bool → WideState
open_at chosen t entered met = record { chosen = chosen; next = t; entered = entered; closed = false; met = met }

-- after the node with the last place the reading goes on without it
pub left_push : (p : PlainProblem) (met : Bool) (chosen : List ℕ) (j : ℕ) → left p met (chosen ++ j ∷ []) ≡ open_at chosen (j + 1) false met
left_push p met chosen j = ap (left_at p met) (split_last_push chosen j)

-- the tokens at the front of which a tree of a node stands
record Parsed (p : PlainProblem) (a : Option (List ℕ)) (entered met : Bool) (chosen : List ℕ) (t : ℕ) (ks : List WideToken) : Type 0 where
  pub tree : Tree
  pub rest : List WideToken
  pub is : ks ≡ tokens_of tree ++ rest
  pub good : IsTree p a entered met chosen t tree

module _ (p : PlainProblem) (a : Option (List ℕ)) where
  pub tree_steps : (tree : Tree) (entered met : Bool) (chosen : List ℕ) (t : ℕ) → IsTree p a entered met chosen t tree → (ks : List WideToken) → AreAllowed p a (left p (met_after p a met chosen t tree) chosen) ks → AreAllowed p a (open_at chosen t entered met) (tokens_of tree ++ ks)
  tree_steps (Leaf reason) entered met chosen t h ks rest = ((refl, h), rest)
  tree_steps (Fork x y) entered met chosen t h ks rest =
      let behind = met_after p a met (chosen ++ t ∷ []) (t + 1) x in
      let second : AreAllowed p a (open_at chosen (t + 1) false behind) (tokens_of y ++ ks) = tree_steps y false behind chosen (t + 1) h.2 ks rest in
      let first : AreAllowed p a (open_at (chosen ++ t ∷ []) (t + 1) true met) (tokens_of x ++ (tokens_of y ++ ks)) =
      tree_steps x true met (chosen ++ t ∷ []) (t + 1) h.1 (tokens_of y ++ ks) (subst (λ (s : WideState). AreAllowed p a s (tokens_of y ++ ks)) (sym (left_push p behind chosen t)) second) in
      ((refl, h.0), subst (λ (r : List WideToken). AreAllowed p a (open_at (chosen ++ t ∷ []) (t + 1) true met) r) (sym (append_assoc (tokens_of x) (tokens_of y) ks)) first)
  tree_steps (Skip x) entered met chosen t h ks rest = ((refl, h.0), tree_steps x false met chosen (behind_twins p t) h.1 ks rest)
  tree_steps (Marked x) entered met chosen t h ks rest = ((refl, h.0), tree_steps x false (met_at a met chosen) chosen t h.1 ks rest)

  -- what stands after a tree is allowed after it
  steps_behind : (tree : Tree) (entered met : Bool) (chosen : List ℕ) (t : ℕ) (ks : List WideToken) → AreAllowed p a (open_at chosen t entered met) (tokens_of tree ++ ks) → AreAllowed p a (left p (met_after p a met chosen t tree) chosen) ks
  steps_behind (Leaf reason) entered met chosen t ks h = h.1
  steps_behind (Fork x y) entered met chosen t ks h =
      let behind = met_after p a met (chosen ++ t ∷ []) (t + 1) x in
      let first : AreAllowed p a (left p behind (chosen ++ t ∷ [])) (tokens_of y ++ ks) =
      steps_behind x true met (chosen ++ t ∷ []) (t + 1) (tokens_of y ++ ks) (subst (λ (r : List WideToken). AreAllowed p a (open_at (chosen ++ t ∷ []) (t + 1) true met) r) (append_assoc (tokens_of x) (tokens_of y) ks) h.1) in
      steps_behind y false behind chosen (t + 1) ks (subst (λ (s : WideState). AreAllowed p a s (tokens_of y ++ ks)) (left_push p behind chosen t) first)
  steps_behind (Skip x) entered met chosen t ks h = steps_behind x false met chosen (behind_twins p t) ks h.1
  steps_behind (Marked x) entered met chosen t ks h = steps_behind x false (met_at a met chosen) chosen t ks h.1

  pub tree_state : (tree : Tree) (entered met : Bool) (chosen : List ℕ) (t : ℕ) (ks : List WideToken) → after_all p a (open_at chosen t entered met) (tokens_of tree ++ ks) ≡ after_all p a (left p (met_after p a met chosen t tree) chosen) ks
  tree_state (Leaf reason) entered met chosen t ks = refl
  tree_state (Fork x y) entered met chosen t ks =
      let behind = met_after p a met (chosen ++ t ∷ []) (t + 1) x in
      ap (λ (r : List WideToken). after_all p a (open_at (chosen ++ t ∷ []) (t + 1) true met) r) (append_assoc (tokens_of x) (tokens_of y) ks)
      ∙ (tree_state x true met (chosen ++ t ∷ []) (t + 1) (tokens_of y ++ ks)
      ∙ (ap (λ (s : WideState). after_all p a s (tokens_of y ++ ks)) (left_push p behind chosen t)
      ∙ tree_state y false behind chosen (t + 1) ks))
  tree_state (Skip x) entered met chosen t ks = tree_state x false met chosen (behind_twins p t) ks
  tree_state (Marked x) entered met chosen t ks = tree_state x false (met_at a met chosen) chosen t ks

  shorter : (tree : Tree) (ks rest : List WideToken) (fuel : ℕ) → ks ≡ tokens_of tree ++ rest → length ks ≤ fuel → length rest ≤ fuel
  shorter tree ks rest fuel e l = omega (arith, ap (λ (r : List WideToken). length r) e, length-append (tokens_of tree) rest)

  -- after the tree with the next place the reading is at the node without it
  without_allowed : (x : Tree) (met : Bool) (chosen : List ℕ) (t : ℕ) (ks rest : List WideToken) → ks ≡ tokens_of x ++ rest → AreAllowed p a (open_at (chosen ++ t ∷ []) (t + 1) true met) ks → AreAllowed p a (open_at chosen (t + 1) false (met_after p a met (chosen ++ t ∷ []) (t + 1) x)) rest
  without_allowed x met chosen t ks rest e h =
      let behind = met_after p a met (chosen ++ t ∷ []) (t + 1) x in
      let whole : AreAllowed p a (open_at (chosen ++ t ∷ []) (t + 1) true met) (tokens_of x ++ rest) = subst (λ (r : List WideToken). AreAllowed p a (open_at (chosen ++ t ∷ []) (t + 1) true met) r) e h in
      subst (λ (s : WideState). AreAllowed p a s rest) (left_push p behind chosen t) (steps_behind x true met (chosen ++ t ∷ []) (t + 1) rest whole)

  without_state : (x : Tree) (met : Bool) (chosen : List ℕ) (t : ℕ) (ks rest : List WideToken) → ks ≡ tokens_of x ++ rest → after_all p a (open_at (chosen ++ t ∷ []) (t + 1) true met) ks ≡ after_all p a (open_at chosen (t + 1) false (met_after p a met (chosen ++ t ∷ []) (t + 1) x)) rest
  without_state x met chosen t ks rest e =
      ap (λ (r : List WideToken). after_all p a (open_at (chosen ++ t ∷ []) (t + 1) true met) r) e
      ∙ (tree_state x true met (chosen ++ t ∷ []) (t + 1) rest ∙ ap (λ (s : WideState). after_all p a s rest) (left_push p (met_after p a met (chosen ++ t ∷ []) (t + 1) x) chosen t))

  forked : (x y : Tree) (ks rest behind : List WideToken) → ks ≡ tokens_of x ++ rest → rest ≡ tokens_of y ++ behind → Enter ∷ ks ≡ tokens_of (Fork x y) ++ behind
  forked x y ks rest behind e f =
      ap (λ (r : List WideToken). Enter ∷ r) (e ∙ (ap (λ (r : List WideToken). tokens_of x ++ r) f ∙ sym (append_assoc (tokens_of x) (tokens_of y) behind)))

  parsed : (fuel : ℕ) (ks : List WideToken) (entered met : Bool) (chosen : List ℕ) (t : ℕ) → length ks ≤ fuel → AreAllowed p a (open_at chosen t entered met) ks → (after_all p a (open_at chosen t entered met) ks).closed ≡ true → Parsed p a entered met chosen t ks
  parsed fuel [] entered met chosen t l h e = absurd (cc)
  parsed zero (k ∷ ks) entered met chosen t l h e = absurd (omega arith)
  parsed (suc fuel) (Close reason ∷ ks) entered met chosen t l h e = record { tree = Leaf reason; rest = ks; is = refl; good = h.0.1 }
  parsed (suc fuel) (Enter ∷ ks) entered met chosen t l h e =
      let first = parsed fuel ks true met (chosen ++ t ∷ []) (t + 1) (omega arith) h.1 e in
      let second =
      parsed fuel first.rest false (met_after p a met (chosen ++ t ∷ []) (t + 1) first.tree) chosen (t + 1) (shorter first.tree ks first.rest fuel first.is (omega arith))
      (without_allowed first.tree met chosen t ks first.rest first.is h.1)
      (subst (λ (s : WideState). s.closed ≡ true) (without_state first.tree met chosen t ks first.rest first.is) e) in
      record {
        tree = Fork first.tree second.tree;
        rest = second.rest;
        is = forked first.tree second.tree ks first.rest second.rest first.is second.is;
        good = (h.0.1, first.good, second.good);
      }
  parsed (suc fuel) (Pass ∷ ks) entered met chosen t l h e =
      let below = parsed fuel ks false met chosen (behind_twins p t) (omega arith) h.1 e in
      record { tree = Skip below.tree; rest = below.rest; is = ap (λ (r : List WideToken). Pass ∷ r) below.is; good = (h.0.1, below.good) }
  parsed (suc fuel) (Mark ∷ ks) entered met chosen t l h e =
      let below = parsed fuel ks false (met_at a met chosen) chosen t (omega arith) h.1 e in
      record { tree = Marked below.tree; rest = below.rest; is = ap (λ (r : List WideToken). Mark ∷ r) below.is; good = (h.0.1, below.good) }

  none_behind : (met : Bool) (rest : List WideToken) → AreAllowed p a (left p met []) rest → rest ≡ []
  none_behind met [] h = refl
  none_behind met (k ∷ rest) h = absurd (let e : true ≡ false = h.0.0 in cc)

  -- a tree that allowed steps close
  pub tree_from_closed : (ks : List WideToken) → AreAllowed p a root ks → (after_all p a root ks).closed ≡ true → IsRootTree p a ks (after_all p a root ks).met
  tree_from_closed ks h e =
      let r = parsed (length ks) ks false false [] 0 (omega arith) h e in
      let met = met_after p a false [] 0 r.tree in
      let allowed : AreAllowed p a root (tokens_of r.tree ++ r.rest) = subst (λ (x : List WideToken). AreAllowed p a root x) r.is h in
      let none : r.rest ≡ [] = none_behind met r.rest (steps_behind r.tree false false [] 0 r.rest allowed) in
      let whole : ks ≡ tokens_of r.tree = r.is ∙ (ap (λ (x : List WideToken). tokens_of r.tree ++ x) none ∙ append-nil (tokens_of r.tree)) in
      let ends : after_all p a root ks ≡ after_all p a (left p met []) r.rest = ap (λ (x : List WideToken). after_all p a root x) r.is ∙ tree_state r.tree false false [] 0 r.rest in
      let state : after_all p a root ks ≡ left p met [] = ends ∙ ap (λ (x : List WideToken). after_all p a (left p met []) x) none in
      (r.tree, sym whole, r.good, sym (ap (λ (s : WideState). s.met) state))

  pub tree_from_steps : (ks : List WideToken) (met : Bool) → IsClosedBySteps p a ks met → IsRootTree p a ks met
  tree_from_steps ks met h =
      let there = tree_from_closed ks h.0 (ap (λ (s : WideState). s.closed) h.1) in
      (there.0, there.1, there.2, there.3 ∙ ap (λ (s : WideState). s.met) h.1)

  pub steps_from_tree : (ks : List WideToken) (met : Bool) → IsRootTree p a ks met → IsClosedBySteps p a ks met
  steps_from_tree ks met h =
      let behind = met_after p a false [] 0 h.0 in
      let whole : tokens_of h.0 ++ [] ≡ ks = append-nil (tokens_of h.0) ∙ h.1 in (
        subst (λ (x : List WideToken). AreAllowed p a root x) whole (tree_steps h.0 false false [] 0 h.2 [] tt),
        subst (λ (x : List WideToken). after_all p a root x ≡ closed p met) whole (tree_state h.0 false false [] 0 [] ∙ ap (λ (m : Bool). closed p m) h.3),
      )

pub law_of_steps_is : (p : PlainProblem) (a : Option (List ℕ)) (ks : List WideToken) (met : Bool) → IsClosedBySteps p a ks met ↔ IsRootTree p a ks met
law_of_steps_is p a ks met = (tree_from_steps p a ks met, steps_from_tree p a ks met)
