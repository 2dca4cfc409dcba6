-- Going on from a position.
use Rattle.std.specs.Prelude.{◌≡◌, ℕ, ◌+◌, ◌*◌, ◌<◌, ◌≤◌, Bool, List, [], ◌∷◌, length, reverse, drop, take, Option}
use Rattle.std.specs.Vec.{vec_capacity}
use Rattle.std.proofs.Common.{arith, refl, sym, ap, subst, ◌∙◌}
use Rattle.pick_problem.specs.declared.position.Position.{Position}
use Rattle.pick_problem.specs.declared.token.Token.{Token}
use Rattle.pick_problem.specs.Letters.{letters_of, read}
use Rattle.pick_problem.specs.Problem.{PlainProblem, IsProblem, Rising, value_of, weight_of, cost_of}
use Rattle.pick_problem.specs.Walk.{upward}
use Rattle.pick_problem.proofs.Deciding.{by_test}
use Rattle.pick_problem.proofs.WayLaws.{upward_reverse}
use Rattle.walk_engine.specs.declared.best.Best.{Best}
use Rattle.walk_engine.specs.declared.stack.Stack.{Stack}
use Rattle.walk_engine.specs.Best.{IsBestSoFar, plain_best}
use Rattle.walk_engine.specs.Search.{PlainSearch, IsSearchState, IsSearch, IsWellFormed, plain, restored, standing, tries_in}
use Rattle.walk_engine.specs.Stack.{IsStack}

take_all : (xs : List ℕ) → take (length xs) xs ≡ xs
take_all [] = refl
take_all (x ∷ xs) = ap (λ (ys : List ℕ). x ∷ ys) (take_all xs)

drop_all : (xs : List ℕ) → drop (length xs) xs ≡ []
drop_all [] = refl
drop_all (x ∷ xs) = drop_all xs

-- a whole list is counted
pub no_more : (xs : List ℕ) → tries_in (take (length xs) xs) ≡ tries_in xs
no_more xs = ap tries_in (take_all xs)

-- the stack of places that rise below the next one and are at most lo
pub stack_of : (p : PlainProblem) (next : ℕ) (q : List ℕ) (s : Stack) → Rising next 0 q → s.places.items ≡ q →
    value_of p q + s.gap ≡ p.lo → s.weight ≡ weight_of p q → s.cost ≡ cost_of p q →
    length p.items ≤ vec_capacity s.places → IsStack p next s
stack_of p next q s rises places gap weight cost room =
    record {
      rising = subst (λ (r : List ℕ). Rising next 0 r) (sym places) rises;
      gap = subst (λ (r : List ℕ). value_of p r + s.gap ≡ p.lo) (sym places) gap;
      weight = subst (λ (r : List ℕ). s.weight ≡ weight_of p r) (sym places) weight;
      cost = subst (λ (r : List ℕ). s.cost ≡ cost_of p r) (sym places) cost;
      room = room;
    }

-- the next place is at most the number of items
pub well_within : (p : PlainProblem) (q : Position) (xs : List ℕ) → IsWellFormed p q xs → q.next ≤ length p.items
well_within p q xs well = by_test (q.next ≤ length p.items) q.done (λ done. omega (arith, (well.over done).1))
    (λ open_. omega (arith, well.next open_))

-- the walk of a well formed position is one from which a walk goes on
pub restored_search : (p : PlainProblem) (q : Position) (xs : List ℕ) → IsProblem p → IsWellFormed p q xs →
    IsSearch (restored p q xs)
restored_search p q xs problem well =
    let same : upward (reverse q.chosen) ≡ q.chosen = upward_reverse q.chosen in
    record {
      problem = problem;
      position = record {
        ready = λ open_. record {
          rises = subst (λ (r : List ℕ). Rising q.next 0 r) (sym same) well.rises;
          next = well.next open_;
          low = subst (λ (r : List ℕ). value_of p r < p.lo) (sym same) (well.low open_).0;
          light = subst (λ (r : List ℕ). weight_of p r ≤ p.most_weight) (sym same) (well.low open_).1;
        };
        over = λ done. (ap (λ (r : List ℕ). reverse r) (well.over done).0, (well.over done).1);
        fit = well.best;
        counted = refl;
      };
    }

abbrev held : PlainProblem → Position → List ℕ → List ℕ → Option (List ℕ) → List Token → PlainSearch
held p q ys stack b ks = record {
  problem = p;
  before = ys;
  walk = record {
    stack = stack;
    next = q.next;
    best = b;
    tries = 0;
    done = q.done;
    tokens = ks;
  };
  spare = 0;
}

-- a search that is held so is the restored one
pub restored_plain : (p : PlainProblem) (q : Position) (xs : List ℕ) (s : Stack) (best : Best) (letters : List ℕ) →
    s.places.items ≡ q.chosen → plain_best best ≡ q.best → letters ≡ xs →
    plain p s q.next best 0 q.done letters (length xs) 0 ≡ restored p q xs
restored_plain p q xs s best letters places best_is told =
    let before : take (length xs) letters ≡ xs = ap (take (length xs)) told ∙ take_all xs in
    let behind : read (drop (length xs) letters) ≡ [] = ap (λ (ys : List ℕ). read (drop (length xs) ys)) told
    ∙ ap read (drop_all xs) in
    ap (λ (ys : List ℕ). held p q ys (reverse s.places.items) (plain_best best) (read (drop
    (length xs) letters))) before
    ∙ (ap (λ (r : List ℕ). held p q xs (reverse r) (plain_best best) (read (drop (length xs) letters))) places
    ∙ (ap (λ (b : Option (List ℕ)). held p q xs (reverse q.chosen) b (read (drop (length xs) letters))) best_is
    ∙ ap (λ (ks : List Token). held p q xs (reverse q.chosen) q.best ks) behind))

pub restored_kept : (p : PlainProblem) (q : Position) (xs : List ℕ) (s : Stack) (best : Best) (letters : List ℕ)
    (capacity : ℕ) → IsWellFormed p q xs → IsStack p q.next s → IsBestSoFar p best → letters ≡ xs →
    length letters + 2 * length s.places.items + 1 ≤ capacity →
    IsSearchState p s q.next best q.done letters capacity (length xs) q.tries 0
restored_kept p q xs s best letters capacity well stack sums told room =
    let behind : drop (length xs) letters ≡ [] = ap (drop (length xs)) told ∙ drop_all xs in
    record {
      stack = stack;
      sums = sums;
      room = omega (arith, room);
      front = omega (arith, ap length told);
      written = ap (λ (ys : List ℕ). letters_of (read ys)) behind ∙ sym behind;
      counted = well.counted ∙ ap tries_in (sym (ap (take (length xs)) told ∙ take_all xs));
    }

abbrev position_with : List ℕ → ℕ → Option (List ℕ) → ℕ → Bool → Position
position_with chosen next best tries done = record {
  chosen = chosen;
  next = next;
  best = best;
  tries = tries;
  done =
      done;
}

-- where a search stands, from how it is held
pub standing_is : (p : PlainProblem) (s : Stack) (next : ℕ) (best : Best) (made : ℕ) (done : Bool)
    (letters : List ℕ) (kept spare earlier : ℕ) (chosen : List ℕ) (copy : Option (List ℕ)) →
    chosen ≡ s.places.items → copy ≡ plain_best best → earlier ≡ tries_in (take kept letters) →
    position_with chosen next copy (earlier + made) done ≡ standing (plain p s next best made done letters kept spare)
standing_is p s next best made done letters kept spare earlier chosen copy places best_is counted =
    ap (λ (q : List ℕ). position_with q next copy (earlier + made) done) (places ∙ sym (upward_reverse s.places.items))
    ∙ (ap (λ (b : Option (List ℕ)). position_with (upward (reverse s.places.items)) next b
    (earlier + made) done) best_is
    ∙ ap (λ (n : ℕ). position_with (upward (reverse s.places.items)) next (plain_best best) (n + made) done) counted)
