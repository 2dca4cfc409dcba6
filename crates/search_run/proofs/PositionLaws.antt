-- A kept position is one that a search is restored from exactly where a walk may stand there.
use Rattle.std.specs.Prelude.{ℕ, ◌≡◌, ◌<◌, ◌≤◌, true, false, List, Result, Err}
use Rattle.std.proofs.Common.{refl, subst, sym, ◌∙◌}
use Rattle.pick_problem.specs.declared.position.Position.{Position}
use Rattle.pick_problem.specs.declared.position.RestoreFault.{RestoreFault}
use Rattle.pick_problem.specs.declared.position.RestoreFault.TheVariants as fault
use Rattle.pick_problem.specs.Problem.{PlainProblem, Rising, value_of, weight_of}
use Rattle.pick_problem.specs.Walk.{IsPosition}
use Rattle.pick_problem.proofs.WayLaws.{upward_reverse}
use Rattle.walk_engine.specs.Search.{IsWellFormed}
use Rattle.search_run.specs.Kept.{PlainSaved, kept_walk}
use Rattle.search_run.specs.Walks.{kept_position}

pub well_stands : (p : PlainProblem) (k : PlainSaved) (letters : List ℕ) → IsWellFormed p (kept_position k letters) letters → IsPosition p (kept_walk k)
well_stands p k letters h =
    record {
      ready = λ e.
          record {
            rises = subst (Rising k.next 0) (sym (upward_reverse k.chosen)) h.rises;
            next = h.next e;
            low = subst (λ (q : List ℕ). value_of p q < p.lo) (sym (upward_reverse k.chosen)) (h.low e).0;
            light = subst (λ (q : List ℕ). weight_of p q ≤ p.most_weight) (sym (upward_reverse k.chosen)) (h.low e).1;
          };
      over = λ (e : false ≡ true). absurd (cc);
      fit = h.best;
      counted = refl;
    }

pub stands_well : (p : PlainProblem) (k : PlainSaved) (letters : List ℕ) → IsPosition p (kept_walk k) → IsWellFormed p (kept_position k letters) letters
stands_well p k letters h =
    let ready = h.ready refl in
    record {
      rises = subst (Rising k.next 0) (upward_reverse k.chosen) ready.rises;
      next = λ e. ready.next;
      low = λ e. (subst (λ (q : List ℕ). value_of p q < p.lo) (upward_reverse k.chosen) ready.low, subst (λ (q : List ℕ). weight_of p q ≤ p.most_weight) (upward_reverse k.chosen) ready.light);
      over = λ (e : false ≡ true). absurd (cc);
      best = h.fit;
      counted = refl;
    }

-- a position that isn't well formed is one where no walk may stand
pub no_place : (p q : PlainProblem) (k : PlainSaved) (place : Position) (letters : List ℕ) → q ≡ p → place ≡ kept_position k letters → ¬ IsWellFormed q place letters → ¬ IsPosition p (kept_walk k)
no_place p q k place letters same is ill stands = ill (subst (λ (x : PlainProblem). IsWellFormed x place letters) (sym same) (subst (λ (x : Position). IsWellFormed p x letters) (sym is) (stands_well p k letters stands)))

-- one that is well formed is one where a walk may stand
pub some_place : (p q : PlainProblem) (k : PlainSaved) (place : Position) (letters : List ℕ) → q ≡ p → place ≡ kept_position k letters → IsWellFormed q place letters → IsPosition p (kept_walk k)
some_place p q k place letters same is well = well_stands p k letters (subst (λ (x : Position). IsWellFormed p x letters) is (subst (λ (x : PlainProblem). IsWellFormed x place letters) same well))

-- a result that is out of memory isn't that a position is ill formed
pub memory_not_ill : {X : Type 0} (r : Result X RestoreFault) → r ≡ Err fault.Memory → r ≡ Err fault.IllFormed → ⊥
memory_not_ill {X = X} r e h = let both : ◌≡◌ {A = Result X RestoreFault} (Err fault.Memory) (Err fault.IllFormed) = sym e ∙ h in cc
