use Rattle.std.specs.Vec.{vec_capacity}
use Rattle.std.proofs.Common.{◌≡◌, arith, rules, subst, sym, ap, ◌∙◌}
use Rattle.pick_problem.specs.Problem.{PlainProblem}
use Rattle.pick_problem.proofs.SumLaws.{places_few}
use Rattle.walk_engine.specs.Search.{PlainSearch, IsAfter, IsSearch, IsWellFormed, restored}
use Rattle.walk_engine.proofs.RestoreLaws.{restored_kept, restored_plain, restored_search, well_within}
use Rattle.walk_engine.proofs.SearchLaws.{restored_after}
use Rattle.walk_engine.proofs.search.Search.restore.Goals as goal

pub invariant_of-result : goal.invariant_of-result
invariant_of-result c =
    let p = c.in_ok-prepared.prepared in
    let q = c.args.position.now in
    let xs = c.args.tokens.now in
    let well : IsWellFormed c.args.problem.now q xs = c.is_well_formed.ensures.0 (search rules) in
    let well_here : IsWellFormed p q xs = subst (λ (x : PlainProblem). IsWellFormed x q xs)
    (sym c.in_ok-prepared.ensures) well in
    let places : c.in_ok-stack.stack.places.items ≡ q.chosen = c.in_ok-stack.ensures.places ∙ c.as_slice.ensures in
    let few = places_few q.next c.in_ok-stack.stack.places.items c.in_ok-stack.ensures.stack.rising in (
      subst (λ (s : PlainSearch). IsSearch s) (sym
          (restored_plain p q xs c.in_ok-stack.stack c.in_ok-best.best c.in_ok-letters.letters.items places
          c.in_ok-best.ensures.same c.in_ok-letters.ensures.letters))
          (restored_search p q xs c.count.ensures.problem well_here),
      restored_kept p q xs c.in_ok-stack.stack c.in_ok-best.best c.in_ok-letters.letters.items
          (vec_capacity c.in_ok-letters.letters) well_here c.in_ok-stack.ensures.stack c.in_ok-best.ensures.best
          c.in_ok-letters.ensures.letters (omega
          (arith, few, well_within p q xs well_here, c.in_ok-letters.ensures.room, c.count.ensures.count)),
    )

pub returns-clause-same : goal.returns-clause-same
returns-clause-same c =
    let p = c.in_ok-prepared.prepared in
    let q = c.args.position.now in
    let xs = c.args.tokens.now in
    let well : IsWellFormed c.args.problem.now q xs = c.is_well_formed.ensures.0 (search rules) in
    let places : c.in_ok-stack.stack.places.items ≡ q.chosen = c.in_ok-stack.ensures.places ∙ c.as_slice.ensures in
    let same = restored_plain p q xs c.in_ok-stack.stack c.in_ok-best.best c.in_ok-letters.letters.items places
    c.in_ok-best.ensures.same c.in_ok-letters.ensures.letters
    ∙ ap (λ (x : PlainProblem). restored x q xs) c.in_ok-prepared.ensures in
    λ n here told. subst (λ (s : PlainSearch). IsAfter s n) (sym same)
    (restored_after c.args.problem.now q xs n well here told)
