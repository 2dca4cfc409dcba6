use Rattle.std.proofs.Common.{ℕ, List, Option, rules, subst}
use Rattle.pick_problem.specs.Best.{IsBetter}
use Rattle.pick_problem.specs.Admissible.{IsFit}
use Rattle.pick_problem.specs.Trying.{IsNoBetter}
use Rattle.pick_problem.proofs.TryLaws.{wins_over, loses_to}
use Rattle.pick_problem.proofs.trying.better.Goals as goal

pub returns-then-wins-clause-kept : goal.returns-then-wins-clause-kept
returns-then-wins-clause-kept c = λ q h.
    let p = c.args.problem.now in
    let wins : IsBetter p c.as_slice-2.result.now c.as_slice-3.result.now = c.is_better-wins.ensures.0 (search rules) in
    wins_over p c.args.places c.in-Some.found q (rw (c.as_slice-2.ensures, c.as_slice-3.ensures) at wins) (subst (λ (o : Option (List ℕ)). IsNoBetter p o q) c.in-Some.is h)

pub returns-else-wins-clause-new : goal.returns-else-wins-clause-new
returns-else-wins-clause-new c = λ good.
    let p = c.args.problem.now in
    let best : IsFit p c.args.best = c.requires.fit in
    loses_to p c.args.places c.in-Some.found c.requires.rising (subst (IsFit p) c.in-Some.is best) (λ h.
    let wins : IsBetter p c.as_slice-2.result.now c.as_slice-3.result.now = rw (c.as_slice-2.ensures, c.as_slice-3.ensures) h in
    absurd (search (rules, c.is_better-wins.ensures.1 wins)))
