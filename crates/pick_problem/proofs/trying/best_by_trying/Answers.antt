use Rattle.std.proofs.Common.{◌≡◌, ℕ, List, length, sym, subst, ap, ◌∙◌}
use Rattle.pick_problem.specs.Problem.{Rising}
use Rattle.pick_problem.specs.Trying.{places_from}
use Rattle.pick_problem.proofs.TryLaws.{numbered_rises, tried_all, few_tries}
use Rattle.pick_problem.proofs.trying.best_by_trying.Goals as goal

pub better-best-requires-clause-rising : goal.better-best-requires-clause-rising
better-best-requires-clause-rising c =
    let n = length c.args.problem.now.items in
    let e : c.new-places.result ≡ places_from n 0 c.loop-number.number = c.new-places.ensures ∙ (c.in_ok-places_of.ensures ∙ ap (λ (k : ℕ). places_from k 0 c.loop-number.number) c.count-count.ensures.count) in
    subst (λ (r : List ℕ). Rising n 0 r) (sym e) (numbered_rises n c.loop-number.number)

pub returns : goal.returns
returns c =
    tried_all c.args.problem.now c.loop-number.best c.loop-number.number (few_tries c.count-count.result (length c.args.problem.now.items) c.loop-number.number c.count-count.ensures.count c.requires c.loop-number-test.false) c.loop-number.invariant.fit c.loop-number.invariant.tried
