use Rattle.std.specs.Prelude.{ℕ, List, length}
use Rattle.std.proofs.Common.{ap, ◌∙◌}
use Rattle.random_draw.specs.Draw.{trimmed, kept_with}
use Rattle.random_draw.proofs.kept.Kept.add.Goals as goal

pub returns-clause-places : goal.returns-clause-places
unfolding kept_with
returns-clause-places c = c.trim.ensures.places ∙ ap (λ (places : List ℕ). trimmed c.args.problem.now (length places) places) c.in_ok-push.ensures.places
