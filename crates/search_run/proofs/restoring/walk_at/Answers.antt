use Rattle.std.specs.Prelude.{Err}
use Rattle.std.proofs.Common.{◌∙◌, ap}
use Rattle.search_run.proofs.PositionLaws.{memory_not_ill, no_place, some_place}
use Rattle.search_run.proofs.restoring.walk_at.Goals as goal

pub returns-in-Err-IllFormed-clause-refused : goal.returns-in-Err-IllFormed-clause-refused
returns-in-Err-IllFormed-clause-refused c =
    λ k is. no_place c.args.step.now.problem c.problem.result.now k c.args.place.now c.args.letters.now c.problem.ensures.problem is (c.restore.ensures.ill.0 (c.in-Err-IllFormed.is ∙ ap Err c.in-Err-IllFormed.field-0-is))

pub returns-in-Err-Memory-clause-ill : goal.returns-in-Err-Memory-clause-ill
returns-in-Err-Memory-clause-ill c =
    λ k is none. absurd (none (some_place c.args.step.now.problem c.problem.result.now k c.args.place.now c.args.letters.now c.problem.ensures.problem is (c.restore.ensures.well (memory_not_ill c.restore.result (c.in-Err-Memory.is ∙ ap Err c.in-Err-Memory.field-0-is)))))
