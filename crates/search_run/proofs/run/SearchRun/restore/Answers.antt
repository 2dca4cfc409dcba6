use Rattle.std.specs.Prelude.{List}
use Rattle.std.proofs.Common.{subst}
use Rattle.search_run.specs.Judged.{saved_in}
use Rattle.search_run.specs.Resumed.{IsRestored}
use Rattle.search_run.specs.Step.{PlainStep}
use Rattle.search_run.proofs.ResumeLaws.{restored_run}
use Rattle.search_run.proofs.run.SearchRun.restore.Goals as goal

pub invariant_of-self : goal.invariant_of-self
invariant_of-self c =
    restored_run c.self.inside.seed c.self.inside.steps.items (saved_in c.args.saved.now) c.args.log.now c.in_ok-kept.kept c.self.invariant.steps_are
    (subst (λ (steps : List PlainStep). IsRestored c.self.inside.seed steps (saved_in c.args.saved.now) c.args.log.now c.in_ok-kept.kept) c.as_slice.ensures.value c.in_ok-kept.ensures.ok)
