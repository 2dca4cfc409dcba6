use Rattle.std.proofs.Common.{List, refl, subst}
use Rattle.search_run.specs.Held.{HasLeft}
use Rattle.search_run.specs.Step.{PlainStep}
use Rattle.search_run.proofs.HeldLaws.{left_is, left_kept}
use Rattle.search_run.proofs.run.SearchRun.pass.Goals as goal

pub invariant_of-self-2 : goal.invariant_of-self-2
invariant_of-self-2 c =
    left_kept c.args.self.now c.self.inside.seed c.self.inside.steps.items c.self.inside.at c.self.inside.walk c.self.inside.walk c.self.inside.past c.self.view_is c.requires.left refl c.in_ok-self-inside.field-0 c.leave.new.past c.self.invariant
    (subst (λ (steps : List PlainStep). HasLeft c.self.inside.seed steps c.self.inside.at c.self.inside.walk c.self.inside.past c.in_ok-self-inside.field-0 c.leave.new.past) c.as_slice.ensures.value c.in_ok-self-inside.ensures.ok) c.requires.done

pub returns-clause-ok : goal.returns-clause-ok
returns-clause-ok c =
    left_is c.args.self.now c.self.inside.seed c.self.inside.steps.items c.self.inside.at c.self.inside.walk c.self.inside.walk c.self.inside.past c.self.view_is c.requires.left refl c.in_ok-self-inside.field-0 c.leave.new.past
    (subst (λ (steps : List PlainStep). HasLeft c.self.inside.seed steps c.self.inside.at c.self.inside.walk c.self.inside.past c.in_ok-self-inside.field-0 c.leave.new.past) c.as_slice.ensures.value c.in_ok-self-inside.ensures.ok) c.requires.done
