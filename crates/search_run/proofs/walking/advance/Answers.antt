use Rattle.std.proofs.Common.{◌∙◌, refl, sym, true}
use Rattle.search_run.proofs.HeldLaws.{draw_walked}
use Rattle.search_run.proofs.walking.advance.Goals as goal

pub returns-then-is_drawn-clause-ok : goal.returns-then-is_drawn-clause-ok
returns-then-is_drawn-clause-ok c =
    draw_walked c.args.step.now c.args.walk.now c.args.tries (record { made = 0; done = true }) c.requires (sym c.is_drawn.ensures ∙ c.if-is_drawn.true) refl refl
