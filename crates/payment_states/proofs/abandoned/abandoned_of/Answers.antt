use Rattle.std.proofs.Common.{◌∙◌, map, ap}
use Rattle.std.specs.Prelude.{is_some}
use Rattle.payment_states.proofs.AbandonedSteps.{listed_is}
use Rattle.payment_states.proofs.abandoned.abandoned_of.Goals as goal

pub returns-clause-abandoned : goal.returns-clause-abandoned
returns-clause-abandoned c =
    c.in_ok-flags.ensures.which
    ∙ ap (map is_some) (c.deref-2.ensures.value ∙ c.in_ok-least.ensures.least)
    ∙ listed_is c.args.parents.now c.args.abandoned.now c.args.txids.now c.deref.result.now (c.deref.ensures.value ∙ c.in_ok-own.ensures.flags) c.requires.same
