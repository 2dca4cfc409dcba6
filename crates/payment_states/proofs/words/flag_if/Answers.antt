use Rattle.std.proofs.Common.{◌∙◌, ◌==◌, ◌&&◌, sym, ap}
use Rattle.payment_states.proofs.WordSteps.{flag_set}
use Rattle.payment_states.proofs.words.flag_if.Goals as goal

pub returns-then-set : goal.returns-then-set
returns-then-set c = λ j. flag_set c.args.k j c.requires ∙ sym (ap (λ b. b && (c.args.k == j)) c.if-set.true)
