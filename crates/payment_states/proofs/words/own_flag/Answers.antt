use Rattle.std.proofs.Common.{◌∙◌, ◌+◌, sym, arith}
use Rattle.std.proofs.lemmas.Bool.{ne_eqb}
use Rattle.payment_states.proofs.WordSteps.{no_flag}
use Rattle.payment_states.proofs.words.own_flag.Goals as goal

pub returns-else-behind-lt64 : goal.returns-else-behind-lt64
returns-else-behind-lt64 c = λ k lt. let far = c.if-behind-lt64.false in no_flag k ∙ sym (ne_eqb c.args.place (c.args.first + k) (λ e. absurd (omega arith)))
