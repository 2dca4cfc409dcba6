use Rattle.std.proofs.Common.{◌∙◌, ◌&&◌, get_or, sym, ap}
use Rattle.std.proofs.lemmas.Bool.{lt-leb}
use Rattle.payment_states.specs.Words.{has_flag}
use Rattle.payment_states.proofs.WordSteps.{no_flag}
use Rattle.payment_states.proofs.words.word_from.Goals as goal

pub returns-else-first-place : goal.returns-else-first-place
returns-else-first-place c = λ k. no_flag k ∙ sym (ap (λ b. b && has_flag (get_or c.args.words.now c.args.place 0) k) (lt-leb c.args.first c.args.place c.if-first-place.false))
