use Rattle.std.proofs.Common.{refl}
use Rattle.fault_lines.specs.Lines.{input_line, limit_line, line_sentence, signed_line, words_sentence}
use Rattle.fault_lines.proofs.LineLaws.{signed_told}
use Rattle.fault_lines.proofs.laws.signed_have_their_sentence.Goals as goal

pub returns-clause-limit : goal.returns-clause-limit
unfolding line_sentence words_sentence limit_line
returns-clause-limit c = refl

pub returns-clause-not_hex : goal.returns-clause-not_hex
unfolding line_sentence words_sentence input_line signed_line
returns-clause-not_hex c = refl

pub returns-clause-fault : goal.returns-clause-fault
unfolding line_sentence words_sentence input_line
returns-clause-fault c = λ f. signed_told f
