use Rattle.std.proofs.Common.{refl}
use Rattle.fault_lines.specs.Lines.{line_sentence, unpaid_line}
use Rattle.fault_lines.proofs.laws.unpaid_have_their_sentence.Goals as goal

pub returns-clause-none : goal.returns-clause-none
unfolding line_sentence unpaid_line
returns-clause-none c = λ rest. refl

pub returns-clause-none_alone : goal.returns-clause-none_alone
unfolding line_sentence unpaid_line
returns-clause-none_alone c = refl

pub returns-clause-unfinished : goal.returns-clause-unfinished
unfolding line_sentence unpaid_line
returns-clause-unfinished c = λ rest. refl

pub returns-clause-unfinished_alone : goal.returns-clause-unfinished_alone
unfolding line_sentence unpaid_line
returns-clause-unfinished_alone c = refl
