use Rattle.std.proofs.Common.{refl}
use Rattle.fault_lines.specs.Lines.{line_sentence, unpaid_line}
use Rattle.line_laws.proofs.laws.unpaid_reports_have_their_sentence.Goals as goal

pub returns-clause-none : goal.returns-clause-none
unfolding line_sentence unpaid_line
returns-clause-none c = λ tries. refl

pub returns-clause-unfinished : goal.returns-clause-unfinished
unfolding line_sentence unpaid_line
returns-clause-unfinished c = λ tries row stage. refl
