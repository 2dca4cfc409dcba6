use Rattle.std.proofs.Common.{refl}
use Rattle.fault_lines.specs.Lines.{limit_line, line_sentence, words_sentence}
use Rattle.line_laws.proofs.Limits.{evidence_told, limit_told}
use Rattle.line_laws.proofs.laws.limits_have_their_sentence.Goals as goal

pub returns-clause-file : goal.returns-clause-file
returns-clause-file c = limit_told

pub returns-clause-evidence : goal.returns-clause-evidence
returns-clause-evidence c = evidence_told

pub returns-clause-opened : goal.returns-clause-opened
unfolding line_sentence words_sentence limit_line
returns-clause-opened c = λ name file. refl

pub returns-clause-blocks : goal.returns-clause-blocks
unfolding line_sentence words_sentence limit_line
returns-clause-blocks c = λ file. refl
