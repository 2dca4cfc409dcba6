use Rattle.std.proofs.Common.{refl}
use Rattle.fault_lines.specs.Sentences.{check_sentence}
use Rattle.fault_lines.specs.Lines.{check_line, line_sentence, words_sentence}
use Rattle.fault_lines.proofs.laws.reports_have_their_sentence.Goals as goal

pub returns-clause-report : goal.returns-clause-report
unfolding line_sentence words_sentence check_line check_sentence
returns-clause-report c = λ place rest. refl

pub returns-clause-psbt : goal.returns-clause-psbt
unfolding line_sentence words_sentence check_line check_sentence
returns-clause-psbt c = λ fault rest. refl

pub returns-clause-coin : goal.returns-clause-coin
unfolding line_sentence words_sentence check_line check_sentence
returns-clause-coin c = λ coin rest. refl

pub returns-clause-pays : goal.returns-clause-pays
unfolding line_sentence words_sentence check_line check_sentence
returns-clause-pays c = refl

pub returns-clause-log_form : goal.returns-clause-log_form
unfolding line_sentence words_sentence check_line check_sentence
returns-clause-log_form c = λ place rest. refl

pub returns-clause-section : goal.returns-clause-section
unfolding line_sentence words_sentence check_line check_sentence
returns-clause-section c = λ index rest. refl

pub returns-clause-log : goal.returns-clause-log
unfolding line_sentence words_sentence check_line check_sentence
returns-clause-log c = λ index fault rest. refl

pub returns-clause-answer : goal.returns-clause-answer
unfolding line_sentence words_sentence check_line check_sentence
returns-clause-answer c = refl
