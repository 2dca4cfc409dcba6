use Rattle.std.proofs.Common.{refl}
use Rattle.fault_lines.specs.Sentences.{differing_sentence, settle_sentence}
use Rattle.fault_lines.specs.Lines.{differing_line, line_sentence, settle_line, words_sentence}
use Rattle.fault_lines.proofs.laws.settlings_have_their_sentence.Goals as goal

pub returns-clause-report : goal.returns-clause-report
unfolding line_sentence words_sentence settle_line settle_sentence
returns-clause-report c = λ place rest. refl

pub returns-clause-not_funded : goal.returns-clause-not_funded
unfolding line_sentence words_sentence settle_line settle_sentence
returns-clause-not_funded c = refl

pub returns-clause-psbt : goal.returns-clause-psbt
unfolding line_sentence words_sentence settle_line settle_sentence
returns-clause-psbt c = λ fault rest. refl

pub returns-clause-no_value : goal.returns-clause-no_value
unfolding line_sentence words_sentence settle_line settle_sentence
returns-clause-no_value c = λ index rest. refl

pub returns-clause-foreign : goal.returns-clause-foreign
unfolding line_sentence words_sentence settle_line settle_sentence
returns-clause-foreign c = λ index rest. refl

pub returns-clause-version : goal.returns-clause-version
unfolding line_sentence words_sentence settle_line settle_sentence differing_line differing_sentence
returns-clause-version c = refl

pub returns-clause-locktime : goal.returns-clause-locktime
unfolding line_sentence words_sentence settle_line settle_sentence differing_line differing_sentence
returns-clause-locktime c = refl

pub returns-clause-count : goal.returns-clause-count
unfolding line_sentence words_sentence settle_line settle_sentence differing_line differing_sentence
returns-clause-count c = refl

pub returns-clause-input : goal.returns-clause-input
unfolding line_sentence words_sentence settle_line settle_sentence differing_line differing_sentence
returns-clause-input c = λ index rest. refl

pub returns-clause-output : goal.returns-clause-output
unfolding line_sentence words_sentence settle_line settle_sentence differing_line differing_sentence
returns-clause-output c = λ index rest. refl

pub returns-clause-unsigned : goal.returns-clause-unsigned
unfolding line_sentence words_sentence settle_line settle_sentence
returns-clause-unsigned c = λ index rest. refl

pub returns-clause-heavier : goal.returns-clause-heavier
unfolding line_sentence words_sentence settle_line settle_sentence
returns-clause-heavier c = λ index declared weight rest. refl

pub returns-clause-too_heavy : goal.returns-clause-too_heavy
unfolding line_sentence words_sentence settle_line settle_sentence
returns-clause-too_heavy c = λ weight rest. refl

pub returns-clause-below_rate : goal.returns-clause-below_rate
unfolding line_sentence words_sentence settle_line settle_sentence
returns-clause-below_rate c = λ fee needed rest. refl
