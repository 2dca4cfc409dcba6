use Rattle.std.proofs.Common.{refl}
use Rattle.fault_lines.specs.Lines.{input_line, line_sentence, plan_line, unsuited_line, words_sentence}
use Rattle.fault_lines.specs.Sentences.{unsuited_sentence}
use Rattle.line_laws.proofs.laws.unsuited_requests_have_their_sentence.Goals as goal

pub returns-clause-wide : goal.returns-clause-wide
unfolding line_sentence words_sentence input_line plan_line unsuited_line
returns-clause-wide c = refl

pub returns-clause-share : goal.returns-clause-share
unfolding line_sentence words_sentence input_line plan_line unsuited_line
returns-clause-share c = refl

pub returns-clause-dust : goal.returns-clause-dust
unfolding line_sentence words_sentence input_line plan_line unsuited_line unsuited_sentence
returns-clause-dust c = λ index. refl

pub returns-clause-sweep : goal.returns-clause-sweep
unfolding line_sentence words_sentence input_line plan_line unsuited_line
returns-clause-sweep c = refl

pub returns-clause-heavy : goal.returns-clause-heavy
unfolding line_sentence words_sentence input_line plan_line unsuited_line unsuited_sentence
returns-clause-heavy c = λ weight. refl
