use Rattle.std.proofs.Common.{refl}
use Rattle.fault_lines.specs.Sentences.{unsuited_sentence}
use Rattle.fault_lines.specs.Lines.{input_line, line_sentence, plan_line, unsuited_line, words_sentence}
use Rattle.fault_lines.proofs.laws.unsuited_have_their_sentence.Goals as goal

pub returns-clause-not_wide : goal.returns-clause-not_wide
unfolding line_sentence words_sentence input_line plan_line unsuited_line unsuited_sentence
returns-clause-not_wide c = refl

pub returns-clause-not_share : goal.returns-clause-not_share
unfolding line_sentence words_sentence input_line plan_line unsuited_line unsuited_sentence
returns-clause-not_share c = refl

pub returns-clause-not_sweep : goal.returns-clause-not_sweep
unfolding line_sentence words_sentence input_line plan_line unsuited_line unsuited_sentence
returns-clause-not_sweep c = refl

pub returns-clause-share_dust : goal.returns-clause-share_dust
unfolding line_sentence words_sentence input_line plan_line unsuited_line unsuited_sentence
returns-clause-share_dust c = λ index rest. refl

pub returns-clause-too_heavy : goal.returns-clause-too_heavy
unfolding line_sentence words_sentence input_line plan_line unsuited_line unsuited_sentence
returns-clause-too_heavy c = λ weight rest. refl
