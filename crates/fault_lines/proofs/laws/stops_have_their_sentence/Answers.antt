use Rattle.std.proofs.Common.{refl}
use Rattle.fault_lines.specs.Lines.{input_line, limit_line, line_sentence, words_sentence}
use Rattle.fault_lines.proofs.laws.stops_have_their_sentence.Goals as goal

pub returns-clause-usage : goal.returns-clause-usage
unfolding line_sentence words_sentence input_line limit_line
returns-clause-usage c = refl

pub returns-clause-keep : goal.returns-clause-keep
unfolding line_sentence words_sentence input_line limit_line
returns-clause-keep c = refl

pub returns-clause-memory : goal.returns-clause-memory
unfolding line_sentence words_sentence input_line limit_line
returns-clause-memory c = refl

pub returns-clause-wallet : goal.returns-clause-wallet
unfolding line_sentence words_sentence input_line limit_line
returns-clause-wallet c = refl

pub returns-clause-blocks : goal.returns-clause-blocks
unfolding line_sentence words_sentence input_line limit_line
returns-clause-blocks c = refl

pub returns-clause-request : goal.returns-clause-request
unfolding line_sentence words_sentence input_line limit_line
returns-clause-request c = refl

pub returns-clause-coins : goal.returns-clause-coins
unfolding line_sentence words_sentence input_line limit_line
returns-clause-coins c = refl

pub returns-clause-report : goal.returns-clause-report
unfolding line_sentence words_sentence input_line limit_line
returns-clause-report c = refl

pub returns-clause-log : goal.returns-clause-log
unfolding line_sentence words_sentence input_line limit_line
returns-clause-log c = refl

pub returns-clause-script : goal.returns-clause-script
unfolding line_sentence words_sentence input_line limit_line
returns-clause-script c = refl

pub returns-clause-psbt : goal.returns-clause-psbt
unfolding line_sentence words_sentence input_line limit_line
returns-clause-psbt c = refl
