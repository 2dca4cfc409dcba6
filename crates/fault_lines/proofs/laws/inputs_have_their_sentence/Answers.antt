use Rattle.std.proofs.Common.{refl}
use Rattle.fault_lines.specs.Sentences.{missing_sentence, other_output_sentence, other_pairs_sentence}
use Rattle.fault_lines.specs.Lines.{input_line, line_sentence, psbt_line, psbt_rest, words_sentence}
use Rattle.fault_lines.proofs.laws.inputs_have_their_sentence.Goals as goal

pub returns-clause-other_pairs : goal.returns-clause-other_pairs
unfolding line_sentence words_sentence input_line psbt_line psbt_rest missing_sentence other_output_sentence other_pairs_sentence
returns-clause-other_pairs c = refl

pub returns-clause-missing : goal.returns-clause-missing
unfolding line_sentence words_sentence input_line psbt_line psbt_rest missing_sentence other_output_sentence other_pairs_sentence
returns-clause-missing c = λ rest. refl

pub returns-clause-other_output : goal.returns-clause-other_output
unfolding line_sentence words_sentence input_line psbt_line psbt_rest missing_sentence other_output_sentence other_pairs_sentence
returns-clause-other_output c = λ rest. refl
