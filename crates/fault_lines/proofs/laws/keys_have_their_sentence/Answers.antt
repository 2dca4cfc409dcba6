use Rattle.std.proofs.Common.{refl}
use Rattle.fault_lines.specs.Sentences.{keys_sentence}
use Rattle.fault_lines.specs.Lines.{input_line, keys_line, keys_rest, limit_line, line_sentence, psbt_line, psbt_rest, words_sentence}
use Rattle.fault_lines.proofs.laws.keys_have_their_sentence.Goals as goal

pub returns-clause-limit : goal.returns-clause-limit
unfolding line_sentence words_sentence input_line limit_line keys_line keys_rest keys_sentence psbt_line psbt_rest
returns-clause-limit c = refl

pub returns-clause-not_json : goal.returns-clause-not_json
unfolding line_sentence words_sentence input_line limit_line keys_line keys_rest keys_sentence psbt_line psbt_rest
returns-clause-not_json c = refl

pub returns-clause-kind : goal.returns-clause-kind
unfolding line_sentence words_sentence input_line limit_line keys_line keys_rest keys_sentence psbt_line psbt_rest
returns-clause-kind c = λ rest. refl

pub returns-clause-member : goal.returns-clause-member
unfolding line_sentence words_sentence input_line limit_line keys_line keys_rest keys_sentence psbt_line psbt_rest
returns-clause-member c = λ rest. refl

pub returns-clause-lacking : goal.returns-clause-lacking
unfolding line_sentence words_sentence input_line limit_line keys_line keys_rest keys_sentence psbt_line psbt_rest
returns-clause-lacking c = λ rest. refl

pub returns-clause-script : goal.returns-clause-script
unfolding line_sentence words_sentence input_line limit_line keys_line keys_rest keys_sentence psbt_line psbt_rest
returns-clause-script c = λ index rest. refl

pub returns-clause-redeem : goal.returns-clause-redeem
unfolding line_sentence words_sentence input_line limit_line keys_line keys_rest keys_sentence psbt_line psbt_rest
returns-clause-redeem c = λ index rest. refl

pub returns-clause-witness : goal.returns-clause-witness
unfolding line_sentence words_sentence input_line limit_line keys_line keys_rest keys_sentence psbt_line psbt_rest
returns-clause-witness c = λ index rest. refl

pub returns-clause-internal : goal.returns-clause-internal
unfolding line_sentence words_sentence input_line limit_line keys_line keys_rest keys_sentence psbt_line psbt_rest
returns-clause-internal c = λ index rest. refl

pub returns-clause-public : goal.returns-clause-public
unfolding line_sentence words_sentence input_line limit_line keys_line keys_rest keys_sentence psbt_line psbt_rest
returns-clause-public c = λ index key rest. refl

pub returns-clause-repeat : goal.returns-clause-repeat
unfolding line_sentence words_sentence input_line limit_line keys_line keys_rest keys_sentence psbt_line psbt_rest
returns-clause-repeat c = λ index key rest. refl

pub returns-clause-xpub : goal.returns-clause-xpub
unfolding line_sentence words_sentence input_line limit_line keys_line keys_rest keys_sentence psbt_line psbt_rest
returns-clause-xpub c = λ index rest. refl

pub returns-clause-repeat_xpub : goal.returns-clause-repeat_xpub
unfolding line_sentence words_sentence input_line limit_line keys_line keys_rest keys_sentence psbt_line psbt_rest
returns-clause-repeat_xpub c = λ index rest. refl

pub returns-clause-global : goal.returns-clause-global
unfolding line_sentence words_sentence input_line limit_line keys_line keys_rest keys_sentence psbt_line psbt_rest
returns-clause-global c = λ rest. refl

pub returns-clause-input : goal.returns-clause-input
unfolding line_sentence words_sentence input_line limit_line keys_line keys_rest keys_sentence psbt_line psbt_rest
returns-clause-input c = λ rest. refl

pub returns-clause-output : goal.returns-clause-output
unfolding line_sentence words_sentence input_line limit_line keys_line keys_rest keys_sentence psbt_line psbt_rest
returns-clause-output c = λ rest. refl
