use Rattle.pay_words.proofs.FlagLaws.{word_known, word_is}
use Rattle.pay_words.proofs.laws.flags_have_one_word.Goals as goal

pub returns-clause-known : goal.returns-clause-known
returns-clause-known c = word_known

pub returns-clause-only : goal.returns-clause-only
returns-clause-only c = word_is
