use Rattle.pay_words.proofs.SpreadLaws.{two_words}
use Rattle.pay_words.proofs.laws.flags_take_values_behind_signs.Goals as goal

pub returns : goal.returns
returns c = two_words
