use Rattle.pay_words.proofs.NameLaws.{names_apart}
use Rattle.pay_words.proofs.laws.names_are_apart.Goals as goal

pub returns : goal.returns
returns c = names_apart
