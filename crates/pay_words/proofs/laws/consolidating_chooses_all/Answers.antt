use Rattle.pay_words.proofs.WayLaws.{wide_asked}
use Rattle.pay_words.proofs.laws.consolidating_chooses_all.Goals as goal

pub returns : goal.returns
returns c = wide_asked
