use Rattle.pay_words.proofs.WayLaws.{share_asked}
use Rattle.pay_words.proofs.laws.bearing_chooses_all.Goals as goal

pub returns : goal.returns
returns c = share_asked
