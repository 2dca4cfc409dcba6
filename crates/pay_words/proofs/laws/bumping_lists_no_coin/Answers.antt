use Rattle.pay_words.proofs.WayLaws.{bump_asked}
use Rattle.pay_words.proofs.laws.bumping_lists_no_coin.Goals as goal

pub returns : goal.returns
returns c = bump_asked
