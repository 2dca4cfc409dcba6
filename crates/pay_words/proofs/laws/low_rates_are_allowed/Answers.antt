use Rattle.pay_words.proofs.LowRateLaws.{low_given}
use Rattle.pay_words.proofs.laws.low_rates_are_allowed.Goals as goal

pub returns : goal.returns
returns c = low_given
