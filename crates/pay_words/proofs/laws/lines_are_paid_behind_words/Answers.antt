use Rattle.pay_words.proofs.LineLaws.{paid_behind}
use Rattle.pay_words.proofs.laws.lines_are_paid_behind_words.Goals as goal

pub returns : goal.returns
returns c = paid_behind
