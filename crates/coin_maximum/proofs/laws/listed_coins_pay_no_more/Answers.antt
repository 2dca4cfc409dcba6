use Rattle.coin_maximum.proofs.MaximumLaws.{pays_all, pays_most}
use Rattle.coin_maximum.proofs.laws.listed_coins_pay_no_more.Goals as goal

pub returns-clause-most : goal.returns-clause-most
returns-clause-most c = pays_most

pub returns-clause-whole : goal.returns-clause-whole
returns-clause-whole c = pays_all
