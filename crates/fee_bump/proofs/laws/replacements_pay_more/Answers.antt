use Rattle.fee_bump.proofs.PayLaws.{pays_fees, pays_rate}
use Rattle.fee_bump.proofs.laws.replacements_pay_more.Goals as goal

pub returns-clause-fees : goal.returns-clause-fees
returns-clause-fees c = λ w h tip r txid size rules asked clear le. pays_fees w h tip r txid rules asked clear size le

pub returns-clause-rate : goal.returns-clause-rate
returns-clause-rate c = λ w h tip r txid fee size rules asked clear some pays. pays_rate w h tip r txid rules asked clear fee size some pays
