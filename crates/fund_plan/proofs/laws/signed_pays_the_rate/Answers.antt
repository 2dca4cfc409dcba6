use Rattle.fund_plan.proofs.SignedLaws.{signed_light, signed_pays}
use Rattle.fund_plan.proofs.laws.signed_pays_the_rate.Goals as goal

pub returns-clause-weight : goal.returns-clause-weight
returns-clause-weight c = signed_light

pub returns-clause-fee : goal.returns-clause-fee
returns-clause-fee c = signed_pays
