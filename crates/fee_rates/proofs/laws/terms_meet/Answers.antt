use Rattle.fee_rates.proofs.TermsLaws.{terms_agree}
use Rattle.fee_rates.proofs.laws.terms_meet.Goals as goal

pub returns : goal.returns
returns c = terms_agree
