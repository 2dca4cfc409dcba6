use Rattle.fund_plan.proofs.PaymentLaws.{none_signed}
use Rattle.fund_plan.proofs.TextLaws.{answer_text}
use Rattle.fund_plan.proofs.laws.pays_in_text.Goals as goal

pub returns-clause-text : goal.returns-clause-text
returns-clause-text c = answer_text

pub returns-clause-bare : goal.returns-clause-bare
returns-clause-bare c = none_signed
