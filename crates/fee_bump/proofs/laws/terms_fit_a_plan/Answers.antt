use Rattle.fee_bump.proofs.PlanLaws.{terms_burden, terms_fit, terms_made}
use Rattle.fee_bump.proofs.laws.terms_fit_a_plan.Goals as goal

pub returns : goal.returns
returns c = record {
  fit = λ w h tip r rules book sound. terms_fit w h tip r rules book sound;
  makers = λ w h tip r rules book sound. terms_made w h tip r rules book sound;
  burden = λ w h tip r txid rules book sound asked clear. terms_burden w h tip r rules book sound txid asked clear;
}
