use Rattle.fee_bump.proofs.CauseLaws.{bump_clear, bump_found, bump_free, bump_means}
use Rattle.payment_states.specs.PendingView.{view_of}
use Rattle.fee_bump.specs.Bump.{payment_place}
use Rattle.fee_bump.proofs.laws.faults_have_one_cause.Goals as goal

pub returns-clause-fault : goal.returns-clause-fault
returns-clause-fault c = λ w h r txid fault rules asked real. (bump_found w h r rules fault real, bump_means w h r rules txid fault asked real)

pub returns-clause-none : goal.returns-clause-none
returns-clause-none c = λ w h r txid rules asked. (bump_clear w h r rules txid asked, bump_free w h r rules (payment_place (view_of w h) r))
