use Rattle.kept_job.proofs.ResumedLaws.{claims_answer, claims_none, claims_open, claims_payment, claims_read}
use Rattle.kept_job.proofs.laws.resumed_plans_claim.Goals as goal

pub returns-clause-answer : goal.returns-clause-answer
returns-clause-answer c = λ p now job m s o are g settled. claims_answer ⊥ p now job m s o are g settled

pub returns-clause-payment : goal.returns-clause-payment
returns-clause-payment c = λ p now job m s f g rules are. claims_payment ⊥ p now job m s f g rules are

pub returns-clause-none : goal.returns-clause-none
returns-clause-none c = λ p now job m s g rules are. claims_none ⊥ p now job m s g rules are

pub returns-clause-unfinished : goal.returns-clause-unfinished
returns-clause-unfinished c = λ p now job m s g. claims_open ⊥ p now job m s g

pub returns-clause-reads : goal.returns-clause-reads
returns-clause-reads c = λ p now job m s o bytes g are text goes. claims_read ⊥ p now job m s o bytes g are text goes
