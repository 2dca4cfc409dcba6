use Rattle.kept_job.proofs.KeepingLaws.{can_keep_on}
use Rattle.kept_job.proofs.SavingLaws.{can_keep, first_kept, longer, more_kept}
use Rattle.kept_job.proofs.laws.saved_jobs_are_kept.Goals as goal

pub returns-clause-can : goal.returns-clause-can
returns-clause-can c = can_keep

pub returns-clause-first : goal.returns-clause-first
returns-clause-first c = first_kept

pub returns-clause-longer : goal.returns-clause-longer
returns-clause-longer c = longer

pub returns-clause-more : goal.returns-clause-more
returns-clause-more c = λ p n m digest old new s o g are k h. more_kept p n m digest old new s o g are k h

pub returns-clause-on : goal.returns-clause-on
returns-clause-on c = λ p now job m s g are some can. can_keep_on ⊥ p now job m s are g some can
