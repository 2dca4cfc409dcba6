use Rattle.kept_job.proofs.LoadLaws.{position_found, position_refused}
use Rattle.kept_job.proofs.loading.load_saved.Goals as goal

pub returns-clause-saved : goal.returns-clause-saved
returns-clause-saved g c = λ told. position_found _ _ _ (c.in_ok-text.ensures.saved told) c.position_of.ensures

pub returns-clause-fault : goal.returns-clause-fault
returns-clause-fault g c = λ told. position_refused _ _ _ (c.in_ok-text.ensures.saved told) c.position_of.ensures
