use Rattle.std.proofs.Common.{refl}
use Rattle.search_run.proofs.worked.worked_resuming.Goals as goal

pub returns : goal.returns
returns c = record { saved = λ seed. refl; log = λ seed. refl; goes_on = λ seed. refl; forged = λ seed. refl }
