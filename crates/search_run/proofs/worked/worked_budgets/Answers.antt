use Rattle.std.proofs.Common.{refl}
use Rattle.search_run.proofs.worked.worked_budgets.Goals as goal

pub returns : goal.returns
returns c = record { exactly = λ seed. refl; taken = λ seed. refl; fewer = λ seed. refl; nothing = λ seed. refl }
