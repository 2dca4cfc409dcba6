use Rattle.std.proofs.Common.{refl}
use Rattle.search_run.proofs.PositionLaws.{stands_well, well_stands}
use Rattle.search_run.proofs.resuming.kept_positions_are_well_formed.Goals as goal

pub returns-clause-well : goal.returns-clause-well
returns-clause-well c = λ p saved letters. (well_stands p saved letters, stands_well p saved letters)

pub returns-clause-walk : goal.returns-clause-walk
returns-clause-walk c = λ p saved letters. refl

pub returns-clause-before : goal.returns-clause-before
returns-clause-before c = λ p saved letters. refl
