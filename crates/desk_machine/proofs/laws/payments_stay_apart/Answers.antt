use Rattle.desk_machine.proofs.ApartLaws.{all_apart}
use Rattle.desk_machine.proofs.laws.payments_stay_apart.Goals as goal

pub returns : goal.returns
returns c = all_apart
