use Rattle.run_laws.proofs.HandLaws.{is_at_hand}
use Rattle.run_laws.proofs.laws.at_hand_is_of_the_column.Goals as goal

pub returns : goal.returns
returns c = is_at_hand
