use Rattle.fee_bump.proofs.ConflictLaws.{conflict_goes}
use Rattle.fee_bump.proofs.laws.conflicts_are_replaced.Goals as goal

pub returns : goal.returns
returns c = λ w h tip r txid c k rules book sound asked clear there lt cause spends. conflict_goes w h tip r txid rules book sound asked clear c there k lt cause spends
