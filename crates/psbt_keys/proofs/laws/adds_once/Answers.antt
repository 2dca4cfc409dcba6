use Rattle.psbt_keys.proofs.ExtendLaws.{all_stand}
use Rattle.psbt_keys.proofs.OnceLaws.{adds_nothing}
use Rattle.psbt_keys.proofs.laws.adds_once.Goals as goal

pub returns-clause-stand : goal.returns-clause-stand
returns-clause-stand c = λ due old new g. all_stand due old new g

pub returns-clause-nothing : goal.returns-clause-nothing
returns-clause-nothing c = λ due old new have g. adds_nothing due old new have g
