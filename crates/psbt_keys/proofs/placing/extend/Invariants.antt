use Rattle.std.proofs.Common.{take}
use Rattle.std.specs.Prelude.{AllPairs}
use Rattle.psbt_codec.specs.Psbt.{HaveOtherKeys}
use Rattle.psbt_keys.specs.Extended.{IsExtended}
use Rattle.psbt_keys.proofs.placing.extend.Given as goal

abbrev pub invariant-adding : goal.invariant-adding
invariant-adding l = AllPairs HaveOtherKeys l.fn.pairs.items → IsExtended (take l.number l.due) l.fn.pairs.items l.pairs.items
