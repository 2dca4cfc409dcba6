use Rattle.std.proofs.Common.{◌≡◌, map, take}
use Rattle.fee_sharing.specs.RowShares.{unpriced}
use Rattle.fund_gap.proofs.share.unpriced_all.Given as goal

abbrev pub invariant-loop-candidate : goal.invariant-loop-candidate
invariant-loop-candidate l = l.coins.items ≡ map unpriced (take l.candidate-index l.candidates)
