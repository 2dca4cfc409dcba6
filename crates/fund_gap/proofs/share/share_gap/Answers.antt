use Rattle.std.proofs.Common.{◌∙◌, subst, sym}
use Rattle.coin_candidates.specs.Candidates.{AreCandidates}
use Rattle.fee_sharing.proofs.RowLaws.{unpriced_are}
use Rattle.fund_gap.proofs.share.share_gap.Goals as goal

pub row_reach-requires-clause-candidates : goal.row_reach-requires-clause-candidates
row_reach-requires-clause-candidates c = subst AreCandidates (sym (c.deref.ensures.value ∙ c.in_ok-coins.ensures)) (unpriced_are c.args.candidates.now c.requires)
