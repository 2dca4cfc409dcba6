use Rattle.std.proofs.Common.{◌∙◌, ap, List}
use Rattle.std.proofs.lemmas.List.{take_all}
use Rattle.coin_candidates.specs.declared.candidate.Candidate.{Candidate}
use Rattle.fee_sharing.proofs.SweepLaws.{coins_in}
use Rattle.fee_sharing.proofs.sweeping.coins_of.Goals as goal

pub returns : goal.returns
returns c = c.loop-group.invariant ∙ ap (λ (groups : List (List Candidate)). coins_in groups) (take_all c.loop-group.group-index c.args.groups.now c.loop-group-test.false)
