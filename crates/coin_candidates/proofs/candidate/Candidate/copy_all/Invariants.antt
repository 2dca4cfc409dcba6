use Rattle.std.proofs.Common.{◌≡◌, take}
use Rattle.coin_candidates.proofs.candidate.Candidate.copy_all.Given as goal

abbrev pub invariant-loop-candidate : goal.invariant-loop-candidate
invariant-loop-candidate l = l.copies.items ≡ take l.candidate-index l.candidates
