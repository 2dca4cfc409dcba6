use Rattle.std.proofs.Common.{◌≡◌, take}
use Rattle.std.specs.Prelude.{filter}
use Rattle.output_groups.specs.Measures.{is_useful}
use Rattle.output_groups.proofs.forming.useful.Given as goal

abbrev pub invariant-loop-candidate : goal.invariant-loop-candidate
invariant-loop-candidate l = l.useful.items ≡ filter (is_useful l.rate) (take l.candidate-index l.candidates)
