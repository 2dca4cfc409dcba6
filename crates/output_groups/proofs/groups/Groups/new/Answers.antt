use Rattle.std.proofs.Common.{subst}
use Rattle.std.specs.Prelude.{List, map}
use Rattle.coin_candidates.specs.declared.candidate.Candidate.{Candidate}
use Rattle.output_groups.specs.Formed.{part_in}
use Rattle.output_groups.specs.Forming.{AreParts}
use Rattle.output_groups.proofs.PlacedLaws.{formed_are}
use Rattle.output_groups.proofs.RunLaws.{useful_are}
use Rattle.output_groups.proofs.groups.Groups.new.Goals as goal

pub form-requires-clause-coins : goal.form-requires-clause-coins
form-requires-clause-coins c = rw c.in_ok-coins.ensures (useful_are c.args.rate c.args.candidates.now c.requires.candidates)

pub invariant_of-result : goal.invariant_of-result
invariant_of-result c =
    let a = c.args in
    let coins = c.form.new.coins.items in
    let formed = subst (λ (cs : List Candidate). AreParts a.group cs (map (part_in coins) c.in_ok-formed.formed.items)) c.in_ok-coins.ensures c.in_ok-formed.ensures.parts in
    formed_are a.group a.rate a.long_term a.candidates.now coins c.in_ok-formed.formed.items c.sort.new.groups.items c.requires.candidates formed c.in_ok-formed.ensures.each c.sort.ensures.moved c.sort.ensures.sorted
