use Rattle.std.proofs.Common.{◌∙◌, ap}
use Rattle.std.specs.Prelude.{List, length, nat_lt, nat_le, ◌&&◌}
use Rattle.coin_candidates.specs.declared.candidate.Candidate.{Candidate}
use Rattle.output_groups.specs.Forming.{hundred}
use Rattle.output_groups.specs.Runs.{run_of}
use Rattle.output_groups.proofs.RunLaws.{hundred_group, placed_coins, placed_formed, placed_part}
use Rattle.output_groups.proofs.forming.hundred_at.Goals as goal

pub group_of-requires-clause-group : goal.group_of-requires-clause-group
group_of-requires-clause-group c =
    let a = c.args in
    rw c.hundred-hundred.ensures (hundred_group a.rate a.coins.now a.start a.end a.place c.requires.coins c.requires.within c.requires.place)

pub returns-clause-part : goal.returns-clause-part
returns-clause-part c =
    let a = c.args in
    let run = run_of a.coins.now a.start a.end in
    let is = c.hundred-hundred.ensures in
    let made = c.group_of.ensures in
    placed_part a.coins.now c.group_of.result (hundred run a.place) _ (placed_coins a.coins.now a.start a.end a.place c.hundred-hundred.result.now c.group_of.result c.requires.place is made.start made.size ∙ is)
    (made.partial ∙ c.is_partial-partial.ensures ∙ ap (λ (h : List Candidate). nat_lt (length h) 100 && nat_le 100 (length run)) is)

pub returns-clause-formed : goal.returns-clause-formed
returns-clause-formed c =
    let a = c.args in
    let made = c.group_of.ensures in
    placed_formed a.rate a.long_term a.coins.now a.start a.end a.place c.hundred-hundred.result.now c.group_of.result c.requires.coins c.requires.within c.requires.place c.hundred-hundred.ensures made.start made.size made.measures
