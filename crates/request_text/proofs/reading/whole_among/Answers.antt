use Rattle.std.proofs.Common.{◌≡◌, true, false, sym, ◌∙◌}
use Rattle.json_fields.specs.Tree.{view}
use Rattle.request_text.specs.RequestText.{needs_seed, required_in}
use Rattle.request_text.proofs.reading.whole_among.Goals as goal

pub returns-then-needs_seed-clause-gives : goal.returns-then-needs_seed-clause-gives
unfolding required_in
returns-then-needs_seed-clause-gives c =
    let needed : needs_seed (view c.args.value.now) ≡ true = sym c.needs_seed.ensures ∙ c.if-needs_seed.true in
    rw needed c.object_of.ensures.gives

pub returns-then-needs_seed-clause-short : goal.returns-then-needs_seed-clause-short
unfolding required_in
returns-then-needs_seed-clause-short c =
    let needed : needs_seed (view c.args.value.now) ≡ true = sym c.needs_seed.ensures ∙ c.if-needs_seed.true in
    rw needed c.object_of.ensures.short

pub returns-else-needs_seed-clause-gives : goal.returns-else-needs_seed-clause-gives
unfolding required_in
returns-else-needs_seed-clause-gives c =
    let needed : needs_seed (view c.args.value.now) ≡ false = sym c.needs_seed.ensures ∙ c.if-needs_seed.false in
    rw needed c.object_of-else-needs_seed.ensures.gives

pub returns-else-needs_seed-clause-short : goal.returns-else-needs_seed-clause-short
unfolding required_in
returns-else-needs_seed-clause-short c =
    let needed : needs_seed (view c.args.value.now) ≡ false = sym c.needs_seed.ensures ∙ c.if-needs_seed.false in
    rw needed c.object_of-else-needs_seed.ensures.short
