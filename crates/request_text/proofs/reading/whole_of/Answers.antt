use Rattle.std.proofs.Common.{◌≡◌, true, false, codes, is_some, sym, ◌∙◌}
use Rattle.serde_json.specs.Find.{get}
use Rattle.json_fields.specs.Tree.{view}
use Rattle.request_text.specs.RequestText.{known_in}
use Rattle.request_text.proofs.reading.whole_of.Goals as goal

pub returns-then-has-clause-gives : goal.returns-then-has-clause-gives
unfolding known_in
returns-then-has-clause-gives c =
    let bump : is_some (get (codes "bump") (view c.args.value.now)) ≡ true = sym c.has.ensures ∙ c.if-has.true in
    rw bump c.whole_among.ensures.gives

pub returns-then-has-clause-short : goal.returns-then-has-clause-short
unfolding known_in
returns-then-has-clause-short c =
    let bump : is_some (get (codes "bump") (view c.args.value.now)) ≡ true = sym c.has.ensures ∙ c.if-has.true in
    rw bump c.whole_among.ensures.short

pub returns-else-has-clause-gives : goal.returns-else-has-clause-gives
unfolding known_in
returns-else-has-clause-gives c =
    let bump : is_some (get (codes "bump") (view c.args.value.now)) ≡ false = sym c.has.ensures ∙ c.if-has.false in
    rw bump c.whole_among-else-has.ensures.gives

pub returns-else-has-clause-short : goal.returns-else-has-clause-short
unfolding known_in
returns-else-has-clause-short c =
    let bump : is_some (get (codes "bump") (view c.args.value.now)) ≡ false = sym c.has.ensures ∙ c.if-has.false in
    rw bump c.whole_among-else-has.ensures.short
