use Rattle.std.proofs.Common.{◌<◌, ◌∙◌, length, subst, sym, arith}
use Rattle.std.proofs.lemmas.Bool.{eqb-false}
use Rattle.fund_steps.proofs.TermLaws.{row_searchable}
use Rattle.fund_steps.specs.Making.{AreSearchable}
use Rattle.fund_steps.proofs.row_steps.add_steps.Goals as goal

pub add_each-requires-clause-terms : goal.add_each-requires-clause-terms
add_each-requires-clause-terms c =
    let some : 0 < length c.args.turns.now = omega (arith, eqb-false (length c.args.turns.now) 0 (sym c.is_empty.ensures ∙ c.if-is_empty.false)) in
    subst AreSearchable (sym c.row_terms-terms.ensures) (row_searchable c.args.rates.now c.args.load.now c.args.turns.now _ c.requires.ready some)
