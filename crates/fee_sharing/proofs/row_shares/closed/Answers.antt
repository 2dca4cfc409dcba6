use Rattle.std.proofs.Common.{◌∙◌, ap, arith, subst, sym}
use Rattle.fund_steps.specs.Amounts.{AreWithin, value_of}
use Rattle.fund_steps.specs.Selection.{in_order}
use Rattle.fee_sharing.proofs.RowLaws.{answered}
use Rattle.fee_sharing.proofs.row_shares.closed.Goals as goal

pub members-requires : goal.members-requires
members-requires c =
    let a = c.args in
    (answered a.request.now a.row.now a.groups.now a.problem.now a.search.now c.in-Some.places.now c.requires.search c.tries-tries.ensures.position c.in-Some.ensures).rising

pub value-requires : goal.value-requires
value-requires c =
    let a = c.args in
    let is = answered a.request.now a.row.now a.groups.now a.problem.now a.search.now c.in-Some.places.now c.requires.search c.tries-tries.ensures.position c.in-Some.ensures in
    subst AreWithin (sym (c.deref.ensures.value ∙ c.in_ok-coins.ensures ∙ ap in_order c.in_ok-chosen.ensures)) is.fit

pub overflow_sub-excess : goal.overflow_sub-excess
overflow_sub-excess c =
    let a = c.args in
    let is = answered a.request.now a.row.now a.groups.now a.problem.now a.search.now c.in-Some.places.now c.requires.search c.tries-tries.ensures.position c.in-Some.ensures in
    omega (arith, is.enough, c.paid.ensures.value, c.value.ensures.value, ap value_of (c.deref.ensures.value ∙ c.in_ok-coins.ensures ∙ ap in_order c.in_ok-chosen.ensures))

pub borne_by-borne-requires-clause-coins : goal.borne_by-borne-requires-clause-coins
borne_by-borne-requires-clause-coins c =
    let a = c.args in
    let is = answered a.request.now a.row.now a.groups.now a.problem.now a.search.now c.in-Some.places.now c.requires.search c.tries-tries.ensures.position c.in-Some.ensures in
    subst AreWithin (sym (c.deref-2.ensures.value ∙ c.in_ok-coins.ensures ∙ ap in_order c.in_ok-chosen.ensures)) is.fit
