use Rattle.std.specs.Prelude.{◌+◌}
use Rattle.std.proofs.Common.{sym, subst}
use Rattle.std.proofs.lemmas.Bool.{both_ways}
use Rattle.report_check.specs.Paying.{IsBelow}
use Rattle.report_check.proofs.FittingLaws.{ever_true, never_true}
use Rattle.report_check.proofs.SliceLaws.{rest_is}
use Rattle.report_check.proofs.SortedLaws.{sorted_halt, sorted_next, sorted_over}
use Rattle.report_check.proofs.given.are_sorted.Goals as goal

pub returns-then-not-is_below : goal.returns-then-not-is_below
returns-then-not-is_below c =
    never_true (sorted_halt c.args.coins.now c.rising.i c.index-coins-i.result c.rising-test.true c.index-coins-i.is c.rising.invariant
    (λ h. both_ways c.is_below.result c.if-not-is_below.true (c.is_below.ensures.1 (subst (IsBelow c.index-coins-i.result) (sym (rest_is c.args.coins.now (c.rising.i + 1))) h))))

pub rising-preserved : goal.rising-preserved
rising-preserved c =
    sorted_next c.args.coins.now c.rising.i c.index-coins-i.result c.rising-test.true c.index-coins-i.is c.rising.invariant
    (subst (IsBelow c.index-coins-i.result) (rest_is c.args.coins.now (c.rising.i + 1)) (c.is_below.ensures.0 c.if-not-is_below.false))

pub returns : goal.returns
returns c = ever_true (sorted_over c.args.coins.now c.rising.i c.rising-test.false c.rising.invariant)
