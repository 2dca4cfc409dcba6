use Rattle.std.proofs.Common.{arith}
use Rattle.std.proofs.lemmas.Bool.{both_ways}
use Rattle.report_check.proofs.FittingLaws.{ever_true, never_true}
use Rattle.report_check.proofs.ShownLaws.{both_longer, shown_halt, shown_next, shown_over}
use Rattle.report_check.proofs.shown.are_shown.Goals as goal

pub returns-then-coins-spent : goal.returns-then-coins-spent
returns-then-coins-spent c = never_true (λ h. c.if-coins-spent.true (both_longer c.args.coins.now c.args.spent.now h))

pub returns-then-not-shows : goal.returns-then-not-shows
returns-then-not-shows c =
    never_true (shown_halt c.args.coins.now c.args.spent.now c.showing.i c.index-coins-i.result c.index-spent-i.result c.showing-test.true c.index-coins-i.is (omega (arith, c.showing-test.true, c.if-coins-spent.false)) c.index-spent-i.is c.showing.invariant
    (λ h. both_ways c.shows.result c.if-not-shows.true (c.shows.ensures.1 h)))

pub showing-preserved : goal.showing-preserved
showing-preserved c =
    shown_next c.args.coins.now c.args.spent.now c.showing.i c.index-coins-i.result c.index-spent-i.result c.showing-test.true c.index-coins-i.is (omega (arith, c.showing-test.true, c.if-coins-spent.false)) c.index-spent-i.is c.showing.invariant
    (c.shows.ensures.0 c.if-not-shows.false)

pub returns : goal.returns
returns c = ever_true (shown_over c.args.coins.now c.args.spent.now c.showing.i c.showing-test.false c.if-coins-spent.false c.showing.invariant)
