use Rattle.std.proofs.lemmas.Bool.{both_ways}
use Rattle.report_check.proofs.FittingLaws.{ever_true, never_true}
use Rattle.report_check.proofs.SortedLaws.{each_halt, each_next, each_over}
use Rattle.report_check.proofs.given.has_each.Goals as goal

pub returns-then-not-has_coin_of : goal.returns-then-not-has_coin_of
returns-then-not-has_coin_of c =
    never_true (each_halt c.args.coins.now c.args.given.now c.having.coin-index c.coin-item.result c.having-test.true c.coin-item.is c.having.invariant
    (λ h. both_ways c.has_coin_of.result c.if-not-has_coin_of.true (c.has_coin_of.ensures.1 h)))

pub having-preserved : goal.having-preserved
having-preserved c =
    each_next c.args.coins.now c.args.given.now c.having.coin-index c.coin-item.result c.having-test.true c.coin-item.is c.having.invariant (c.has_coin_of.ensures.0 c.if-not-has_coin_of.false)

pub returns : goal.returns
returns c = ever_true (each_over c.args.coins.now c.args.given.now c.having.coin-index c.having-test.false c.having.invariant)
