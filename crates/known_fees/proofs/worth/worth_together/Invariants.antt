use Rattle.std.proofs.Common.{◌≡◌, ◌*◌, take, min}
use Rattle.std.specs.Prelude.{sum_by, unwrap_or}
use Rattle.fund_base.specs.declared.money.TheConstants.{MAX_MONEY}
use Rattle.known_fees.specs.Worth.{worth_of}
use Rattle.known_fees.proofs.worth.worth_together.Given as goal

abbrev pub invariant-loop-point : goal.invariant-loop-point
invariant-loop-point l = l.sum ≡ min (sum_by (λ o. unwrap_or (worth_of l.book l.txs o) 0) (take l.point-index l.points)) (2 * MAX_MONEY)
