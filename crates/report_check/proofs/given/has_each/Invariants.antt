use Rattle.std.proofs.Common.{◌↔◌, drop}
use Rattle.report_check.specs.Paying.{HasEach}
use Rattle.report_check.proofs.given.has_each.Given as goal

abbrev pub invariant-having : goal.invariant-having
invariant-having l = HasEach l.coins (drop l.coin-index l.given) ↔ HasEach l.coins l.given
