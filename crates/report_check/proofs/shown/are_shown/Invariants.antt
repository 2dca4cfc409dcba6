use Rattle.std.proofs.Common.{◌↔◌, drop}
use Rattle.report_check.proofs.ShownLaws.{AreShown}
use Rattle.report_check.proofs.shown.are_shown.Given as goal

abbrev pub invariant-showing : goal.invariant-showing
invariant-showing l = AreShown (drop l.i l.coins) (drop l.i l.spent) ↔ AreShown l.coins l.spent
