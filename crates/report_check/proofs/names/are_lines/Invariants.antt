use Rattle.std.specs.Prelude.{◌↔◌}
use Rattle.std.proofs.Common.{drop}
use Rattle.report_check.proofs.NamingLaws.{AreLines}
use Rattle.report_check.proofs.names.are_lines.Given as goal

abbrev pub invariant-matching : goal.invariant-matching
invariant-matching l = AreLines (drop l.line-index l.lines) l.rest ↔ AreLines l.lines l.coins
