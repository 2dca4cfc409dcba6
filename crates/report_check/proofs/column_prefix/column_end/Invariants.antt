use Rattle.std.proofs.Common.{drop}
use Rattle.report_check.proofs.UpToLaws.{IsSeeking}
use Rattle.report_check.proofs.column_prefix.column_end.Given as goal

abbrev pub invariant-seeking : goal.invariant-seeking
invariant-seeking l = IsSeeking l.steps l.row l.stage (drop l.i l.steps) l.there
