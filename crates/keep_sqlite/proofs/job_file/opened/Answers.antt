use Rattle.std.proofs.Common.{sym, ◌∙◌}
use Rattle.sqlite.specs.Files.{over_files}
use Rattle.keep_sqlite.proofs.CallLaws.{made_opened}
use Rattle.keep_sqlite.proofs.job_file.opened.Goals as goal

pub returns-clause-opened : goal.returns-clause-opened
returns-clause-opened c =
    made_opened over_files c.args.connection.now c.in_ok-made.made (sym c.is_some.ensures ∙ c.if-is_some.false) (c.in_ok-made.ensures.fresh, c.in_ok-made.ensures.opened)
