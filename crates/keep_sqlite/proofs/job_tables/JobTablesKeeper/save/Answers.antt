use Rattle.std.proofs.Common.{◌∙◌, ap}
use Rattle.keep_sqlite.specs.Reported.{reported_answer}
use Rattle.keep_sqlite.proofs.TransactionLaws.{told_err, told_ok}
use Rattle.keep_sqlite.proofs.job_tables.JobTablesKeeper.save.Goals as goal

pub returns-clause-neither : goal.returns-clause-neither
returns-clause-neither g c clean is_open = told_err _ c.save.result c.told.result c.told.ensures.told (c.save.ensures.neither clean is_open)

pub returns-clause-saved : goal.returns-clause-saved
returns-clause-saved g c clean = told_ok _ c.save.result c.told.result c.told.ensures.told (c.save.ensures.saved clean)

pub returns-clause-open : goal.returns-clause-open
returns-clause-open g c is_open =
    let (refused, same) = c.save.ensures.open is_open in
    (c.told.ensures.told ∙ ap reported_answer refused, same)
