use Rattle.keep_sqlite.proofs.TransactionLaws.{any_ok, no_ok, told_ok}
use Rattle.keep_sqlite.proofs.job_file.SqliteKeeperKeeper.save.Goals as goal
use Rattle.keep_sqlite.proofs.job_file.SqliteKeeperKeeper.save.Goals.{in-Err, in-Ok}

pub returns-clause-saved : goal.returns-clause-saved
returns-clause-saved g c =
    elim c.match-told.branch [
      | in-Ok w ↦ any_ok _ c.match-told.result (rw w.in-Ok.is at (told_ok _ c.ask.result c.told.result c.told.ensures.told c.ask.ensures))
      | in-Err w ↦ no_ok _ w.in-Err.fault c.match-told.result cc
    ]
