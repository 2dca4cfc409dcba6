use Rattle.keep_sqlite.proofs.job_file.SqliteKeeperKeeper.load.Goals as goal

pub returns-clause-told : goal.returns-clause-told
returns-clause-told g c = (c.ask.result, c.ask.ensures, c.told.ensures.told)
