use Rattle.keep_sqlite.proofs.job_tables.JobTablesKeeper.load.Goals as goal

pub returns-clause-told : goal.returns-clause-told
returns-clause-told g c clean = (c.load.result, c.load.ensures.told clean, c.told.ensures.told)
