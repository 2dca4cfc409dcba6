use Rattle.keep_sqlite.proofs.job_tables.JobTablesKeeper.part.Goals as goal

pub returns-clause-told : goal.returns-clause-told
returns-clause-told g c clean = (c.part.result, c.part.ensures.told clean, c.told.ensures.told)
