use Rattle.keep_sqlite.proofs.tables.has_tables.Goals as goal

pub returns-clause-told : goal.returns-clause-told
returns-clause-told g c clean = (c.query_row.result, rw (c.params-to_sql.ensures, c.params-to_sql-2.ensures) at (c.query_row.ensures.row clean), c.are_made_by.ensures)
