use Rattle.sqlite.specs.Held.{state}
use Rattle.keep_sqlite.proofs.TransactionLaws.{query_keeps, told_stays}
use Rattle.keep_sqlite.proofs.tables.are_there.Goals as goal

pub returns-clause-left : goal.returns-clause-left
returns-clause-left g c =
    let old = state g.S.Store c.args.transaction.now.conn.now in
    let new = state g.S.Store c.query_row.new.self.conn.now in
    record {
      kept = λ inside clean. query_keeps old new inside _ _ c.query_row.result (c.query_row.ensures.row clean);
      inside = λ inside clean. told_stays old new inside _ _ c.query_row.result c.are_made_by.result (c.query_row.ensures.row clean) c.are_made_by.ensures;
      survives = c.query_row.ensures.survives;
    }

pub returns-clause-told : goal.returns-clause-told
returns-clause-told g c clean = (c.query_row.result, rw (c.params-to_sql.ensures, c.params-to_sql-2.ensures) at (c.query_row.ensures.row clean), c.are_made_by.ensures)
