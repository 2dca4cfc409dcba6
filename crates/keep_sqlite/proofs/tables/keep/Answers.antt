use Rattle.std.proofs.Common.{◌≡◌, Err, rules}
use Rattle.keep_sqlite.proofs.TransactionLaws.{failed_inside, failed_on, inside_then, rows_then}
use Rattle.keep_sqlite.proofs.tables.keep.Goals as goal

pub returns-in_err-run-clause-left : goal.returns-in_err-run-clause-left
returns-in_err-run-clause-left g c =
    let is : c.from_residual.result ≡ Err c.in_err-run.field-0.0 = search rules in
    failed_inside g.S.Store _ _ _ _ is c.in_err-run.ensures.left

pub returns-in_err-run-2-clause-left : goal.returns-in_err-run-2-clause-left
returns-in_err-run-2-clause-left g c =
    let is : c.from_residual-in_err-run-2.result ≡ Err c.in_err-run-2.field-0.0 = search rules in
    failed_inside g.S.Store _ _ _ _ is (inside_then g.S.Store _ _ _ _ _ c.in_ok-run.ensures.left c.in_err-run-2.ensures.left)

pub returns-clause-left : goal.returns-clause-left
returns-clause-left g c = inside_then g.S.Store _ _ _ _ _ c.in_ok-run.ensures.left (inside_then g.S.Store _ _ _ _ _ c.in_ok-run-2.ensures.left c.run-3.ensures.left)

pub returns-in_err-run-clause-rows : goal.returns-in_err-run-clause-rows
returns-in_err-run-clause-rows g c clean inside =
    let is : c.from_residual.result ≡ Err c.in_err-run.field-0.0 = search rules in
    failed_on _ _ _ is

pub returns-in_err-run-2-clause-rows : goal.returns-in_err-run-2-clause-rows
returns-in_err-run-2-clause-rows g c clean inside =
    let is : c.from_residual-in_err-run-2.result ≡ Err c.in_err-run-2.field-0.0 = search rules in
    failed_on _ _ _ is

pub returns-clause-rows : goal.returns-clause-rows
returns-clause-rows g c clean inside =
    rows_then g.S.Store _ _ _ _ _ _ c.run-3.result c.in_ok-run.ensures.left c.in_ok-run-2.ensures.left c.run-3.ensures.left clean inside c.args.job.now c.args.first c.args.part.now c.args.saved.now
    (rw (c.params-to_sql.ensures, c.params-to_sql-2.ensures) at c.in_ok-run.ensures.ran)
    (rw (c.params-to_sql-3.ensures, c.params-to_sql-4.ensures) at c.in_ok-run-2.ensures.ran)
    (rw (c.params-to_sql-5.ensures, c.params-to_sql-6.ensures) at c.run-3.ensures.ran)
