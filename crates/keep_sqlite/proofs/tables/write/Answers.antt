use Rattle.std.proofs.Common.{◌≡◌, Err, rules}
use Rattle.keep_sqlite.proofs.TransactionLaws.{failed_inside, failed_on, inside_then, job_then}
use Rattle.keep_sqlite.proofs.tables.write.Goals as goal

pub returns-in_err-make_tables-clause-left : goal.returns-in_err-make_tables-clause-left
returns-in_err-make_tables-clause-left g c =
    let is : c.from_residual.result ≡ Err c.in_err-make_tables.field-0.0 = search rules in
    failed_inside g.S.Store _ _ _ _ is c.in_err-make_tables.ensures.left

pub returns-clause-left : goal.returns-clause-left
returns-clause-left g c = inside_then g.S.Store _ _ _ _ _ c.in_ok-make_tables.ensures.left c.keep.ensures.left

pub returns-in_err-make_tables-clause-written : goal.returns-in_err-make_tables-clause-written
returns-in_err-make_tables-clause-written g c clean inside =
    let is : c.from_residual.result ≡ Err c.in_err-make_tables.field-0.0 = search rules in
    failed_on _ _ _ is

pub returns-clause-written : goal.returns-clause-written
returns-clause-written g c clean inside =
    job_then g.S.Store _ _ _ _ c.keep.result c.args.job.now c.args.first c.args.part.now c.args.saved.now c.in_ok-make_tables.ensures.left c.keep.ensures.left clean inside c.in_ok-make_tables.ensures.made c.keep.ensures.rows
