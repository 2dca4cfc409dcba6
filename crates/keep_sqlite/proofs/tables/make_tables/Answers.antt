use Rattle.std.proofs.Common.{◌≡◌, Err, refl, rules, true}
use Rattle.keep_sqlite.proofs.TransactionLaws.{done_inside, failed_inside, failed_on, inside_then, made_then}
use Rattle.keep_sqlite.proofs.tables.make_tables.Goals as goal

pub returns-in_err-are_there-clause-left : goal.returns-in_err-are_there-clause-left
returns-in_err-are_there-clause-left g c =
    let is : c.from_residual.result ≡ Err c.in_err-are_there.field-0.0 = search rules in
    failed_inside g.S.Store _ _ _ _ is c.in_err-are_there.ensures.left

pub returns-then-branch-clause-left : goal.returns-then-branch-clause-left
returns-then-branch-clause-left g c = done_inside g.S.Store _ _ _ _ c.in_ok-are_there.ensures.left

pub returns-in_err-run-clause-left : goal.returns-in_err-run-clause-left
returns-in_err-run-clause-left g c =
    let is : c.from_residual-in_err-run.result ≡ Err c.in_err-run.field-0.0 = search rules in
    failed_inside g.S.Store _ _ _ _ is (inside_then g.S.Store _ _ _ _ _ c.in_ok-are_there.ensures.left c.in_err-run.ensures.left)

pub returns-clause-left : goal.returns-clause-left
returns-clause-left g c = inside_then g.S.Store _ _ _ _ _ c.in_ok-are_there.ensures.left (inside_then g.S.Store _ _ _ _ _ c.in_ok-run.ensures.left c.run-2.ensures.left)

pub returns-in_err-are_there-clause-made : goal.returns-in_err-are_there-clause-made
returns-in_err-are_there-clause-made g c clean inside =
    let is : c.from_residual.result ≡ Err c.in_err-are_there.field-0.0 = search rules in
    failed_on _ _ _ is

pub returns-then-branch-clause-made : goal.returns-then-branch-clause-made
returns-then-branch-clause-made g c clean inside = (c.are_there.new.transaction.conn.now, true, rw c.if-branch.true at (c.in_ok-are_there.ensures.told clean), refl)

pub returns-in_err-run-clause-made : goal.returns-in_err-run-clause-made
returns-in_err-run-clause-made g c clean inside =
    let is : c.from_residual-in_err-run.result ≡ Err c.in_err-run.field-0.0 = search rules in
    failed_on _ _ _ is

pub returns-clause-made : goal.returns-clause-made
returns-clause-made g c clean inside =
    let asked = c.in_ok-are_there.ensures in
    let first = c.in_ok-run.ensures in
    made_then g.S.Store _ _ _ _ _ _ c.run-2.result asked.left first.left c.run-2.ensures.left clean inside (rw c.if-branch.false at asked.told) first.ran c.run-2.ensures.ran
