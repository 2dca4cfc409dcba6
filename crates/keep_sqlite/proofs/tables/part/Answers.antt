use Rattle.std.proofs.Common.{◌≡◌, Err, Ok, arith, false, refl, rules, true}
use Rattle.sqlite.specs.Held.{state}
use Rattle.sqlite.specs.State.{HasCleanDisk}
use Rattle.keep_sqlite.proofs.tables.part.Goals as goal

pub returns-clause-told : goal.returns-clause-told
returns-clause-told g c clean =
    let mid = c.has_tables.new.connection in
    let early : HasCleanDisk (state g.S.Store mid) = omega (arith, c.shown.ensures.clean) in
    (mid, Ok true, rw c.if-not-branch.false at (c.in_ok-has_tables.ensures.told early), rw (c.params-to_sql.ensures, c.params-to_sql-2.ensures) at (c.shown.ensures.told clean))

pub returns-then-not-branch-clause-told : goal.returns-then-not-branch-clause-told
returns-then-not-branch-clause-told g c clean =
    (c.has_tables.new.connection, Ok false, rw c.if-not-branch.true at (c.in_ok-has_tables.ensures.told clean), (refl, refl))

pub returns-in_err-has_tables-clause-told : goal.returns-in_err-has_tables-clause-told
returns-in_err-has_tables-clause-told g c clean =
    let why = c.in_err-has_tables.field-0.0 in
    let is : c.from_residual.result ≡ Err why = search rules in
    (c.has_tables.new.connection, Err why, c.in_err-has_tables.ensures.told clean, (is, refl))
