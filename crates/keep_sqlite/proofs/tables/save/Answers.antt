use Rattle.std.proofs.Common.{◌≡◌, Err, IsTrue, arith, refl, rules, subst, sym}
use Rattle.sqlite.specs.Held.{state}
use Rattle.sqlite.specs.State.{HasCleanDisk}
use Rattle.keep_sqlite.specs.Saving.{IsAsBefore}
use Rattle.keep_sqlite.proofs.TransactionLaws.{failed_on, on_err, rolled_back, saved_by, uncommitted}
use Rattle.keep_sqlite.proofs.tables.save.Goals as goal

pub returns-in_err-write-clause-neither : goal.returns-in_err-write-clause-neither
returns-in_err-write-clause-neither g c clean is_open =
    let old = c.args.connection.now in
    let mid = c.write.new.transaction.conn.now in
    let new = c.drop-transaction.new.self.0 in
    let same : new ≡ c.connection-1.given.0 = search rules in
    let late : HasCleanDisk (state g.S.Store new) = subst (λ h. HasCleanDisk (state g.S.Store h)) (sym same) clean in
    let still : IsTrue (state g.S.Store new).is_open = subst (λ h. IsTrue (state g.S.Store h).is_open) (sym same) is_open in
    let early : HasCleanDisk (state g.S.Store mid) = omega (arith, c.drop-transaction.ensures.survives.clean) in
    let left = rw c.transaction-transaction.ensures.begun at c.in_err-write.ensures.left in
    let settled = c.is_autocommit.ensures.settled c.if-not-is_autocommit.false in
    let done : IsAsBefore g.S.Store old new = rolled_back g.S.Store old mid new settled (left.kept refl early) (c.drop-transaction.ensures.undone late) still in
    let is : c.from_residual.result ≡ Err c.in_err-write.field-0.0 = search rules in
    rw is (subst (IsAsBefore g.S.Store old) same done)

pub returns-clause-neither : goal.returns-clause-neither
returns-clause-neither g c clean is_open =
    let old = c.args.connection.now in
    let mid = c.write.new.transaction.conn.now in
    let new = c.commit.new.self.0 in
    let same : new ≡ c.connection-2-1.given.0 = search rules in
    let late : HasCleanDisk (state g.S.Store new) = subst (λ h. HasCleanDisk (state g.S.Store h)) (sym same) clean in
    let still : IsTrue (state g.S.Store new).is_open = subst (λ h. IsTrue (state g.S.Store h).is_open) (sym same) is_open in
    let early : HasCleanDisk (state g.S.Store mid) = omega (arith, c.commit.ensures.survives.clean) in
    let left = rw c.transaction-transaction.ensures.begun at c.in_ok-write.ensures.left in
    let settled = c.is_autocommit.ensures.settled c.if-not-is_autocommit.false in
    on_err _ _ c.commit.result (c.commit.ensures.err late) (λ e failed. subst (IsAsBefore g.S.Store old) same (uncommitted g.S.Store old mid new settled (left.kept refl early) (left.inside refl early) e failed still))

pub returns-in_err-write-clause-saved : goal.returns-in_err-write-clause-saved
returns-in_err-write-clause-saved g c clean =
    let is : c.from_residual.result ≡ Err c.in_err-write.field-0.0 = search rules in
    failed_on _ _ _ is

pub returns-clause-saved : goal.returns-clause-saved
returns-clause-saved g c clean =
    let mid = c.write.new.transaction.conn.now in
    let new = c.commit.new.self.0 in
    let same : new ≡ c.connection-2-1.given.0 = search rules in
    let late : HasCleanDisk (state g.S.Store new) = subst (λ h. HasCleanDisk (state g.S.Store h)) (sym same) clean in
    let early : HasCleanDisk (state g.S.Store mid) = omega (arith, c.commit.ensures.survives.clean) in
    let written = rw c.transaction-transaction.ensures.begun at c.in_ok-write.ensures.written in
    saved_by g.S.Store c.args.connection.now mid new _ c.commit.result c.args.job.now c.args.first c.args.part.now c.args.saved.now same (written early refl) (c.commit.ensures.ok late)
