use Rattle.std.proofs.Common.{arith}
use Rattle.fee_sharing.proofs.SearchLaws.{along_done, along_last, along_more}
use Rattle.fee_sharing.proofs.searching.try_all.Goals as goal

pub returns-in-Done : goal.returns-in-Done
returns-in-Done c =
    along_done c.args.search.now c.on.search c.try_piece.new.search c.args.tries c.on.left 65536 c.in_ok-try_piece.field-0 c.on.invariant (omega (arith, c.on-test.true)) c.in_ok-try_piece.ensures c.in-Done.is

pub on-preserved : goal.on-preserved
on-preserved c = along_more c.args.search.now c.on.search c.try_piece.new.search c.args.tries c.on.left 65536 c.in_ok-try_piece.field-0 c.on.invariant (omega (arith, c.on-test.true)) c.in_ok-try_piece.ensures

pub returns : goal.returns
returns c = along_last c.args.search.now c.on.search c.try_piece-2.new.search c.args.tries c.on.left c.try_piece-2.result c.on.invariant c.try_piece-2.ensures
