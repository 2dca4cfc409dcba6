use Rattle.fund_files.proofs.BookSteps.{fresh_in, one_can_wait, waiting_more, waiting_none}
use Rattle.fund_files.proofs.booking.add_waiting.Goals as goal

pub loop-tx-init : goal.loop-tx-init
loop-tx-init c = record {
  booked = λ h none is. waiting_none c.args.booked h none is;
  keeps = λ kept k. k;
}

pub add_pending-requires-clause-fresh : goal.add_pending-requires-clause-fresh
add_pending-requires-clause-fresh c =
    let b = c.requires.begun in
    fresh_in c.loop-tx.booked b.0 c.args.pending.now c.loop-tx.tx-index c.tx-item.result (c.loop-tx.invariant.booked b.0 b.1 b.2) c.loop-tx-test.true c.tx-item.is c.requires.distinct

pub add_pending-requires-clause-watched : goal.add_pending-requires-clause-watched
add_pending-requires-clause-watched c =
    one_can_wait c.args.booked c.loop-tx.booked c.args.pending.now c.loop-tx.tx-index c.tx-item.result c.loop-tx.invariant.keeps c.loop-tx-test.true c.tx-item.is c.requires.watched

pub loop-tx-preserved : goal.loop-tx-preserved
loop-tx-preserved c = record {
  booked = λ h none is.
      waiting_more c.loop-tx.booked c.add_pending.new.booked h c.args.pending.now c.loop-tx.tx-index c.tx-item.result c.loop-tx-test.true c.tx-item.is c.in_ok-add_pending.ensures.booked (c.loop-tx.invariant.booked h none is);
  keeps = λ kept k. c.in_ok-add_pending.ensures.keeps kept (c.loop-tx.invariant.keeps kept k);
}
