use Rattle.std.proofs.Common.{◌≡◌, ◌≤◌, ◌-◌, ◌++◌, length, take}
use Rattle.fund_shelf.proofs.pieces.put_all.Given as goal

abbrev pub invariant-putting : goal.invariant-putting
invariant-putting g l = record {
  in_range : l.at ≤ length l.bytes;
  put : g.O.Sink.tells → (g.O.Sink.view l.out).written ≡ (g.O.Sink.view l.initial.out).written ++ take l.at l.bytes;
  faults : (g.O.Sink.view l.out).faults ≡ (g.O.Sink.view l.initial.out).faults;
  refusals : (g.O.Sink.view l.out).refusals ≡ (g.O.Sink.view l.initial.out).refusals;
}

abbrev pub decreases-putting : goal.decreases-putting
decreases-putting g l = length l.bytes - l.at
