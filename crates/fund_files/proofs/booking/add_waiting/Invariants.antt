use Rattle.std.proofs.Common.{◌≡◌, [], Option, take}
use Rattle.coin_book.specs.History.{History}
use Rattle.coin_book.specs.Watched.{PlainWatched}
use Rattle.fund_files.specs.Booked.{IsBooked, Keeps}
use Rattle.fund_files.proofs.BookSteps.{waiting}
use Rattle.fund_files.proofs.booking.add_waiting.Given as goal

abbrev pub invariant-loop-tx : goal.invariant-loop-tx
invariant-loop-tx l = record {
  booked : (h : History) → h.pending ≡ [] → IsBooked l.initial.booked h → IsBooked l.booked (waiting h (take l.tx-index l.pending));
  keeps : (kept : Option PlainWatched) → Keeps kept l.initial.booked → Keeps kept l.booked;
}
