use Rattle.std.proofs.Common.{◌≡◌, None, Option, take}
use Rattle.std.specs.Prelude.{is_some}
use Rattle.fund_shelf.specs.Causes.{ReadsOne}
use Rattle.block_feed.specs.Digest.{HasTaken}
use Rattle.coin_book.specs.Watched.{PlainWatched}
use Rattle.fund_files.specs.Booked.{Keeps}
use Rattle.fund_files.proofs.FeedSteps.{SoFar}
use Rattle.fund_files.proofs.blocks.read_blocks.Given as goal

abbrev pub invariant-reading : goal.invariant-reading
invariant-reading g l = record {
  fine : l.feed.fault ≡ None;
  frame : ReadsOne g.H.Shelf.tells ⊥ l.name (g.H.Shelf.view l.initial.shelf) (g.H.Shelf.view l.shelf);
  so_far : SoFar g.H.Shelf.tells ((g.H.Shelf.view l.initial.shelf).files l.name) l.wallet l.feed l.tip l.booked;
  keeps : (kept : Option PlainWatched) → Keeps kept l.initial.booked → Keeps kept l.booked;
  hashing : is_some l.feed.hasher ≡ is_some l.initial.feed.hasher;
  taken : g.H.Shelf.tells → HasTaken l.feed.hasher (take l.feed.place ((g.H.Shelf.view l.initial.shelf).files l.name));
}
