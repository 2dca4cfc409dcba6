use Rattle.std.proofs.Common.{◌≡◌, ◌≤◌, [], ◌∷◌, ◌-◌, take, true}
use Rattle.std.specs.Prelude.{◌==◌, is_some}
use Rattle.std.specs.List.{list_all}
use Rattle.fund_shelf.specs.Causes.{Asks}
use Rattle.fund_base.specs.Writer.{Feeds}
use Rattle.block_feed.specs.Digest.{HasTaken}
use Rattle.block_feed.specs.Feed.{seen_from}
use Rattle.block_feed.proofs.tail.is_tail.Given as goal

abbrev pub invariant-scanning : goal.invariant-scanning
invariant-scanning g l = record {
  from : l.place ≤ l.at;
  to : l.at ≤ 1073741824;
  zeros : g.H.Shelf.tells → list_all (λ b. b == 0) (take (l.at - l.place) (seen_from ((g.H.Shelf.view l.initial.shelf).files l.name) l.place)) ≡ true;
  taken : g.H.Shelf.tells → Feeds HasTaken l.initial.hasher l.hasher (take (l.at - l.place) (seen_from ((g.H.Shelf.view l.initial.shelf).files l.name) l.place));
  asked_for : is_some l.hasher ≡ is_some l.initial.hasher;
  same : g.H.Shelf.tells → (g.H.Shelf.view l.shelf).files ≡ (g.H.Shelf.view l.initial.shelf).files;
  reads : (g.H.Shelf.view l.shelf).reads ≡ (g.H.Shelf.view l.initial.shelf).reads;
  writes : (g.H.Shelf.view l.shelf).writes ≡ (g.H.Shelf.view l.initial.shelf).writes;
  asked : g.H.Shelf.tells → Asks (l.name ∷ []) (g.H.Shelf.view l.initial.shelf).asked (g.H.Shelf.view l.shelf).asked;
}

abbrev pub decreases-scanning : goal.decreases-scanning
decreases-scanning g l = 1073741824 - l.at
