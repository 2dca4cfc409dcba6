use Rattle.std.proofs.Common.{◌≡◌, ◌≤◌, [], ◌∷◌, ◌-◌, take, drop, vec_len}
use Rattle.fund_shelf.specs.Causes.{Asks}
use Rattle.block_feed.proofs.parts.read_pieces.Given as goal

abbrev pub invariant-reading : goal.invariant-reading
invariant-reading g l = record {
  few : vec_len l.part ≤ l.count;
  read : g.H.Shelf.tells → l.part.items ≡ take (vec_len l.part) (drop l.at ((g.H.Shelf.view l.initial.shelf).files l.name));
  same : g.H.Shelf.tells → (g.H.Shelf.view l.shelf).files ≡ (g.H.Shelf.view l.initial.shelf).files;
  reads : (g.H.Shelf.view l.shelf).reads ≡ (g.H.Shelf.view l.initial.shelf).reads;
  writes : (g.H.Shelf.view l.shelf).writes ≡ (g.H.Shelf.view l.initial.shelf).writes;
  asked : g.H.Shelf.tells → Asks (l.name ∷ []) (g.H.Shelf.view l.initial.shelf).asked (g.H.Shelf.view l.shelf).asked;
}

abbrev pub decreases-reading : goal.decreases-reading
decreases-reading g l = l.count - vec_len l.part
