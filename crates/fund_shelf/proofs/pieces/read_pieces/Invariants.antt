use Rattle.std.proofs.Common.{◌≡◌, [], ◌∷◌, ◌+◌, ◌-◌, take, vec_len}
use Rattle.fund_shelf.specs.Causes.{Asks}
use Rattle.fund_shelf.proofs.pieces.read_pieces.Given as goal

abbrev pub invariant-reading : goal.invariant-reading
invariant-reading g l = record {
  read : g.H.Shelf.tells → l.bytes.items ≡ take (vec_len l.bytes) ((g.H.Shelf.view l.initial.shelf).files l.name);
  same : g.H.Shelf.tells → (g.H.Shelf.view l.shelf).files ≡ (g.H.Shelf.view l.initial.shelf).files;
  reads : (g.H.Shelf.view l.shelf).reads ≡ (g.H.Shelf.view l.initial.shelf).reads;
  writes : (g.H.Shelf.view l.shelf).writes ≡ (g.H.Shelf.view l.initial.shelf).writes;
  asked : g.H.Shelf.tells → Asks (l.name ∷ []) (g.H.Shelf.view l.initial.shelf).asked (g.H.Shelf.view l.shelf).asked;
}

abbrev pub decreases-reading : goal.decreases-reading
decreases-reading g l = l.most + 1 - vec_len l.bytes
