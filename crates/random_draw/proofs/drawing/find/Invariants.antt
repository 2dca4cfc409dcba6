use Rattle.std.specs.Prelude.{◌≡◌, [], drop}
use Rattle.random_draw.specs.Draw.{found_from}
use Rattle.random_draw.specs.KeptPlaces.{AreFresh, AreKeptPlaces, places_of}
use Rattle.random_draw.proofs.drawing.find.Given as goal

abbrev pub invariant-loop-place : goal.invariant-loop-place
invariant-loop-place l = record {
  kept : AreKeptPlaces l.problem l.kept;
  fresh : AreFresh l.problem (places_of l.kept) (drop l.place-index l.order);
  same : found_from l.problem (places_of l.kept) (drop l.place-index l.order) ≡ found_from l.problem [] l.order;
}
