use Rattle.std.specs.Prelude.{◌≡◌, length}
use Rattle.random_draw.specs.Draw.{trimmed}
use Rattle.random_draw.specs.KeptPlaces.{AreKeptPlaces, places_of}
use Rattle.random_draw.proofs.kept.Kept.trim.Given as goal

abbrev pub invariant-loop-self : goal.invariant-loop-self
invariant-loop-self l = record {
  kept : AreKeptPlaces l.problem l.self;
  same : trimmed l.problem (length (places_of l.self)) (places_of l.self) ≡ trimmed l.problem (length (places_of l.initial.self)) (places_of l.initial.self);
}

abbrev pub decreases-loop-self : goal.decreases-loop-self
decreases-loop-self l = length (places_of l.self)
