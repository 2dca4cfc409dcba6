use Rattle.std.proofs.Common.{◌≡◌, ◌-◌, ◌≤◌}
use Rattle.wide_search.specs.Search.{after}
use Rattle.wide_search.proofs.wide.Wide.make.Given as goal

abbrev pub invariant-trying : goal.invariant-trying
invariant-trying l = record {
  within : l.made ≤ l.tries;
  self : l.self ≡ after l.fn.self l.made;
}

abbrev pub decreases-trying : goal.decreases-trying
decreases-trying l = l.tries - l.made
