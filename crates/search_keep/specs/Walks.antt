-- The search of either kind, as contracts see it.
use Rattle.pick_problem.specs.declared.item.Kind.{Kind}
use Rattle.pick_problem.specs.declared.item.Kind.TheVariants.{Changeless, Lean}
use Rattle.walk_engine.specs.Search.{PlainSearch}
use Rattle.search_keep.specs.declared.walk.Walk.{Walk}
use Rattle.search_keep.specs.declared.walk.Walk.TheVariants.{Bnb, Grinder}

abbrev pub search_of : Walk → PlainSearch
search_of (Bnb b) = b
search_of (Grinder g) = g

-- the kind of problem for which a search of this form is
abbrev pub kind_of : Walk → Kind
kind_of (Bnb b) = Changeless
kind_of (Grinder g) = Lean
