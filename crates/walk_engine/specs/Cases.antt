-- The rules of the walk, by the names that the code has for them.
use Rattle.pick_problem.specs.Walk.{Rule, IsShort, IsOver, IsHeavy, IsWorse, IsHit, IsFar, GoesOn}
use Rattle.walk_engine.specs.declared.cases.Case.{Case}
use Rattle.walk_engine.specs.declared.cases.Case.TheVariants.{Short, Over, Heavy, Worse, Hit, Far, Goes}

abbrev pub rule_of : Case → Rule
rule_of Short = IsShort
rule_of Over = IsOver
rule_of Heavy = IsHeavy
rule_of Worse = IsWorse
rule_of Hit = IsHit
rule_of Far = IsFar
rule_of Goes = GoesOn
