-- The rules of the walk, by the names that the code has for them.
use Rattle.wide_search.specs.WideWalk.{Rule, IsShort, IsOver, IsHeavy, IsWasteful, IsHit, GoesOn}
use Rattle.wide_search.specs.declared.cases.Case.{Case}
use Rattle.wide_search.specs.declared.cases.Case.TheVariants.{Short, Over, Heavy, Wasteful, Hit, Goes}

abbrev pub rule_of : Case → Rule
rule_of Short = IsShort
rule_of Over = IsOver
rule_of Heavy = IsHeavy
rule_of Wasteful = IsWasteful
rule_of Hit = IsHit
rule_of Goes = GoesOn
