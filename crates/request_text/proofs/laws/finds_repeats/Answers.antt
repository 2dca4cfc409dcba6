use Rattle.request_text.proofs.RepeatLaws.{first_twice, none_twice, only_distinct}
use Rattle.request_text.proofs.laws.finds_repeats.Goals as goal

pub returns-clause-none : goal.returns-clause-none
returns-clause-none c = none_twice

pub returns-clause-only : goal.returns-clause-only
returns-clause-only c = only_distinct

pub returns-clause-some : goal.returns-clause-some
returns-clause-some c = first_twice
