use Rattle.coin_book.proofs.ToldSteps.{full_is, never_memory, repeat_is}
use Rattle.coin_book.proofs.laws.tells_first_fault.Goals as goal

pub returns-clause-repeat : goal.returns-clause-repeat
returns-clause-repeat c = repeat_is

pub returns-clause-full : goal.returns-clause-full
returns-clause-full c = full_is

pub returns-clause-never : goal.returns-clause-never
returns-clause-never c = never_memory
