use Rattle.request_text.proofs.RecipientLists.{taken, none, sum, entry, other}
use Rattle.request_text.proofs.laws.judges_recipient_lists.Goals as goal

pub returns-clause-taken : goal.returns-clause-taken
returns-clause-taken c = taken

pub returns-clause-none : goal.returns-clause-none
returns-clause-none c = none

pub returns-clause-sum : goal.returns-clause-sum
returns-clause-sum c = sum

pub returns-clause-entry : goal.returns-clause-entry
returns-clause-entry c = entry

pub returns-clause-other : goal.returns-clause-other
returns-clause-other c = other
