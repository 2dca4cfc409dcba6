use Rattle.search_run.proofs.LeadLaws.{goes_behind, leads_more, leads_none, walked}
use Rattle.search_run.proofs.laws.pieces_lead.Goals as goal

pub returns-clause-none : goal.returns-clause-none
returns-clause-none c = leads_none

pub returns-clause-behind : goal.returns-clause-behind
returns-clause-behind c = goes_behind

pub returns-clause-walk : goal.returns-clause-walk
returns-clause-walk c = walked

pub returns-clause-more : goal.returns-clause-more
returns-clause-more c = leads_more
