use Rattle.search_run.proofs.SearchedLaws.{all_sections, answered_sections}
use Rattle.search_run.proofs.laws.logs_have_each_search.Goals as goal

pub returns-clause-answered : goal.returns-clause-answered
returns-clause-answered c = answered_sections

pub returns-clause-none : goal.returns-clause-none
returns-clause-none c = all_sections
