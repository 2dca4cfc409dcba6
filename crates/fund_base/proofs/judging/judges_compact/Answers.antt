use Rattle.fund_base.proofs.Spellings.{truncated_where, long_where, no_others}
use Rattle.fund_base.proofs.judging.judges_compact.Goals as goal

pub returns-clause-truncated : goal.returns-clause-truncated
returns-clause-truncated c = truncated_where

pub returns-clause-long : goal.returns-clause-long
returns-clause-long c = long_where

pub returns-clause-others : goal.returns-clause-others
returns-clause-others c = no_others
