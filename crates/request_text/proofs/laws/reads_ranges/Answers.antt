use Rattle.request_text.proofs.RangeLaws.{rate, rate_range, tries, tries_range}
use Rattle.request_text.proofs.laws.reads_ranges.Goals as goal

pub returns-clause-rate : goal.returns-clause-rate
returns-clause-rate c = rate

pub returns-clause-rate_range : goal.returns-clause-rate_range
returns-clause-rate_range c = rate_range

pub returns-clause-tries : goal.returns-clause-tries
returns-clause-tries c = tries

pub returns-clause-tries_range : goal.returns-clause-tries_range
returns-clause-tries_range c = tries_range
