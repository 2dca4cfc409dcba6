use Rattle.request_making.proofs.PrintedLaws.{sat_read, btc_read, rate_read}
use Rattle.request_making.proofs.spelling_laws.reads_printed.Goals as goal

pub returns-clause-sat : goal.returns-clause-sat
returns-clause-sat c = sat_read

pub returns-clause-btc : goal.returns-clause-btc
returns-clause-btc c = btc_read

pub returns-clause-rate : goal.returns-clause-rate
returns-clause-rate c = rate_read
