use Rattle.pick_problem.proofs.TellLaws.{bytes_len, bytes_tell}
use Rattle.pick_problem.proofs.laws.digest_bytes_tell_problems.Goals as goal

pub returns-clause-tell : goal.returns-clause-tell
returns-clause-tell c = bytes_tell

pub returns-clause-length : goal.returns-clause-length
returns-clause-length c = bytes_len
