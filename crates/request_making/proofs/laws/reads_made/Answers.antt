use Rattle.request_making.proofs.MadeRequests.{made_read}
use Rattle.request_making.proofs.laws.reads_made.Goals as goal

pub returns : goal.returns
returns c = made_read
