use Rattle.log_checker.proofs.SplitLaws.{pieces_accepted, pieces_fault}
use Rattle.log_checker.proofs.laws.pieces_are_the_whole.Goals as goal

pub returns : goal.returns
returns c = record { accepted = pieces_accepted; fault = pieces_fault }
