use Rattle.wide_check.proofs.SplitLaws.{pieces_accepted, pieces_fault}
use Rattle.wide_check.proofs.laws.wide_pieces_are_the_whole.Goals as goal

pub returns : goal.returns
returns c = record { accepted = pieces_accepted; fault = pieces_fault }
