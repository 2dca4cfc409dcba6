use Rattle.ninelace_c.proofs.SecondLaws.{fits}
use Rattle.ninelace_c.proofs.laws.second_calls_fit.Goals as goal

pub returns : goal.returns
returns c = fits
