use Rattle.random_draw.proofs.LawsOfDraws.{place_among}
use Rattle.random_draw.proofs.laws.the_most_valuable_stay.Goals as goal

pub returns-clause-added : goal.returns-clause-added
returns-clause-added c = λ kept j k. place_among kept j k
