use Rattle.payment_facts.proofs.PricedFacts.{among_priced, found_priced, left_priced}
use Rattle.payment_facts.proofs.laws.listed_coins_have_prices.Goals as goal

pub returns-clause-found : goal.returns-clause-found
returns-clause-found c = found_priced

pub returns-clause-among : goal.returns-clause-among
returns-clause-among c = among_priced

pub returns-clause-left : goal.returns-clause-left
returns-clause-left c = left_priced
