use Rattle.entry_laws.proofs.RequestFaults.{required_law}
use Rattle.entry_laws.proofs.requests.requires_a_seed_of_draws.Goals as goal

pub returns : goal.returns
returns c = required_law
