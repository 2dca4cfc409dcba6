use Rattle.base58_addr.proofs.Addresses.{one_script}
use Rattle.base58_addr.proofs.laws.addresses_are_unique.Goals as goal

pub returns-clause-script : goal.returns-clause-script
returns-clause-script c = λ text first second a b. one_script text first second a b
