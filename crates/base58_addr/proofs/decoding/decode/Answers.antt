use Rattle.base58_addr.proofs.Addresses.{yields_found, yields_only, yields_pays}
use Rattle.base58_addr.proofs.decoding.decode.Goals as goal

pub returns-clause-found : goal.returns-clause-found
returns-clause-found c = yields_found c.args.text.now c.script_of_text.result (rw c.as_bytes.ensures.value at c.script_of_text.ensures.gives)

pub returns-clause-only : goal.returns-clause-only
returns-clause-only c = λ script is. yields_only c.args.text.now script c.script_of_text.result (rw c.as_bytes.ensures.value at c.script_of_text.ensures.gives) is

pub returns-clause-pays : goal.returns-clause-pays
returns-clause-pays c = yields_pays c.args.text.now c.script_of_text.result (rw c.as_bytes.ensures.value at c.script_of_text.ensures.gives)
