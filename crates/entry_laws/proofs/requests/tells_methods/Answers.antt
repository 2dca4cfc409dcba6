use Rattle.entry_laws.proofs.RequestFaults.{method_fault, method_law}
use Rattle.entry_laws.proofs.requests.tells_methods.Goals as goal

pub returns : goal.returns
returns c = record { method = method_law; other = method_fault }
