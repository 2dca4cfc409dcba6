use Rattle.base58_addr.proofs.Addresses.{decode_found, decode_only}
use Rattle.base58_addr.proofs.Judged.{breaks_told, told_breaks}
use Rattle.base58_addr.proofs.laws.judges_texts.Goals as goal

pub returns-clause-script : goal.returns-clause-script
returns-clause-script c = λ text script. (decode_found text script, decode_only text script)

pub returns-clause-fault : goal.returns-clause-fault
returns-clause-fault c = λ text fault. (told_breaks text fault, breaks_told text fault)
