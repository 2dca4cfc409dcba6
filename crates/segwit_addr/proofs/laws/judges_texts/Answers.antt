use Rattle.segwit_addr.proofs.Addresses.{decode_only}
use Rattle.segwit_addr.proofs.Breaking.{told_breaks}
use Rattle.segwit_addr.proofs.Found.{decode_found}
use Rattle.segwit_addr.proofs.Judged.{breaks_told}
use Rattle.segwit_addr.proofs.laws.judges_texts.Goals as goal

pub returns-clause-script : goal.returns-clause-script
returns-clause-script c = λ text script. (decode_found text script, decode_only text script)

pub returns-clause-fault : goal.returns-clause-fault
returns-clause-fault c = λ text fault. (told_breaks text fault, breaks_told text fault)
