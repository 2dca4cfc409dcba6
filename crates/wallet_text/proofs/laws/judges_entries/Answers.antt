use Rattle.wallet_text.proofs.WalletLaws.{taken, script_fault, weight_fault, script_told, weight_told}
use Rattle.wallet_text.proofs.laws.judges_entries.Goals as goal

pub returns-clause-taken : goal.returns-clause-taken
returns-clause-taken c = taken

pub returns-clause-script : goal.returns-clause-script
returns-clause-script c = script_fault

pub returns-clause-weight : goal.returns-clause-weight
returns-clause-weight c = weight_fault

pub returns-clause-first : goal.returns-clause-first
returns-clause-first c = script_told

pub returns-clause-second : goal.returns-clause-second
returns-clause-second c = weight_told
