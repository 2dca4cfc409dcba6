use Rattle.entry_laws.proofs.ValueFaults.{coin_fault_law, coin_law, hash_fault_law, hash_law}
use Rattle.entry_laws.proofs.values.tells_hashes_and_coins.Goals as goal

pub returns : goal.returns
returns c = record { hash = hash_law; no_hash = hash_fault_law; coin = coin_law; no_coin = coin_fault_law }
