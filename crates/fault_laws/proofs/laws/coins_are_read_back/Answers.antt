use Rattle.fault_laws.proofs.ReadBack.{coin_back, coin_is_text, hash_back}
use Rattle.fault_laws.proofs.laws.coins_are_read_back.Goals as goal

pub returns : goal.returns
returns c = record { hash = hash_back; text = coin_is_text; coin = coin_back }
