use Rattle.entry_laws.proofs.CoinListFaults.{coins_form_law, coins_law, coins_other, repeat_law}
use Rattle.entry_laws.proofs.requests.tells_coins.Goals as goal

pub returns : goal.returns
returns c = record { coins = coins_law; repeat = repeat_law; form = coins_form_law; other = coins_other }
