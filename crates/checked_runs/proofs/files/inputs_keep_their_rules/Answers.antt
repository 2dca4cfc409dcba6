use Rattle.desk_laws.proofs.RequestLaws.{asked_is}
use Rattle.checked_runs.proofs.WalletRuleLaws.{wallet_is}
use Rattle.checked_runs.proofs.files.inputs_keep_their_rules.Goals as goal

pub returns : goal.returns
returns c = record { wallet = wallet_is; request = asked_is }
