use Rattle.checked_runs.proofs.ChainRuleLaws.{chain_book, chain_booked, chain_fit}
use Rattle.checked_runs.proofs.files.chains_keep_their_rules.Goals as goal

pub returns : goal.returns
returns c = record { booked = chain_booked; book = chain_book; candidates = chain_fit }
