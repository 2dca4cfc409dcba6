-- The words of a hash and of a coin are read back.
use Rattle.std.proofs.Common.{◌≡◌, List, ℕ, Some, refl}
use Rattle.fund_base.specs.declared.outpoint.OutPoint.{OutPoint}
use Rattle.json_fields.proofs.CoinLaws as coins
use Rattle.json_fields.proofs.NumberLaws as numbers
use Rattle.json_fields.specs.Fields.{IsHash, IsPoint, coin_in, hash_in}
use Rattle.json_fields.specs.Rules.{IsCoinText}
use Rattle.command_end.specs.Coin.{coin_text, shown_hash}

pub hash_back : (hash : List ℕ) → IsHash hash → hash_in (shown_hash hash) ≡ Some hash
hash_back hash is = numbers.lower hash is

pub coin_is_text : (coin : OutPoint) → IsPoint coin → IsCoinText (coin_text coin) coin
unfolding coin_text
coin_is_text coin is = record { front = shown_hash coin.txid; hash = hash_back coin.txid is.txid; index = is.index; whole = refl }

pub coin_back : (coin : OutPoint) → IsPoint coin → coin_in (coin_text coin) ≡ Some coin
coin_back coin is = coins.only (coin_text coin) coin (coin_is_text coin is)
