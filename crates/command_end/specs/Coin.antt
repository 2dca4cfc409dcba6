-- How hashes and coins are shown.
use Rattle.std.specs.Prelude.{ℕ, ◌≡◌, ◌<◌, ◌^◌, List, ◌∷◌, ◌++◌, length, reverse}
use Rattle.std.specs.Fmt.{decimal}
use Rattle.hex.specs.Hex.{encode_lower}
use Rattle.fund_base.specs.Cursor.{IsBytes}
use Rattle.fund_base.specs.declared.outpoint.OutPoint.{OutPoint}

-- a hash in lower-case hex, its bytes reversed, as Bitcoin Core shows txids and block hashes
abbrev pub shown_hash : List ℕ → List ℕ
shown_hash hash = encode_lower (reverse hash)

-- a coin: its txid, a colon, and its index in decimal
unfoldable pub coin_text : OutPoint → List ℕ
coin_text coin = shown_hash coin.txid ++ (58 ∷ decimal coin.index)

-- a coin as each outpoint of the program is: its txid is 32 bytes, and its index has 32 bits
pub record IsShown (coin : OutPoint) : Type 0 where
  pub bytes : IsBytes coin.txid
  pub long : length coin.txid ≡ 32
  pub index : coin.index < 2 ^ 32
