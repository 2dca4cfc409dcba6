-- The wallet and the request that a number and a count make.
use Rattle.std.specs.Prelude.{ℕ, ◌/◌, true, false, List, [], ◌∷◌, ◌++◌, map, replicate, None}
use Rattle.std.specs.Int.{w32, to_le_bytes}
use Rattle.std.specs.List.{range_with_len}
use Rattle.request_text.specs.PlainRequest.{PlainRequest}
use Rattle.request_text.specs.declared.request.Method.TheVariants.{Auto}
use Rattle.tx_codec.specs.Transaction.{Transaction}
use Rattle.tx_codec.specs.declared.tx.TxIn.{TxIn}
use Rattle.tx_codec.specs.declared.tx.TxOut.{TxOut}
use Rattle.wallet_text.specs.PlainWallet.{Earlier, PlainWallet}
use Rattle.command_work.specs.Coins.{coin_at, total_of}
use Rattle.command_work.specs.Kinds.{script_of, watch_of, watches}
use Rattle.command_work.specs.declared.coin.Coin.{Coin}
use Rattle.command_work.specs.declared.kind.Kind.TheVariants.{WitnessKeyHash}

-- ---- The wallet

-- the txid that the transaction of coin number i spends from: i in four bytes, low byte first, and 28 bytes 01
unfoldable pub prev_of : ℕ → List ℕ
prev_of i = to_le_bytes w32 i ++ replicate 28 1

-- its input: output 0 of that txid, an empty script, and the sequence FFFFFFFF
abbrev pub input_of : ℕ → TxIn
input_of i = record { prev = record { txid = prev_of i; index = 0 }; script = []; sequence = 4_294_967_295; witness = [] }

-- its output is the coin
abbrev pub output_of : Coin → TxOut
output_of c = record { value = c.value; script = script_of c.kind }

-- the whole transaction
unfoldable pub maker_of : ℕ → Coin → Transaction
maker_of i c = record { version = 2; inputs = input_of i ∷ []; outputs = output_of c ∷ []; locktime = 0; segwit = false }

-- it stands at height 100
abbrev pub earlier_at : ℕ → ℕ → Earlier
earlier_at number i = record { tx = maker_of i (coin_at number i); height = 100 }

-- the transactions of all coins
abbrev pub earlier_of : ℕ → ℕ → List Earlier
earlier_of number count = map (earlier_at number) (range_with_len 0 count)

-- the wallet that watches the three scripts, pays change to the first of them, stands at height 200 with a hash of
-- zeros, and knows these earlier transactions and nothing else
abbrev pub wallet_with : List Earlier → PlainWallet
wallet_with earlier = record {
  height = 200;
  hash = replicate 32 0;
  scripts = watches;
  change = watch_of WitnessKeyHash;
  earlier = earlier;
  pending = [];
  abandoned = [];
  locked = [];
}

-- the wallet of a number and a count
abbrev pub wallet_of : ℕ → ℕ → PlainWallet
wallet_of number count = wallet_with (earlier_of number count)

-- ---- The request

-- what is paid to: a witness program of version 0 with twenty bytes 44 (in hex)
unfoldable pub paid_script : List ℕ
paid_script = 0 ∷ 20 ∷ replicate 20 68

-- the request that pays so much to it at a rate of 25,000 satoshi per 1,000 virtual bytes, with a seed of zeros; all
-- else is as where a request file leaves it out
abbrev pub request_with : ℕ → PlainRequest
request_with amount = record {
  recipients = record { script = paid_script; amount = amount } ∷ [];
  rate = 25_000;
  long_term = 10_000;
  discard = 10_000;
  change_target = 50_000;
  method = Auto;
  seed = replicate 32 0;
  tries = 100_000;
  take = true;
  zero_conf = true;
  include_unsafe = false;
  group = false;
  coins = [];
  bump = None;
  replaceable = true;
  locktime = 0;
  psbt = 0;
}

-- the request of a number and a count: a twentieth of what all coins are worth, rounded down
abbrev pub request_of : ℕ → ℕ → PlainRequest
request_of number count = request_with (total_of number count / 20)
