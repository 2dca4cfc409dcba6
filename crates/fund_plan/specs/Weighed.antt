-- The declared weight of a payment, told by its text.
use Rattle.std.specs.Prelude.{ℕ, ◌≡◌, ◌+◌, ◌-◌, ◌*◌, ◌^◌, ◌≤◌, ◌<◌, List, [], ◌∷◌, length, nat_le, Option, Some, None, if◌then◌else◌}
use Rattle.fund_base.specs.Cursor.{IsBytes}
use Rattle.coin_candidates.specs.declared.candidate.Candidate.{Candidate}
use Rattle.tx_codec.specs.declared.tx.TxIn.{TxIn}
use Rattle.tx_codec.specs.TransactionText.{input_text, stack_text}
use Rattle.tx_codec.specs.Weight.{weight_of as text_weight}
use Rattle.fee_rates.specs.declared.terms.PaymentLoad.{PaymentLoad}
use Rattle.request_text.specs.PlainRequest.{PlainRequest}
use Rattle.wallet_text.specs.declared.wallet.Watch.{Watch}
use Rattle.fund_steps.specs.Amounts.{weight_of}
use Rattle.fund_plan.specs.Pays.{payment_from}

-- What a payment weighs with its signatures, where each input weighs what its coin declares: its text, in which an unsigned
-- input takes 41 bytes of four weight units each, with the declared weights in place of these, and marker and flag (BIP 144).
abbrev pub signed_weight : PlainRequest → Watch → List Candidate → Option ℕ → ℕ
signed_weight r change coins amount = text_weight (payment_from r change coins amount) + (weight_of coins - 164 * length coins) + 2

-- what is kept for the number of inputs and not needed: 8 weight units where more than 252 coins are at hand, and no more
-- than 252 are spent
abbrev pub room_of : PaymentLoad → List Candidate → ℕ
room_of l coins = 4 * ((if nat_le l.coins 252 then 1 else 3) - (if nat_le (length coins) 252 then 1 else 3))

-- The weight is that with this room. Without change it may be up to 8 weight units more, for the number of outputs leaves
-- room for a change.
abbrev pub IsWeighed : Option ℕ → (weight signed room : ℕ) → Type 0
IsWeighed None weight signed room = (signed + room ≤ weight) × (weight ≤ signed + room + 8)
IsWeighed (Some amount) weight signed room = weight ≡ signed + room

-- the coin's outpoint is one that an input can name: 32 bytes, and an index of four (BIP 144, 'Serialization')
pub record HasOutpoint (c : Candidate) : Type 0 where
  pub len : length c.coin.txid ≡ 32
  pub bytes : IsBytes c.coin.txid
  pub index : c.coin.index < 2 ^ 32

-- what an input weighs: four units for each byte of its text, and one for each of its witness (BIP 141)
abbrev pub input_weight : TxIn → ℕ
input_weight i = 4 * length (input_text i) + length (stack_text i)

-- each input weighs at most what the coin at its place declares
abbrev pub AreWithinDeclared : List TxIn → List Candidate → Type 0
AreWithinDeclared [] [] = Unit {0}
AreWithinDeclared [] (c ∷ cs) = ⊥
AreWithinDeclared (i ∷ is) [] = ⊥
AreWithinDeclared (i ∷ is) (c ∷ cs) = (input_weight i ≤ c.weight) × AreWithinDeclared is cs
