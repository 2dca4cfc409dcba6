-- The listing of a wallet: where its chain ends, what has become of its pending payments, and its coins.
use Rattle.std.specs.Prelude.{ℕ, Bool, List, ◌∷◌, ◌++◌, map, codes, if◌then◌else◌}
use Rattle.std.specs.Fmt.{decimal}
use Rattle.coin_candidates.specs.declared.candidate.Candidate.{Candidate}
use Rattle.payment_states.specs.declared.state.Payment.{Payment}
use Rattle.payment_states.specs.declared.state.State.{State}
use Rattle.payment_states.specs.declared.state.State.TheVariants as states
use Rattle.command_end.specs.Coin.{coin_text, shown_hash}
use Rattle.command_end.specs.LinesText.{lines_text}

-- the chain's height, and the hash of its last block
unfoldable pub tip_line : ℕ → List ℕ → List ℕ
tip_line height hash = codes "tip " ++ (decimal height ++ (32 ∷ shown_hash hash))

-- what has become of a payment: the height of its block, or the txid of what stands in its way
unfoldable pub state_words : State → List ℕ
state_words (states.Confirmed height) = codes "confirmed " ++ decimal height
state_words (states.Conflicted txid) = codes "conflicted " ++ shown_hash txid
state_words states.Abandoned = codes "abandoned"
state_words (states.Replaced txid) = codes "replaced " ++ shown_hash txid
state_words states.Pending = codes "pending"

-- a payment by its txid, and its state
unfoldable pub payment_line : Payment → List ℕ
payment_line payment = codes "payment " ++ (shown_hash payment.txid ++ (32 ∷ state_words payment.state))

-- whether the wallet alone paid for it
abbrev pub own_word : Bool → List ℕ
own_word mine = if mine then codes "mine" else codes "foreign"

-- whether no stranger can take it back
abbrev pub safe_word : Bool → List ℕ
safe_word safe = if safe then codes "safe" else codes "unsafe"

-- whose a coin is, whether it is safe, how many pending transactions it rests on, and how many rest on it
unfoldable pub standing_words : Candidate → List ℕ
standing_words c = own_word c.mine ++ (32 ∷ safe_word c.safe ++ (32 ∷ decimal c.ancestors ++ (32 ∷ decimal c.descendants)))

-- a coin, its value in satoshi, its depth in blocks, and how it stands
unfoldable pub coin_line : Candidate → List ℕ
coin_line c = codes "coin " ++ (coin_text c.coin ++ (32 ∷ decimal c.value ++ (32 ∷ decimal c.depth ++ (32 ∷ standing_words c))))

-- the listing: the tip, then the payments, then the coins, each in the order given
unfoldable pub listing_of : ℕ → List ℕ → List Payment → List Candidate → List ℕ
listing_of height hash payments candidates =
    lines_text (tip_line height hash ∷ (map payment_line payments ++ map coin_line candidates))
