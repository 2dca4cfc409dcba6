-- How the coins of a wallet stand: each is in one class.
use Rattle.std.specs.Prelude.{ℕ, ◌==◌, ◌||◌, not, Bool, true, false, List, map, codes, is_some, if◌then◌else◌}
use Rattle.std.specs.Option.{option_map_or}
use Rattle.wallet_text.specs.PlainWallet.{PlainWallet}
use Rattle.coin_book.specs.Coins.{coins_of}
use Rattle.coin_book.specs.History.{History}
use Rattle.coin_book.specs.declared.coin.Coin.{Coin}
use Rattle.payment_states.specs.Candidates.{is_claimed, is_deep, is_live, is_locked, is_safe, is_spent}
use Rattle.payment_states.specs.PendingView.{place_in, view_of}
use Rattle.coin_totals.specs.declared.class.CoinClass.{CoinClass}
use Rattle.coin_totals.specs.declared.class.CoinClass.TheVariants as class
use Rattle.coin_totals.specs.declared.classes.ClassedCoin.{ClassedCoin}

-- By what is known of a coin. It is gone where its transaction counts no more or a block spends it. Otherwise the first that holds of
-- these keeps it from being spent: a payment that waits spends it, it is locked, or it isn't deep enough. What is left may be spent.
unfoldable pub class_by : (live spent claimed locked deep confirmed safe : Bool) → CoinClass
class_by live spent claimed locked deep confirmed safe =
    if not live then class.Gone
    else if spent then class.Gone
    else if claimed then class.Claimed
    else if locked then class.Locked
    else if not deep then class.Immature
    else if confirmed then class.Confirmed
    else if safe then class.Waiting
    else class.Unsafe

-- the class of a coin of the wallet, where its chain ends at this height
abbrev pub class_of : PlainWallet → History → (tip : ℕ) → Coin → CoinClass
class_of w h tip c =
    class_by (is_live w h c) (is_spent h c.coin) (is_claimed (view_of w h) c.coin) (is_locked w c.coin) (is_deep tip c) (is_some c.height)
    (option_map_or (is_safe (view_of w h) (coins_of h)) (place_in w.pending c.coin.txid) false)

-- the coin's value, in satoshi, and its class
abbrev pub classed : PlainWallet → History → (tip : ℕ) → Coin → ClassedCoin
classed w h tip c = record { class = class_of w h tip c; value = c.value }

-- those of all coins of the wallet, in order of creation
unfoldable pub classes_of : PlainWallet → History → (tip : ℕ) → List ClassedCoin
classes_of w h tip = map (classed w h tip) (coins_of h)

-- ---- the classes

abbrev pub number_of : CoinClass → ℕ
number_of class.Confirmed = 0
number_of class.Waiting = 1
number_of class.Unsafe = 2
number_of class.Claimed = 3
number_of class.Locked = 4
number_of class.Immature = 5
number_of class.Gone = 6

abbrev pub same_class : CoinClass → CoinClass → Bool
same_class a b = number_of a == number_of b

abbrev pub word_of : CoinClass → List ℕ
word_of class.Confirmed = codes "confirmed"
word_of class.Waiting = codes "waiting"
word_of class.Unsafe = codes "unsafe"
word_of class.Claimed = codes "claimed"
word_of class.Locked = codes "locked"
word_of class.Immature = codes "immature"
word_of class.Gone = codes "gone"

-- the coins of the class may be spent
abbrev pub is_spendable : CoinClass → Bool
is_spendable class.Confirmed = true
is_spendable class.Waiting = true
is_spendable class.Unsafe = true
is_spendable class.Claimed = false
is_spendable class.Locked = false
is_spendable class.Immature = false
is_spendable class.Gone = false
