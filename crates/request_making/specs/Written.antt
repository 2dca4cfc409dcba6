-- The JSON value of a request that is asked for: each member is written but `psbt`, in the order of their names by bytes. Where no
-- payment is replaced `bump` is left out, and where one is, a list of no coins.
use Rattle.std.specs.Prelude.{ℕ, Bool, true, false, List, [], ◌∷◌, map, reverse, codes, String, string_bytes, Option, Some, None, if◌then◌else◌}
use Rattle.std.specs.declared.alloc.Global.{Global}
use Rattle.hex.specs.Hex.{encode_lower}
use Rattle.serde_json.specs.Data.{Data, boolean, number, unsigned, string, array, object, Members, no_members, member, put}
use Rattle.serde_json.specs.View.{items_of}
use Rattle.serde_json.specs.Written.{compact_text}
use Rattle.request_text.specs.Rules.{word_of}
use Rattle.request_making.specs.declared.payment.Payee.{Payee}
use Rattle.request_making.specs.declared.payment.Payee.TheVariants as payees
use Rattle.request_making.specs.declared.payment.Payment.{Payment}
use Rattle.request_making.specs.declared.settings.Settings.{Settings}

-- a recipient: its address, or its script in hex, and the amount
abbrev pub payee_data : ℕ → Payee → Data
payee_data amount (payees.Address text) = object (member (codes "address") (string (string_bytes text)) (member (codes "amount") (number (unsigned amount)) no_members))
payee_data amount (payees.Script script) = object (member (codes "amount") (number (unsigned amount)) (member (codes "script") (string (encode_lower script)) no_members))

abbrev pub payment_data : Payment → Data
payment_data p = payee_data p.amount p.to

-- a coin, by its own words
abbrev pub coin_data : String Global → Data
coin_data coin = string (string_bytes coin)

-- what is done when the tries are used up
abbrev pub take_word : Bool → List ℕ
take_word take = if take then codes "take" else codes "stop"

-- the payment that is replaced, by its txid as it is shown
abbrev pub txid_data : List ℕ → Data
txid_data txid = string (encode_lower (reverse txid))

abbrev pub bump_member : Option (List ℕ) → Members → Members
bump_member None ms = ms
bump_member (Some txid) ms = member (codes "bump") (txid_data txid) ms

-- the list of coins is written: beside a payment that is replaced only where there are some
abbrev pub has_coins : Option (List ℕ) → List (String Global) → Bool
has_coins None coins = true
has_coins (Some txid) [] = false
has_coins (Some txid) (coin ∷ coins) = true

abbrev pub coins_member : Option (List ℕ) → List (String Global) → Members → Members
coins_member bump coins ms = if has_coins bump coins then member (codes "coins") (array (items_of (map coin_data coins))) ms else ms

-- the whole
abbrev pub request_data : List Payment → List (String Global) → Settings → Data
request_data payments coins s =
    object (bump_member s.bump
    (member (codes "change_target") (number (unsigned s.change_target))
    (coins_member s.bump coins
    (member (codes "discard") (number (unsigned s.discard))
    (member (codes "group") (boolean s.group)
    (member (codes "include_unsafe") (boolean s.include_unsafe)
    (member (codes "locktime") (number (unsigned s.locktime))
    (member (codes "long_term") (number (unsigned s.long_term))
    (member (codes "method") (string (word_of s.method))
    (member (codes "rate") (number (unsigned s.rate))
    (member (codes "recipients") (array (items_of (map payment_data payments)))
    (member (codes "replaceable") (boolean s.replaceable)
    (member (codes "seed") (string (encode_lower s.seed))
    (member (codes "tries") (number (unsigned s.tries))
    (member (codes "when_unfinished") (string (take_word s.take))
    (member (codes "zero_conf") (boolean s.zero_conf) no_members))))))))))))))))

-- The bytes of the request file: that value as JSON on one line, without a blank outside of texts.
unfoldable pub request_bytes : List Payment → List (String Global) → Settings → List ℕ
request_bytes payments coins s = compact_text (request_data payments coins s)

-- The same members, put one by one into others: the numbers, the truth values, and the words.
abbrev pub numbers_put : Settings → Members → Members
numbers_put s ms =
    put (codes "tries") (number (unsigned s.tries))
    (put (codes "locktime") (number (unsigned s.locktime))
    (put (codes "change_target") (number (unsigned s.change_target))
    (put (codes "discard") (number (unsigned s.discard))
    (put (codes "long_term") (number (unsigned s.long_term))
    (put (codes "rate") (number (unsigned s.rate)) ms)))))

abbrev pub flags_put : Settings → Members → Members
flags_put s ms =
    put (codes "replaceable") (boolean s.replaceable)
    (put (codes "group") (boolean s.group)
    (put (codes "include_unsafe") (boolean s.include_unsafe)
    (put (codes "zero_conf") (boolean s.zero_conf) ms)))

abbrev pub words_put : Settings → Members → Members
words_put s ms =
    put (codes "seed") (string (encode_lower s.seed))
    (put (codes "when_unfinished") (string (take_word s.take))
    (put (codes "method") (string (word_of s.method)) ms))

abbrev pub bump_put : Option (List ℕ) → Members → Members
bump_put None ms = ms
bump_put (Some txid) ms = put (codes "bump") (txid_data txid) ms

abbrev pub coins_put : Option (List ℕ) → List (String Global) → Members → Members
coins_put bump coins ms = if has_coins bump coins then put (codes "coins") (array (items_of (map coin_data coins))) ms else ms

abbrev pub lists_put : List Payment → List (String Global) → Option (List ℕ) → Members → Members
lists_put payments coins bump ms = coins_put bump coins (put (codes "recipients") (array (items_of (map payment_data payments))) ms)
