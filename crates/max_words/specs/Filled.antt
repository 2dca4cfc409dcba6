-- Words whose recipient gets all, with the amount that this is by the files; or why there are none.
use Rattle.std.specs.Prelude.{ℕ, ◌≡◌, ◌≢◌, true, false, List, map, String, string_bytes, Option, unwrap_or, Result, Ok, Err}
use Rattle.std.specs.declared.alloc.Global.{Global}
use Rattle.fund_shelf.specs.Causes.{ShelfView}
use Rattle.fund_files.specs.FileStops.{StopsChain}
use Rattle.fund_files.specs.Joined.{IsChainOf}
use Rattle.fund_files.specs.declared.chain.Chain.{Chain}
use Rattle.fund_files.specs.declared.stop.Stop.TheVariants as stops
use Rattle.fund_steps.specs.Plan.{PlainPlan}
use Rattle.request_making.specs.Asked.{asked_of}
use Rattle.request_text.specs.PlainRequest.{PlainRequest}
use Rattle.request_text.specs.declared.fault.Refusal.{Refusal}
use Rattle.command_inputs.specs.Outcome.{plan_of}
use Rattle.coin_maximum.specs.Maximum.{IsMaximum}
use Rattle.pay_words.specs.Asked.{PlainAsked, asked_in, plain_asked}
use Rattle.pay_words.specs.declared.asked.Asked.{Asked}
use Rattle.max_words.specs.Words.{filled, has_others, taken_of}
use Rattle.max_words.specs.declared.fault.MaxFault.{MaxFault}
use Rattle.max_words.specs.declared.fault.MaxFault.TheVariants as faults

-- ---- what is asked for

-- The amount is the most that the listed coins of a plan pay. It is 21,000,000 bitcoin, which is all that there can be, where there is no
-- such amount: where a payment is replaced, where no plan is made, or where nothing is left.
abbrev pub IsAmount : PlainPlan → ℕ → Type 0
IsAmount p n = (most : Option ℕ) × IsMaximum p most × (n ≡ unwrap_or most 2_100_000_000_000_000)

-- With 21,000,000 bitcoin in place of `max` the words ask for this, or have this fault first.
pub record IsTried (drawn : List ℕ) (words : List (String Global)) (place : ℕ) (tried : Result PlainAsked MaxFault) : Type 0 where
  pub said : List (String Global)
  pub said_is : map string_bytes said ≡ filled words place 2_100_000_000_000_000
  pub tried_is : taken_of place (asked_in drawn said) ≡ tried

-- Words with an amount in place of `max`. With 21,000,000 bitcoin there they ask for a payment to one recipient from listed coins alone.
-- The amount is the most that these coins pay, by the wallet and the blocks that the files hold: whatever request it is that is asked for.
-- Where none is, as the words break a rule of requests, it is 21,000,000 bitcoin.
pub record IsFilled (told : Type 0) (files : List ℕ → List ℕ) (drawn : List ℕ) (words : List (String Global)) (place : ℕ) (out : List (List ℕ)) : Type 0 where
  pub amount : ℕ
  pub out_is : out ≡ filled words place amount
  pub alone : has_others words ≡ false
  pub asked : Asked
  pub asks : IsTried drawn words place (Ok (plain_asked asked))
  pub chain : Chain
  pub held : IsChainOf told (files (string_bytes asked.names.wallet)) (files (string_bytes asked.names.blocks)) chain
  pub most : (r : PlainRequest) → asked_of asked.payments.items asked.coins.items asked.settings ≡ Ok r → IsAmount (plan_of chain r) amount
  pub unasked : (fault : Refusal) → asked_of asked.payments.items asked.coins.items asked.settings ≡ Err fault → amount ≡ 2_100_000_000_000_000

-- ---- why there is no amount

-- Why words ask for no payment of all that listed coins are worth, memory aside. There is another recipient; or there is none, and the
-- fault is the first of the words with 21,000,000 bitcoin in place of `max`, or else one of the method or the coins. No file is read.
abbrev pub IsNotAsked : (drawn : List ℕ) → List (String Global) → (place : ℕ) → MaxFault → Type 0
IsNotAsked drawn words place (faults.Others it) = (it ≡ place) × (has_others words ≡ true)
IsNotAsked drawn words place (faults.Words fault) = (has_others words ≡ false) × IsTried drawn words place (Err (faults.Words fault))
IsNotAsked drawn words place (faults.NotManual it) = (has_others words ≡ false) × IsTried drawn words place (Err (faults.NotManual it))
IsNotAsked drawn words place (faults.NoCoins it) = (has_others words ≡ false) × IsTried drawn words place (Err (faults.NoCoins it))
IsNotAsked drawn words place (faults.Stopped names stop) = ⊥
IsNotAsked drawn words place faults.Memory = Unit {0}

-- Why no amount is found, memory aside. The words ask for no such payment; or they do, and the wallet file or the block file that they name
-- stops it.
abbrev pub IsNotFilled : (told : Type 0) → (old new : ShelfView) → (drawn : List ℕ) → List (String Global) → (place : ℕ) → MaxFault → Type 0
IsNotFilled told old new drawn words place (faults.Stopped names stop) =
    (has_others words ≡ false)
    × (stop ≢ stops.Memory)
    × ((asked : Asked) × (names ≡ asked.names) × IsTried drawn words place (Ok (plain_asked asked)) × StopsChain told (string_bytes names.wallet) (string_bytes names.blocks) old new stop)
IsNotFilled told old new drawn words place fault = IsNotAsked drawn words place fault
