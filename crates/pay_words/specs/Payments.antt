-- Who is paid by words, and which coins are spent in any case.
use Rattle.std.specs.Prelude.{ℕ, Bool, ◌==◌, nat_lt, List, [], ◌∷◌, ◌++◌, length, String, Option, Some, None, Result, Ok, Err, if◌then◌else◌}
use Rattle.std.specs.List.{after_first, before_first, position_or_len}
use Rattle.std.specs.Option.{ok_or}
use Rattle.std.specs.Result.{result_ok}
use Rattle.std.specs.declared.alloc.Global.{Global}
use Rattle.hex.specs.Hex.{decode_of}
use Rattle.fund_base.specs.Parsing.{◌>>=◌}
use Rattle.request_making.specs.declared.payment.Payment.{Payment}
use Rattle.pay_words.specs.Flags.{is_same}
use Rattle.pay_words.specs.Payees.{PlainPayee, Script, payee_at, plain_payee}
use Rattle.pay_words.specs.Values.{amount_at, word_at}
use Rattle.pay_words.specs.declared.fault.WordFault.{WordFault}
use Rattle.pay_words.specs.declared.fault.WordFault.TheVariants as faults
use Rattle.pay_words.specs.declared.flag.Flag.{Flag}
use Rattle.pay_words.specs.declared.flag.Flag.TheVariants as flags
use Rattle.pay_words.specs.declared.given.Given.{Given}

pub record PlainPayment : Type 0 where
  pub to : PlainPayee
  pub amount : ℕ

abbrev pub plain_payment : Payment → PlainPayment
plain_payment p = record { to = plain_payee p.to; amount = p.amount }

-- the sign `=`
abbrev pub is_equals : ℕ → Bool
is_equals b = b == 61

-- what stands before and behind the first `=`, if there is one
abbrev pub cut_of : List ℕ → Option (List ℕ × List ℕ)
cut_of word = if nat_lt (position_or_len is_equals word) (length word) then Some (before_first is_equals word, after_first is_equals word) else None

-- paid to an address
abbrev pub to_address : ℕ → List ℕ → List ℕ → Result PlainPayment WordFault
to_address place to amount = amount_at place amount >>= λ n. payee_at place to >>= λ payee. Ok (record { to = payee; amount = n })

-- a script in hex
abbrev pub script_at : ℕ → List ℕ → Result (List ℕ) WordFault
script_at place text = ok_or (result_ok (decode_of text)) (faults.Script place)

-- paid to a script
abbrev pub to_script : ℕ → List ℕ → List ℕ → Result PlainPayment WordFault
to_script place to amount = script_at place to >>= λ script. amount_at place amount >>= λ n. Ok (record { to = Script script; amount = n })

-- by the parts of a word
abbrev pub by_parts : (ℕ → List ℕ → List ℕ → Result PlainPayment WordFault) → ℕ → Option (List ℕ × List ℕ) → Result PlainPayment WordFault
by_parts paying place None = Err (faults.NoAmount place)
by_parts paying place (Some parts) = paying place parts.0 parts.1

abbrev pub paid_to : ℕ → List ℕ → Result PlainPayment WordFault
paid_to place word = by_parts to_address place (cut_of word)

abbrev pub paid_to_script : ℕ → List ℕ → Result PlainPayment WordFault
paid_to_script place word = by_parts to_script place (cut_of word)

-- one after others
abbrev pub one_more : List PlainPayment → Result PlainPayment WordFault → Result (List PlainPayment) WordFault
one_more before paid = paid >>= λ p. Ok (before ++ p ∷ [])

-- after others, what is paid by a flag with its value at a place
abbrev pub payments_by : List (String Global) → List PlainPayment → Flag → ℕ → Result (List PlainPayment) WordFault
payments_by words before flags.To place = one_more before (paid_to place (word_at words place))
payments_by words before flags.ToScript place = one_more before (paid_to_script place (word_at words place))
payments_by words before _ place = Ok before

abbrev pub payments_after : List (String Global) → List PlainPayment → Given → Result (List PlainPayment) WordFault
payments_after words before g = payments_by words before g.flag g.place

-- each in order
unfoldable pub payments_from : List (String Global) → List PlainPayment → List Given → Result (List PlainPayment) WordFault
payments_from words before [] = Ok before
payments_from words before (g ∷ gs) = payments_after words before g >>= λ ps. payments_from words ps gs

-- the coin that a flag lists
abbrev pub coin_given : List (String Global) → Given → List (List ℕ)
coin_given words g = if is_same g.flag flags.Coin then word_at words g.place ∷ [] else []
