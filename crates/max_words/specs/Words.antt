-- Words of a payment whose one recipient gets all, and the same words with an amount.
use Rattle.std.specs.Prelude.{ℕ, ◌+◌, ◌==◌, ◌&&◌, ◌||◌, nat_lt, Bool, true, false, List, [], ◌∷◌, ◌++◌, length, bytes_eq, codes, count_by, drop, map, take, String, string_bytes, Option, Some, None, Result, Ok, Err, if◌then◌else◌}
use Rattle.std.specs.Fmt.{decimal}
use Rattle.std.specs.declared.alloc.Global.{Global}
use Rattle.request_text.specs.declared.request.Method.{Method}
use Rattle.request_text.specs.declared.request.Method.TheVariants as methods
use Rattle.pay_words.specs.Asked.{PlainAsked}
use Rattle.pay_words.specs.Flags.{flag_word}
use Rattle.pay_words.specs.Payments.{cut_of}
use Rattle.pay_words.specs.Values.{word_at}
use Rattle.pay_words.specs.declared.fault.WordFault.{WordFault}
use Rattle.pay_words.specs.declared.fault.WordFault.TheVariants as words
use Rattle.pay_words.specs.declared.flag.Flag.TheVariants as flags
use Rattle.max_words.specs.declared.fault.MaxFault.{MaxFault}
use Rattle.max_words.specs.declared.fault.MaxFault.TheVariants as faults

-- ---- who gets all

-- a recipient stands behind this word
abbrev pub is_payee : List ℕ → Bool
is_payee word = bytes_eq word (flag_word flags.To) || bytes_eq word (flag_word flags.ToScript)

-- what stands behind the first `=` is `max`
abbrev pub is_max_by : Option (List ℕ × List ℕ) → Bool
is_max_by None = false
is_max_by (Some parts) = bytes_eq parts.1 (codes "max")

abbrev pub is_max : List ℕ → Bool
is_max word = is_max_by (cut_of word)

-- The place of the first recipient that gets all, among the words from a place on. Whether a recipient stands first there is told by the
-- word before.
unfoldable pub max_from : (payee : Bool) → ℕ → List (String Global) → Option ℕ
max_from payee place [] = None
max_from payee place (w ∷ words) = if payee && is_max (string_bytes w) then Some place else max_from (is_payee (string_bytes w)) (place + 1) words

abbrev pub max_at : List (String Global) → Option ℕ
max_at words = max_from false 0 words

-- how many recipients there are
unfoldable pub payees : List (String Global) → ℕ
payees words = count_by (λ (w : String Global). is_payee (string_bytes w)) words

-- there is more than one
abbrev pub has_others : List (String Global) → Bool
has_others words = nat_lt 1 (payees words)

-- ---- the same with an amount

-- an amount in satoshi behind a recipient
unfoldable pub amount_behind : (amount : ℕ) → List ℕ → List ℕ
amount_behind amount to = to ++ (61 ∷ decimal amount)

-- in place of what stands behind the first `=` of a word
abbrev pub with_amount_by : (amount : ℕ) → List ℕ → Option (List ℕ × List ℕ) → List ℕ
with_amount_by amount word None = amount_behind amount word
with_amount_by amount word (Some parts) = amount_behind amount parts.0

abbrev pub with_amount : (amount : ℕ) → List ℕ → List ℕ
with_amount amount word = with_amount_by amount word (cut_of word)

-- the words with this amount for the recipient at a place
abbrev pub filled : List (String Global) → (place amount : ℕ) → List (List ℕ)
filled words place amount = map string_bytes (take place words) ++ (with_amount amount (word_at words place) ∷ map string_bytes (drop (place + 1) words))

-- ---- what they ask for

abbrev pub is_manual : Method → Bool
is_manual methods.Manual = true
is_manual _ = false

-- why the words ask for no payment, once an amount stands in them
abbrev pub word_fault : WordFault → MaxFault
word_fault words.Memory = faults.Memory
word_fault fault = faults.Words fault

-- the fault is one of words that have no other recipient, of their method or their coins, or out of memory
abbrev pub IsOfWords : MaxFault → Type 0
IsOfWords (faults.Others place) = ⊥
IsOfWords (faults.Stopped names stop) = ⊥
IsOfWords _ = Unit {0}

-- All goes to one recipient from listed coins alone: by the method `manual`, and of one coin at least.
abbrev pub taken_by : (place : ℕ) → PlainAsked → Result PlainAsked MaxFault
taken_by place a =
    if is_manual a.settings.method then (if length a.coins == 0 then Err (faults.NoCoins place) else Ok a)
    else Err (faults.NotManual place)

abbrev pub taken_of : (place : ℕ) → Result PlainAsked WordFault → Result PlainAsked MaxFault
taken_of place (Err fault) = Err (word_fault fault)
taken_of place (Ok a) = taken_by place a
