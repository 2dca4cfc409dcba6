-- The request that is asked for, or the first rule of requests that it breaks: in words of what was given, without the
-- file that is written of it.
use Rattle.std.specs.Prelude.{ℕ, ◌==◌, ◌||◌, nat_lt, nat_le, false, true, List, [], ◌∷◌, ◌++◌, length, codes, String, string_bytes, Option, Some, None, Result, Ok, Err, if◌then◌else◌, ⊤}
use Rattle.std.specs.declared.alloc.Global.{Global}
use Rattle.std.specs.Option.{ok_or}
use Rattle.fund_base.specs.Cursor.{IsBytes}
use Rattle.fund_base.specs.Parsing.{◌>>=◌, fault_as}
use Rattle.fund_base.specs.declared.outpoint.OutPoint.{OutPoint}
use Rattle.segwit_addr.specs.Reading.{decode_of}
use Rattle.json_fields.specs.Fields.{coin_in}
use Rattle.json_fields.specs.declared.fault.FieldFault.{FieldFault}
use Rattle.json_fields.specs.declared.fault.FieldFault.TheVariants.{Kind, Member}
use Rattle.request_text.specs.PlainRequest.{PlainRequest, paid_to}
use Rattle.request_text.specs.RequestText.{field, index_of, paid_at, repeat_behind, distinct_at}
use Rattle.request_text.specs.declared.fault.Refusal.{Refusal}
use Rattle.request_text.specs.declared.fault.Refusal.TheVariants as refusals
use Rattle.request_text.specs.declared.request.Method.{Method}
use Rattle.request_text.specs.declared.request.Recipient.{Recipient}
use Rattle.request_making.specs.declared.payment.Payee.{Payee}
use Rattle.request_making.specs.declared.payment.Payee.TheVariants as payees
use Rattle.request_making.specs.declared.payment.Payment.{Payment}
use Rattle.request_making.specs.declared.settings.Settings.{Settings}

-- a script is of bytes
abbrev pub IsOfBytes : Payee → Type 0
IsOfBytes (payees.Address text) = ⊤
IsOfBytes (payees.Script script) = IsBytes script

abbrev pub HasBytes : Payment → Type 0
HasBytes p = IsOfBytes p.to

-- a whole number that is at most so great; the member of this name gives it
abbrev pub number_asked : List ℕ → ℕ → ℕ → Result ℕ Refusal
number_asked name most n = field (if nat_le n most then Ok n else Err (Kind name))

-- one of 64 bits
abbrev pub whole_asked : List ℕ → ℕ → Result ℕ Refusal
whole_asked name n = number_asked name 18_446_744_073_709_551_615 n

-- a rate of at most 100,000,000
abbrev pub rate_asked : List ℕ → ℕ → Result ℕ Refusal
rate_asked name n = do
  rate ← whole_asked name n
  if nat_lt 100_000_000 rate then Err (refusals.RateRange name) else Ok rate

-- 1 to 10,000,000 tries
abbrev pub tries_asked : ℕ → Result ℕ Refusal
tries_asked n = do
  tries ← whole_asked (codes "tries") n
  if tries == 0 || nat_lt 10_000_000 tries then Err refusals.TriesRange else Ok tries

-- what is paid to an address that is one, or to a script of 1 to 10,000 bytes, by the recipient at an index
abbrev pub payee_paid : ℕ → ℕ → Payee → Result Recipient Refusal
payee_paid index amount (payees.Address text) = fault_as (refusals.Address index) (decode_of (string_bytes text)) >>= λ script. paid_at index script amount
payee_paid index amount (payees.Script script) = if length script == 0 || nat_lt 10_000 (length script) then Err (refusals.Script index) else paid_at index script amount

-- one after others
abbrev pub payment_asked : List Recipient → Payment → Result Recipient Refusal
payment_asked before p = whole_asked (codes "amount") p.amount >>= λ amount. payee_paid (index_of (length before)) amount p.to

-- each in order
unfoldable pub payments_asked : List Recipient → List Payment → Result (List Recipient) Refusal
payments_asked before [] = Ok before
payments_asked before (p ∷ ps) = payment_asked before p >>= λ r. payments_asked (before ++ r ∷ []) ps

-- all of them: at least one, and together at most 21,000,000 bitcoin
abbrev pub recipients_asked : List Payment → Result (List Recipient) Refusal
recipients_asked payments = do
  recipients ← payments_asked [] payments
  if length recipients == 0 then Err refusals.NoRecipients else if nat_lt 2_100_000_000_000_000 (paid_to recipients) then Err refusals.SumRange else Ok recipients

-- each coin by its own words, after others
unfoldable pub coins_named : List OutPoint → List (String Global) → Result (List OutPoint) FieldFault
coins_named before [] = Ok before
coins_named before (coin ∷ coins) = ok_or (coin_in (string_bytes coin)) (Kind (codes "coins")) >>= λ c. coins_named (before ++ c ∷ []) coins

-- none of them twice
abbrev pub coins_asked : List (String Global) → Result (List OutPoint) Refusal
coins_asked coins = do
  named ← field (coins_named [] coins)
  distinct_at named (repeat_behind [] named)

-- no coins are listed beside a payment that is replaced
abbrev pub none_beside : Option (List ℕ) → List (String Global) → Result ⊤ FieldFault
none_beside None coins = Ok tt
none_beside (Some txid) [] = Ok tt
none_beside (Some txid) (coin ∷ coins) = Err (Member (codes "coins"))

-- The whole: the first rule that is broken, coins beside a payment that is replaced and then in the order of the members of a
-- request; or the request of exactly what is asked.
unfoldable pub asked_of : List Payment → List (String Global) → Settings → Result PlainRequest Refusal
asked_of payments coins s = do
  alone ← field (none_beside s.bump coins)
  recipients ← recipients_asked payments
  rate ← rate_asked (codes "rate") s.rate
  long_term ← rate_asked (codes "long_term") s.long_term
  discard ← rate_asked (codes "discard") s.discard
  change_target ← number_asked (codes "change_target") 2_100_000_000_000_000 s.change_target
  tries ← tries_asked s.tries
  listed ← coins_asked coins
  locktime ← number_asked (codes "locktime") 4_294_967_295 s.locktime
  Ok (record {
    recipients = recipients;
    rate = rate;
    long_term = long_term;
    discard = discard;
    change_target = change_target;
    method = s.method;
    seed = s.seed;
    tries = tries;
    take = s.take;
    zero_conf = s.zero_conf;
    include_unsafe = s.include_unsafe;
    group = s.group;
    coins = listed;
    bump = s.bump;
    replaceable = s.replaceable;
    locktime = locktime;
    psbt = 0;
  })

-- the settings of a request that leaves out all but these
abbrev pub plain_settings : ℕ → Method → List ℕ → Settings
plain_settings rate method seed = record {
  rate = rate;
  long_term = 10_000;
  discard = 10_000;
  change_target = 50_000;
  method = method;
  seed = seed;
  tries = 100_000;
  take = true;
  zero_conf = true;
  include_unsafe = false;
  group = false;
  replaceable = true;
  locktime = 0;
  bump = None;
}
