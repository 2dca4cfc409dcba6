-- A request as plain data, and the rules that each request keeps.
use Rattle.std.specs.Prelude.{ℕ, ◌≡◌, ◌≢◌, ◌<◌, ◌≤◌, ◌^◌, ◌⊎◌, Bool, true, false, List, length, sum_by, All, AllPairs, Option, IsSome, IfSome}
use Rattle.fund_base.specs.Cursor.{IsBytes}
use Rattle.fund_base.specs.declared.outpoint.OutPoint.{OutPoint}
use Rattle.fee_rates.specs.Output.{dust_of}
use Rattle.json_fields.specs.Fields.{IsHash, IsPoint}
use Rattle.request_text.specs.declared.request.Method.{Method}
use Rattle.request_text.specs.declared.request.Method.TheVariants.{Auto, Changeless, Weight, Draw, Manual}
use Rattle.request_text.specs.declared.request.Recipient.{Recipient}

-- a request, without where it lies in memory
pub record PlainRequest : Type 0 where
  pub recipients : List Recipient
  pub rate : ℕ
  pub long_term : ℕ
  pub discard : ℕ
  pub change_target : ℕ
  pub method : Method
  pub seed : List ℕ
  pub tries : ℕ
  pub take : Bool
  pub zero_conf : Bool
  pub include_unsafe : Bool
  pub group : Bool
  pub coins : List OutPoint
  pub bump : Option (List ℕ)
  pub replaceable : Bool
  pub locktime : ℕ
  pub psbt : ℕ

-- the method draws at random, so that a file has to give a seed
abbrev pub draws : Method → Bool
draws Auto = true
draws Changeless = false
draws Weight = false
draws Draw = true
draws Manual = false

-- a script of 1 to 10,000 bytes, and an amount that is no dust and at most 21,000,000 bitcoin
pub record IsRecipient (r : Recipient) : Type 0 where
  pub bytes : IsBytes r.script
  pub some : 1 ≤ length r.script
  pub most : length r.script ≤ 10_000
  pub dust : dust_of r.script ≤ r.amount
  pub money : r.amount ≤ 2_100_000_000_000_000

-- what the recipients get together
abbrev pub paid_to : List Recipient → ℕ
paid_to recipients = sum_by (λ (r : Recipient). r.amount) recipients

-- a version of PSBTs: 0 (BIP 174) or 2 (BIP 370)
abbrev pub IsVersion : ℕ → Type 0
IsVersion n = (n ≡ 0) ⊎ (n ≡ 2)

-- The rules that a request keeps.
pub record IsRequest (q : PlainRequest) : Type 0 where
  pub some : 1 ≤ length q.recipients
  pub recipients : All IsRecipient q.recipients
  pub money : paid_to q.recipients ≤ 2_100_000_000_000_000
  pub rate : q.rate ≤ 100_000_000
  pub long_term : q.long_term ≤ 100_000_000
  pub discard : q.discard ≤ 100_000_000
  pub change_target : q.change_target ≤ 2_100_000_000_000_000
  pub seed : IsHash q.seed
  pub tries : (1 ≤ q.tries) × (q.tries ≤ 10_000_000)
  pub coins : All IsPoint q.coins
  pub distinct : AllPairs (λ a b. a ≢ b) q.coins
  pub bump : IfSome q.bump IsHash
  pub alone : IsSome q.bump → length q.coins ≡ 0
  pub locktime : q.locktime < 2 ^ 32
  pub psbt : IsVersion q.psbt
