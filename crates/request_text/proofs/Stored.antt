-- An entry that is read had something to store.
use Rattle.std.proofs.Common.{◌≡◌, ◌≢◌, ◌≤◌, ◌==◌, ℕ, zero, suc, Bool, true, false, cond, ◌||◌, nat_lt, List, [], length, codes, Option, Some, None, Result, Ok, Err, refl, inr, ap, sym, subst, true≢false, arith}
use Rattle.std.proofs.lemmas.Bool.{ltb-false}
use Rattle.std.specs.Option.{option_map_or}
use Rattle.std.specs.Prelude.{IsOk, MatchOption}
use Rattle.fund_base.proofs.Laws.{bind_ok, told_ok}
use Rattle.fund_base.specs.Parsing.{◌>>=◌, fault_as}
use Rattle.fund_base.specs.declared.outpoint.OutPoint.{OutPoint}
use Rattle.json_fields.specs.Fields.{object_at, member_at, text_at, entries_at, hex_at, coin_at, each_from}
use Rattle.json_fields.specs.Memory.{StoresFirst, StoresList}
use Rattle.json_fields.specs.declared.fault.FieldFault.{FieldFault}
use Rattle.fee_rates.specs.Output.{dust_of}
use Rattle.segwit_addr.specs.Reading.{decode_of}
use Rattle.serde_json.specs.Data.{Data, Items, no_items, item}
use Rattle.serde_json.specs.Find.{get}
use Rattle.request_text.specs.RequestText.{field, one_of, amount_at, entry_names, entry_required, index_of, paid_at, to_address_at, to_script_at, recipient_behind, recipients_at}
use Rattle.request_text.specs.Stores.{StoresAddress, StoresScript, StoresRecipient}
use Rattle.request_text.specs.declared.fault.Refusal.{Refusal}
use Rattle.request_text.specs.declared.fault.Refusal.TheVariants.{Field, Address, Script, AmountRange, Dust, NoRecipients}
use Rattle.request_text.specs.declared.request.Recipient.{Recipient}

field_ok : {A B : Type 0} (first : Result A FieldFault) (then : A → Result B Refusal) (out : B) → (field first >>= then) ≡ Ok out → (x : A) × (first ≡ Ok x) × (then x ≡ Ok out)
field_ok first then out e = let s = bind_ok (field first) then out e in (s.0, told_ok Field first s.0 s.1, s.2)

ok : {A E : Type 0} (r : Result A E) (x : A) → r ≡ Ok x → IsOk r
ok r x e = rw e refl

address_stored : (index : ℕ) (address d : Data) (r : Recipient) → to_address_at index address d ≡ Ok r → StoresAddress address d
unfolding to_address_at
address_stored index address d r e =
    let text = field_ok (text_at (codes "address") address) _ r e in
    let amount = bind_ok (amount_at d) _ r text.2 in
    let script = bind_ok (fault_as (Address index) (decode_of text.0)) _ r amount.2 in
    rw text.1 (ok (amount_at d) amount.0 amount.1, ok (decode_of text.0) script.0 (told_ok (Address index) (decode_of text.0) script.0 script.1))

-- what is known of a script and an amount that are paid
not_empty : (n : ℕ) → (n == 0) ≡ false → 1 ≤ n
not_empty zero e = absurd (true≢false e)
not_empty (suc n) e = omega arith

fitting : (script : List ℕ) (index : ℕ) (rest : Result Recipient Refusal) (r : Recipient) → cond (length script == 0 || nat_lt 10_000 (length script)) (Err (Script index)) rest ≡ Ok r
    → ((1 ≤ length script) × (length script ≤ 10_000)) × (rest ≡ Ok r)
fitting script index rest r e = by (length script == 0) refl (nat_lt 10_000 (length script)) refl e
  where
    by : (a : Bool) → (length script == 0) ≡ a → (b : Bool) → nat_lt 10_000 (length script) ≡ b → cond (a || b) (Err (Script index)) rest ≡ Ok r → ((1 ≤ length script) × (length script ≤ 10_000)) × (rest ≡ Ok r)
    by true empty b long reads = absurd (cc reads)
    by false some true long reads = absurd (cc reads)
    by false some false most reads = ((not_empty (length script) some, ltb-false 10_000 (length script) most), reads)

in_range : (index : ℕ) (script : List ℕ) (amount : ℕ) (r : Recipient) → paid_at index script amount ≡ Ok r → amount ≤ 2_100_000_000_000_000
unfolding paid_at
in_range index script amount r e = by (nat_lt 2_100_000_000_000_000 amount) refl e
  where
    by : (b : Bool) → nat_lt 2_100_000_000_000_000 amount ≡ b → cond b (Err (AmountRange index)) (cond (nat_lt amount (dust_of script)) (Err (Dust index)) (Ok (record { script = script; amount = amount }))) ≡ Ok r → amount ≤ 2_100_000_000_000_000
    by true above reads = absurd (cc reads)
    by false most reads = ltb-false 2_100_000_000_000_000 amount most

script_stored : (index : ℕ) (d : Data) (r : Recipient) → to_script_at index d ≡ Ok r → StoresScript d
unfolding to_script_at
script_stored index d r e =
    let spelled = field_ok (member_at (codes "script") d) _ r e in
    let script = field_ok (hex_at (codes "script") spelled.0) _ r spelled.2 in
    let amount = bind_ok (amount_at d) _ r script.2 in
    let fits = fitting script.0 index _ r amount.2 in
    (rw (spelled.1, script.1) fits.0, rw amount.1 (in_range index script.0 amount.0 r fits.1))

pub recipient_stored : (before : List Recipient) (d : Data) (r : Recipient) → recipient_behind before d ≡ Ok r → StoresRecipient d
unfolding recipient_behind
recipient_stored before d r e =
    let one = field_ok (one_of (get (codes "address") d) (get (codes "script") d)) _ r e in
    let whole = field_ok (object_at (codes "recipients") entry_names entry_required d) _ r one.2 in
    (ok (one_of (get (codes "address") d) (get (codes "script") d)) one.0 one.1, inr (ok (object_at (codes "recipients") entry_names entry_required d) whole.0 whole.1, by (get (codes "address") d) whole.2))
  where
    by : (o : Option Data) → option_map_or (λ address. to_address_at (index_of (length before)) address d) o (to_script_at (index_of (length before)) d) ≡ Ok r → MatchOption o (StoresScript d) (λ address. StoresAddress address d)
    by None reads = script_stored (index_of (length before)) d r reads
    by (Some address) reads = address_stored (index_of (length before)) address d r reads

-- so had a list of recipients, which has a first one
first_stored : (entries : Items) (rs out : List Recipient) (rest : Result (List Recipient) Refusal) → each_from recipient_behind [] entries ≡ Ok rs → cond (length rs == 0) (Err NoRecipients) rest ≡ Ok out → StoresFirst StoresRecipient entries
unfolding each_from
first_stored no_items rs out rest e some =
    let same : [] ≡ rs = cc e in
    let none : Err NoRecipients ≡ Ok out = subst (λ (l : List Recipient). cond (length l == 0) (Err NoRecipients) rest ≡ Ok out) (sym same) some in
    absurd (cc none)
first_stored (item d ds) rs out rest e some = let first = bind_ok (recipient_behind [] d) _ rs e in recipient_stored [] d first.0 first.1

pub recipients_stored : (d : Data) (rs : List Recipient) → recipients_at d ≡ Ok rs → StoresList (codes "recipients") StoresRecipient d
unfolding recipients_at
recipients_stored d rs e =
    let entries = field_ok (entries_at (codes "recipients") d) _ rs e in
    let read = bind_ok (each_from recipient_behind [] entries.0) _ rs entries.2 in
    rw entries.1 (first_stored entries.0 read.0 rs _ read.1 read.2)

-- so had a list of coins that isn't empty
pub coins_stored : (entries : Items) (coins : List OutPoint) → each_from (λ _. coin_at (codes "coins")) [] entries ≡ Ok coins → length coins ≢ 0 → StoresFirst (λ e. IsOk (coin_at (codes "coins") e)) entries
unfolding each_from
coins_stored no_items coins e some = let same : [] ≡ coins = cc e in absurd (some (ap (λ (cs : List OutPoint). length cs) (sym same)))
coins_stored (item d ds) coins e some = let first = bind_ok (coin_at (codes "coins") d) _ coins e in ok (coin_at (codes "coins") d) first.0 first.1
