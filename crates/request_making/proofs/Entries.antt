-- Each recipient and each coin that is written is read as what was given.
use Rattle.std.proofs.Common.{◌≡◌, ◌<◌, ◌≤◌, ℕ, zero, suc, Bool, true, false, lit<, ltb, get_or, List, [], ◌∷◌, ◌++◌, length, Result, Ok, Err, refl, arith, map}
use Rattle.std.specs.Prelude.{All, codes, String, string_bytes}
use Rattle.std.specs.declared.alloc.Global.{Global}
use Rattle.std.specs.Option.{ok_or}
use Rattle.std.proofs.lemmas.Bool.{ltb-true}
use Rattle.std.proofs.lemmas.Bool.Decides.{nat_tests}
use Rattle.std.proofs.Math.ListN.{get_or-eq_default}
use Rattle.hex.specs.Hex.{encode_lower}
use Rattle.hex.proofs.HexLemmas.{decode_of-encode_lower}
use Rattle.serde_json.specs.Data.{Items, array, string}
use Rattle.serde_json.specs.View.{items_of}
use Rattle.fund_base.specs.Cursor.{IsBytes}
use Rattle.fund_base.specs.Parsing.{◌>>=◌}
use Rattle.fund_base.specs.declared.outpoint.OutPoint.{OutPoint}
use Rattle.json_fields.specs.Fields.{each_from, hex_at, number_at, member_at, object_at, coin_at, coin_in}
use Rattle.json_fields.specs.declared.fault.FieldFault.{FieldFault}
use Rattle.json_fields.specs.declared.fault.FieldFault.TheVariants.{Kind}
use Rattle.request_text.specs.RequestText.{index_of, recipient_behind, to_address_at, to_script_at, recipients_at, coins_at}
use Rattle.request_text.specs.declared.fault.Refusal.{Refusal}
use Rattle.request_text.specs.declared.request.Recipient.{Recipient}
use Rattle.request_making.specs.Asked.{HasBytes, IsOfBytes, whole_asked, payee_paid, payment_asked, payments_asked, recipients_asked, coins_named, coins_asked}
use Rattle.request_making.specs.Written.{coin_data, payment_data, payee_data}
use Rattle.request_making.specs.declared.payment.Payee.{Payee}
use Rattle.request_making.specs.declared.payment.Payee.TheVariants as payees
use Rattle.request_making.specs.declared.payment.Payment.{Payment}

-- bytes, at every place
byte_at : (bytes : List ℕ) (i : ℕ) (b : Bool) → ltb i (length bytes) ≡ b → IsBytes bytes → get_or bytes i 0 < 256
byte_at bytes i true within is = is i 0 (ltb-true i (length bytes) within)
byte_at bytes i false past is = let le : length bytes ≤ i = grind (arith, nat_tests) in rw (get_or-eq_default bytes 0 le) (lit< tt)

bytes_at : (bytes : List ℕ) → IsBytes bytes → (i : ℕ) → get_or bytes i 0 < 256
bytes_at bytes is i = byte_at bytes i (ltb i (length bytes)) refl is

-- hex is read back
hex_back : (bytes : List ℕ) → IsBytes bytes → hex_at (codes "script") (string (encode_lower bytes)) ≡ Ok bytes
unfolding hex_at
hex_back bytes is = rw (decode_of-encode_lower bytes (bytes_at bytes is)) refl

payee_read : (before : List Recipient) (amount : ℕ) (to : Payee) → IsOfBytes to → recipient_behind before (payee_data amount to) ≡ (whole_asked (codes "amount") amount >>= λ n. payee_paid (index_of (length before)) n to)
unfolding recipient_behind to_address_at to_script_at object_at member_at number_at
payee_read before amount (payees.Address text) is = refl
payee_read before amount (payees.Script script) is = rw (hex_back script is) refl

pub payment_read : (before : List Recipient) (p : Payment) → HasBytes p → recipient_behind before (payment_data p) ≡ payment_asked before p
payment_read before p is = payee_read before p.amount p.to is

-- the list, after others
first_has : (p : Payment) (ps : List Payment) → All HasBytes (p ∷ ps) → HasBytes p
first_has p ps is = is zero p (omega arith)

rest_has : (p : Payment) (ps : List Payment) → All HasBytes (p ∷ ps) → All HasBytes ps
rest_has p ps is = λ k d lt. is (suc k) d (omega (arith, lt))

each_after : (ds : Items) (ps : List Payment) (before : List Recipient) (r s : Result Recipient Refusal) → r ≡ s
    → ((x : Recipient) → each_from recipient_behind (before ++ x ∷ []) ds ≡ payments_asked (before ++ x ∷ []) ps)
    → (r >>= λ x. each_from recipient_behind (before ++ x ∷ []) ds) ≡ (s >>= λ x. payments_asked (before ++ x ∷ []) ps)
each_after ds ps before (Ok x) s e later = rw (← e) (later x)
each_after ds ps before (Err fault) s e later = rw (← e) refl

payments_read : (before : List Recipient) (ps : List Payment) → All HasBytes ps → each_from recipient_behind before (items_of (map payment_data ps)) ≡ payments_asked before ps
unfolding each_from payments_asked
payments_read before [] is = refl
payments_read before (p ∷ ps) is =
    each_after (items_of (map payment_data ps)) ps before (recipient_behind before (payment_data p)) (payment_asked before p) (payment_read before p (first_has p ps is))
    (λ x. payments_read (before ++ x ∷ []) ps (rest_has p ps is))

pub recipients_read : (ps : List Payment) → All HasBytes ps → recipients_at (array (items_of (map payment_data ps))) ≡ recipients_asked ps
unfolding recipients_at
recipients_read ps is = rw (payments_read [] ps is) refl

coins_after : (ds : Items) (cs : List (String Global)) (before : List OutPoint) (r : Result OutPoint FieldFault)
    → ((x : OutPoint) → each_from (λ _. coin_at (codes "coins")) (before ++ x ∷ []) ds ≡ coins_named (before ++ x ∷ []) cs)
    → (r >>= λ x. each_from (λ _. coin_at (codes "coins")) (before ++ x ∷ []) ds) ≡ (r >>= λ x. coins_named (before ++ x ∷ []) cs)
coins_after ds cs before (Ok x) later = later x
coins_after ds cs before (Err fault) later = refl

coins_read_from : (before : List OutPoint) (cs : List (String Global)) → each_from (λ _. coin_at (codes "coins")) before (items_of (map coin_data cs)) ≡ coins_named before cs
unfolding each_from coins_named coin_at
coins_read_from before [] = refl
coins_read_from before (c ∷ cs) = coins_after (items_of (map coin_data cs)) cs before (ok_or (coin_in (string_bytes c)) (Kind (codes "coins"))) (λ x. coins_read_from (before ++ x ∷ []) cs)

pub coins_read : (cs : List (String Global)) → coins_at (array (items_of (map coin_data cs))) ≡ coins_asked cs
unfolding coins_at
coins_read cs = rw (coins_read_from [] cs) refl
