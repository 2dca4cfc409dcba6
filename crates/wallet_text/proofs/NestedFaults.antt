-- A refused transaction has a fault of its own, which isn't out of memory.
use Rattle.std.proofs.Common.{◌≡◌, ◌≢◌, ℕ, Bool, true, false, cond, List, [], ◌∷◌, ◌++◌, length, Option, Some, None, Result, Ok, Err, ap}
use Rattle.std.specs.Prelude.{codes}
use Rattle.serde_json.specs.Data.{Data, Items, no_items, item}
use Rattle.serde_json.specs.Find.{get}
use Rattle.fund_base.specs.Parsing.{◌>>=◌, fault_as, whole_of}
use Rattle.json_fields.specs.Fields.{value_of, object_at, member_at, optional, number_at, hash_at, each_from, refuse}
use Rattle.json_fields.specs.declared.fault.FieldFault.{FieldFault}
use Rattle.tx_codec.specs.Reading.{tx_at}
use Rattle.tx_codec.specs.Transaction.{Transaction}
use Rattle.tx_codec.specs.declared.fault.TxFault.{TxFault}
use Rattle.tx_codec.specs.declared.fault.TxFault.TheVariants.{Trailing, Memory}
use Rattle.wallet_text.specs.WalletText.{field, told_index, judged, script_in, script_behind, change_at, tx_in, earlier_in, earlier_behind, pending_in, pending_behind, scripts_at, earlier_list_at, pending_list_at, abandoned_list_at, locked_list_at, txids_of, earlier_txids, repeat_from, lists_at, required_names, known_names, wallet_at, wallet_of}
use Rattle.wallet_text.specs.declared.fault.Refusal.{Refusal}
use Rattle.wallet_text.specs.declared.fault.Refusal.TheVariants.{Script, Weight, Tx, Repeat, ParentLater}
use Rattle.wallet_text.specs.declared.wallet.Watch.{Watch}
use Rattle.wallet_text.specs.PlainWallet.{Earlier}
use Rattle.tx_codec.proofs.OwnFaults.{whole_never}

-- no transaction is refused for being out of memory
pub record HasReasons {A : Type 0} (read : Result A Refusal) : Type 0 where
  pub never : (list : List ℕ) (index : ℕ) → read ≢ Err (Tx list index Memory)

ok_has : {A : Type 0} (x : A) → HasReasons {A = A} (Ok x)
ok_has x = record { never = λ list index e. absurd (cc e) }

bind_has : {A B : Type 0} (first : Result A Refusal) (then : A → Result B Refusal) → HasReasons first → ((x : A) → HasReasons (then x)) → HasReasons (first >>= then)
bind_has (Ok x) then here later = later x
bind_has (Err fault) then here later = record { never = λ list index e. let same : fault ≡ Tx list index Memory = cc e in here.never list index (ap Err same) }

field_has : {A : Type 0} (read : Result A FieldFault) → HasReasons (field read)
field_has (Ok x) = ok_has x
field_has (Err fault) = record { never = λ list index e. absurd (cc e) }

cond_has : {A : Type 0} (b : Bool) (x y : Result A Refusal) → HasReasons x → HasReasons y → HasReasons (cond b x y)
cond_has true x y p q = p
cond_has false x y p q = q

repeat_has : (list : List ℕ) (o : Option ℕ) → HasReasons (refuse (λ i. Repeat list (told_index i)) o)
repeat_has list None = ok_has tt
repeat_has list (Some x) = record { never = λ other i e. absurd (cc e) }

later_has : (o : Option ℕ) → HasReasons (refuse (λ i. ParentLater (told_index i)) o)
later_has None = ok_has tt
later_has (Some x) = record { never = λ other i e. absurd (cc e) }

optional_has : {A : Type 0} (default : A) (reading : Data → Result A Refusal) (o : Option Data) → ((d : Data) → HasReasons (reading d)) → HasReasons (optional default reading o)
optional_has default reading None each = ok_has default
optional_has default reading (Some d) each = each d

each_has : {A : Type 0} (reading : List A → Data → Result A Refusal) → ((front : List A) (d : Data) → HasReasons (reading front d)) → (entries : Items) (front : List A) → HasReasons (each_from reading front entries)
unfolding each_from
each_has reading each no_items front = ok_has front
each_has reading each (item d ds) front = bind_has (reading front d) _ (each front d) (λ x. each_has reading each ds (front ++ x ∷ []))

script_has_reason : (index : ℕ) → HasReasons {A = Watch} (Err (Script index))
script_has_reason index = record { never = λ list i e. absurd (cc e) }

weight_has_reason : (index : ℕ) → HasReasons {A = Watch} (Err (Weight index))
weight_has_reason index = record { never = λ list i e. absurd (cc e) }

judged_has : (listed : Bool) (index : ℕ) (w : Watch) → HasReasons (judged listed index w)
unfolding judged
judged_has listed index w = cond_has _ _ _ (script_has_reason _) (cond_has _ _ _ (weight_has_reason _) (ok_has w))

tx_has : (list : List ℕ) (index : ℕ) (bytes : List ℕ) → HasReasons (tx_in list index bytes)
unfolding tx_in
tx_has list index bytes = by (whole_of Trailing (tx_at (record { rest = bytes; place = 0 }))) (whole_never (record { rest = bytes; place = 0 }))
  where
    by : (read : Result Transaction TxFault) → (read ≡ Err Memory → ⊥) → HasReasons (fault_as (Tx list (told_index index)) read)
    by (Ok t) never = ok_has t
    by (Err fault) never = record { never = λ other i e. let same : fault ≡ Memory = cc e in never (ap Err same) }

script_has : (index : ℕ) (before : List (List ℕ)) (d : Data) → HasReasons (script_in index before d)
unfolding script_in
script_has index before d = bind_has _ _ (field_has _) (λ w. judged_has _ index w)

change_has : (count : ℕ) (d : Data) → HasReasons (change_at count d)
unfolding change_at
change_has count d = bind_has _ _ (field_has _) (λ w. judged_has _ count w)

earlier_has : (most index : ℕ) (d : Data) → HasReasons (earlier_in most index d)
unfolding earlier_in
earlier_has most index d = bind_has _ _ (field_has _) (λ e. bind_has _ _ (tx_has _ index e.0) (λ t. ok_has _))

pending_has : (index : ℕ) (d : Data) → HasReasons (pending_in index d)
unfolding pending_in
pending_has index d = bind_has _ _ (field_has _) (λ bytes. tx_has _ index bytes)

scripts_has : (d : Data) → HasReasons (scripts_at d)
unfolding scripts_at
scripts_has d = bind_has _ _ (field_has _) (λ entries. each_has script_behind (λ front x. script_has _ _ x) entries [])

earlier_list_has : (most : ℕ) (d : Data) → HasReasons (earlier_list_at most d)
unfolding earlier_list_at
earlier_list_has most d = bind_has _ _ (field_has _) (λ entries. each_has (earlier_behind most) (λ front x. earlier_has most _ x) entries [])

pending_list_has : (d : Data) → HasReasons (pending_list_at d)
unfolding pending_list_at
pending_list_has d = bind_has _ _ (field_has _) (λ entries. each_has pending_behind (λ front x. pending_has _ x) entries [])

lists_has : (earlier : List Earlier) (pending : List Transaction) → HasReasons (lists_at earlier pending)
unfolding lists_at
lists_has earlier pending =
    bind_has (refuse (λ i. Repeat _ (told_index i)) (repeat_from [] (earlier_txids earlier))) _ (repeat_has _ _) (λ a.
    bind_has (refuse (λ i. Repeat _ (told_index i)) (repeat_from [] (txids_of pending))) _ (repeat_has _ _) (λ b.
    later_has _))

wallet_has : (d : Data) → HasReasons (wallet_at d)
unfolding wallet_at
wallet_has d =
    bind_has (field (object_at (codes "root") known_names required_names d)) _ (field_has _) (λ whole.
    bind_has (field (member_at (codes "height") d)) _ (field_has _) (λ g.
    bind_has (field (number_at (codes "height") 100000000 g)) _ (field_has _) (λ height.
    bind_has (field (member_at (codes "hash") d)) _ (field_has _) (λ h.
    bind_has (field (hash_at (codes "hash") h)) _ (field_has _) (λ hash.
    bind_has (field (member_at (codes "scripts") d)) _ (field_has _) (λ s.
    bind_has (scripts_at s) _ (scripts_has s) (λ scripts.
    bind_has (field (member_at (codes "change") d)) _ (field_has _) (λ x.
    bind_has (change_at (length scripts) x) _ (change_has (length scripts) x) (λ change.
    bind_has (optional [] (earlier_list_at height) (get (codes "earlier") d)) _ (optional_has _ _ _ (earlier_list_has height)) (λ earlier.
    bind_has (optional [] pending_list_at (get (codes "pending") d)) _ (optional_has _ _ _ pending_list_has) (λ pending.
    bind_has (field (optional [] abandoned_list_at (get (codes "abandoned") d))) _ (field_has _) (λ abandoned.
    bind_has (field (optional [] locked_list_at (get (codes "locked") d))) _ (field_has _) (λ locked.
    bind_has (lists_at earlier pending) _ (lists_has earlier pending) (λ lists. ok_has _))))))))))))))

pub file_has : (bytes : List ℕ) → HasReasons (wallet_of bytes)
unfolding wallet_of
file_has bytes = bind_has (field (value_of bytes)) _ (field_has _) wallet_has
