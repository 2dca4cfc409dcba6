-- The faults of the entries and lists of a wallet file, from what is wrong with them.
use Rattle.std.proofs.Common.{◌≡◌, ◌≢◌, ℕ, Bool, true, false, cond, List, [], ◌∷◌, codes, Result, Ok, Err, refl, sym, ap, ◌∙◌, inl, inr, ◌⊎◌, nat_lt, not, ◌||◌}
use Rattle.std.specs.Prelude.{◌↔◌}
use Rattle.fund_base.specs.Parsing.{◌>>=◌, fault_as}
use Rattle.json_fields.specs.Fields.{coin_at, each_from, entries_at, hash_at, hex_at, is_among}
use Rattle.json_fields.specs.Rules.{HasMembers, IsLeastUnknown}
use Rattle.json_fields.specs.declared.fault.FieldFault.{FieldFault}
use Rattle.json_fields.specs.declared.fault.FieldFault.TheVariants.{Kind, Member, Missing}
use Rattle.serde_json.specs.Data.{Data}
use Rattle.tx_codec.specs.Transaction.{Transaction}
use Rattle.tx_codec.specs.declared.fault.TxFault.{TxFault}
use Rattle.wallet_text.specs.TxEntries.{transaction_of}
use Rattle.wallet_text.specs.WalletText.{field, told_index, has_script_length, judged, watch_at, script_in, change_at, earlier_at, earlier_in, pending_in, tx_in, script_behind, earlier_behind, pending_behind, scripts_at, earlier_list_at, pending_list_at, abandoned_list_at, locked_list_at}
use Rattle.wallet_text.specs.declared.fault.Refusal.{Refusal}
use Rattle.wallet_text.specs.declared.fault.Refusal.TheVariants.{Field, Script, Weight, Tx}
use Rattle.wallet_text.specs.declared.wallet.Watch.{Watch}
use Rattle.wallet_text.specs.PlainWallet.{Earlier}
use Rattle.entry_laws.specs.Entries.{IsFormFault}
use Rattle.entry_laws.specs.Forms.{IsLacking, IsListFault, IsNoHex, IsWrongKind}
use Rattle.entry_laws.proofs.ListFaults as lists
use Rattle.entry_laws.proofs.ObjectFaults.{IsOfForm}
use Rattle.entry_laws.proofs.PairFaults as pairs
use Rattle.entry_laws.proofs.ValueFaults.{hex_law}

-- ---- a form that is read first

-- What follows a form tells no fault of a form: so the form tells it.
form_first : {A B : Type 0} (r : Result A FieldFault) (then : A → Result B Refusal) → ((x : A) (fault : FieldFault) → then x ≢ Err (Field fault)) → (fault : FieldFault) → ((field r >>= then) ≡ Err (Field fault)) ↔ (r ≡ Err fault)
form_first {A} {B} r then never fault = (λ e. by r refl e, λ e. ap (λ s. field s >>= then) e)
  where
    by : (s : Result A FieldFault) → r ≡ s → (field s >>= then) ≡ Err (Field fault) → r ≡ Err fault
    by (Ok x) is e = absurd (never x fault e)
    by (Err other) is e = let same : other ≡ fault = cc in is ∙ ap (λ f. Err f) same

chained : {P Q R : Type 0} → P ↔ Q → Q ↔ R → P ↔ R
chained pq qr = (λ p. qr.0 (pq.0 p), λ r. pq.1 (qr.1 r))

-- a fault of the form, as the reader of a wallet holds it
held : (fault : FieldFault) (refusal : Refusal) → refusal ≡ Field fault → IsOfForm fault → IsFormFault refusal
held fault refusal is form = (form.0, by form.1)
  where
    by : (fault ≡ Kind form.0) ⊎ ((fault ≡ Member form.0) ⊎ (fault ≡ Missing form.0)) → (refusal ≡ Field (Kind form.0)) ⊎ ((refusal ≡ Field (Member form.0)) ⊎ (refusal ≡ Field (Missing form.0)))
    by (inl kind) = inl (is ∙ ap (λ f. Field f) kind)
    by (inr (inl member)) = inr (inl (is ∙ ap (λ f. Field f) member))
    by (inr (inr missing)) = inr (inr (is ∙ ap (λ f. Field f) missing))

-- ---- scripts and change

data Judged (index : ℕ) (r : Result Watch Refusal) : Type 0 where
  bad_script : r ≡ Err (Script (told_index index)) → Judged index r
  bad_weight : r ≡ Err (Weight (told_index index)) → Judged index r
  good : (w : Watch) → r ≡ Ok w → Judged index r

judged_as : (listed : Bool) (index : ℕ) (w : Watch) → Judged index (judged listed index w)
unfolding judged
judged_as listed index w = by (listed || not (has_script_length w.script)) (nat_lt w.weight 165 || nat_lt 400000 w.weight)
  where
    by : (s t : Bool) → Judged index (cond s (Err (Script (told_index index))) (cond t (Err (Weight (told_index index))) (Ok w)))
    by true t = bad_script refl
    by false true = bad_weight refl
    by false false = good w refl

no_form : (listed : Bool) (index : ℕ) (w : Watch) (fault : FieldFault) → judged listed index w ≢ Err (Field fault)
no_form listed index w fault e = by (judged_as listed index w)
  where
    by : Judged index (judged listed index w) → ⊥
    by (bad_script reads) = cc (reads, e)
    by (bad_weight reads) = cc (reads, e)
    by (good v reads) = cc (reads, e)

make_watch : List ℕ → ℕ → Watch
make_watch script weight = record { script = script; weight = weight }

watch_pair : (whole : List ℕ) (d : Data) → watch_at whole d ≡ pairs.pair_at make_watch whole (codes "script") (codes "weight") 18_446_744_073_709_551_615 d
unfolding watch_at make_watch
watch_pair whole d = refl

watch_reads : (whole : List ℕ) (d : Data) (r : Result Watch FieldFault) → (watch_at whole d ≡ r) ↔ (pairs.pair_at make_watch whole (codes "script") (codes "weight") 18_446_744_073_709_551_615 d ≡ r)
watch_reads whole d r = (λ e. sym (watch_pair whole d) ∙ e, λ e. watch_pair whole d ∙ e)

watch_kind : (whole : List ℕ) (d : Data) (name : List ℕ) → (watch_at whole d ≡ Err (Kind name)) ↔ IsWrongKind whole (codes "script") (codes "weight") 18_446_744_073_709_551_615 d name
watch_kind whole d name = chained (watch_reads whole d (Err (Kind name))) (pairs.kind_law make_watch whole (codes "script") (codes "weight") 18_446_744_073_709_551_615 d name)

watch_member : (whole : List ℕ) (d : Data) (name : List ℕ) → (watch_at whole d ≡ Err (Member name)) ↔ HasMembers d (λ ms. IsLeastUnknown (codes "script" ∷ codes "weight" ∷ []) ms name)
watch_member whole d name = chained (watch_reads whole d (Err (Member name))) (pairs.member_law make_watch whole (codes "script") (codes "weight") 18_446_744_073_709_551_615 d name)

watch_missing : (whole : List ℕ) (d : Data) (name : List ℕ) → (watch_at whole d ≡ Err (Missing name)) ↔ IsLacking (codes "script" ∷ codes "weight" ∷ []) (codes "script" ∷ codes "weight" ∷ []) d name
watch_missing whole d name = chained (watch_reads whole d (Err (Missing name))) (pairs.missing_law make_watch whole (codes "script") (codes "weight") 18_446_744_073_709_551_615 d name)

script_form : (index : ℕ) (before : List (List ℕ)) (d : Data) (fault : FieldFault) → (script_in index before d ≡ Err (Field fault)) ↔ (watch_at (codes "scripts") d ≡ Err fault)
unfolding script_in
script_form index before d fault = form_first (watch_at (codes "scripts") d) (λ w. judged (is_among before w.script) index w) (λ w f. no_form (is_among before w.script) index w f) fault

change_form : (count : ℕ) (d : Data) (fault : FieldFault) → (change_at count d ≡ Err (Field fault)) ↔ (watch_at (codes "change") d ≡ Err fault)
unfolding change_at
change_form count d fault = form_first (watch_at (codes "change") d) (λ w. judged false count w) (λ w f. no_form false count w f) fault

abbrev WatchFault : Refusal → Type 0
WatchFault fault = IsFormFault fault ⊎ ((told : ℕ) × ((fault ≡ Script told) ⊎ (fault ≡ Weight told)))

-- no entry has another fault
watch_other : (whole : List ℕ) (d : Data) (listed : Watch → Bool) (index : ℕ) (fault : Refusal) → (field (watch_at whole d) >>= λ w. judged (listed w) index w) ≡ Err fault → WatchFault fault
watch_other whole d listed index fault e = by (watch_at whole d) refl e
  where
    judges : (w : Watch) → judged (listed w) index w ≡ Err fault → Judged index (judged (listed w) index w) → WatchFault fault
    judges w reads (bad_script is) = inr (told_index index, inl (cc (is, reads)))
    judges w reads (bad_weight is) = inr (told_index index, inr (cc (is, reads)))
    judges w reads (good v is) = absurd (cc (is, reads))

    by : (r : Result Watch FieldFault) → watch_at whole d ≡ r → (field r >>= λ w. judged (listed w) index w) ≡ Err fault → WatchFault fault
    by (Ok w) is reads = judges w reads (judged_as (listed w) index w)
    by (Err f) is reads =
        let same : fault ≡ Field f = cc in
        let form : IsOfForm f = pairs.form_law make_watch whole (codes "script") (codes "weight") 18_446_744_073_709_551_615 d f (sym (watch_pair whole d) ∙ is) in
        inl (held f fault same form)

pub script_kind : (index : ℕ) (before : List (List ℕ)) (d : Data) (name : List ℕ) → (script_in index before d ≡ Err (Field (Kind name))) ↔ IsWrongKind (codes "scripts") (codes "script") (codes "weight") 18_446_744_073_709_551_615 d name
script_kind index before d name = chained (script_form index before d (Kind name)) (watch_kind (codes "scripts") d name)

pub script_member : (index : ℕ) (before : List (List ℕ)) (d : Data) (name : List ℕ) → (script_in index before d ≡ Err (Field (Member name))) ↔ HasMembers d (λ ms. IsLeastUnknown (codes "script" ∷ codes "weight" ∷ []) ms name)
script_member index before d name = chained (script_form index before d (Member name)) (watch_member (codes "scripts") d name)

pub script_missing : (index : ℕ) (before : List (List ℕ)) (d : Data) (name : List ℕ) → (script_in index before d ≡ Err (Field (Missing name))) ↔ IsLacking (codes "script" ∷ codes "weight" ∷ []) (codes "script" ∷ codes "weight" ∷ []) d name
script_missing index before d name = chained (script_form index before d (Missing name)) (watch_missing (codes "scripts") d name)

pub script_other : (index : ℕ) (before : List (List ℕ)) (d : Data) (fault : Refusal) → script_in index before d ≡ Err fault → WatchFault fault
unfolding script_in
script_other index before d fault e = watch_other (codes "scripts") d (λ w. is_among before w.script) index fault e

pub change_kind : (count : ℕ) (d : Data) (name : List ℕ) → (change_at count d ≡ Err (Field (Kind name))) ↔ IsWrongKind (codes "change") (codes "script") (codes "weight") 18_446_744_073_709_551_615 d name
change_kind count d name = chained (change_form count d (Kind name)) (watch_kind (codes "change") d name)

pub change_member : (count : ℕ) (d : Data) (name : List ℕ) → (change_at count d ≡ Err (Field (Member name))) ↔ HasMembers d (λ ms. IsLeastUnknown (codes "script" ∷ codes "weight" ∷ []) ms name)
change_member count d name = chained (change_form count d (Member name)) (watch_member (codes "change") d name)

pub change_missing : (count : ℕ) (d : Data) (name : List ℕ) → (change_at count d ≡ Err (Field (Missing name))) ↔ IsLacking (codes "script" ∷ codes "weight" ∷ []) (codes "script" ∷ codes "weight" ∷ []) d name
change_missing count d name = chained (change_form count d (Missing name)) (watch_missing (codes "change") d name)

pub change_other : (count : ℕ) (d : Data) (fault : Refusal) → change_at count d ≡ Err fault → WatchFault fault
unfolding change_at
change_other count d fault e = watch_other (codes "change") d (λ w. false) count fault e

-- ---- earlier and pending

-- what becomes of a transaction's bytes
data Read (list : List ℕ) (index : ℕ) (r : Result Transaction Refusal) : Type 0 where
  no_tx : (cause : TxFault) → r ≡ Err (Tx list (told_index index) cause) → Read list index r
  tx : (t : Transaction) → r ≡ Ok t → Read list index r

tx_read : (list : List ℕ) (index : ℕ) (bytes : List ℕ) → Read list index (tx_in list index bytes)
unfolding tx_in
tx_read list index bytes = by (transaction_of bytes)
  where
    by : (r : Result Transaction TxFault) → Read list index (fault_as (Tx list (told_index index)) r)
    by (Ok t) = tx t refl
    by (Err cause) = no_tx cause refl

-- it and what is made of it tell no other fault
tx_alone : {B : Type 0} (list : List ℕ) (index : ℕ) (bytes : List ℕ) (make : Transaction → B) (fault : Refusal) → (tx_in list index bytes >>= λ t. Ok (make t)) ≡ Err fault → (cause : TxFault) × (fault ≡ Tx list (told_index index) cause)
tx_alone {B} list index bytes make fault e = by (tx_read list index bytes)
  where
    by : Read list index (tx_in list index bytes) → (cause : TxFault) × (fault ≡ Tx list (told_index index) cause)
    by (no_tx cause is) =
        let told : (tx_in list index bytes >>= λ t. Ok (make t)) ≡ Err (Tx list (told_index index) cause) = ap (λ r. r >>= λ t. Ok (make t)) is in
        (cause, cc (told, e))
    by (tx t is) =
        let taken : (tx_in list index bytes >>= λ t. Ok (make t)) ≡ Ok (make t) = ap (λ r. r >>= λ t. Ok (make t)) is in
        absurd (cc (taken, e))

abbrev TxOther : Refusal → Type 0
TxOther fault = (list : List ℕ) × (told : ℕ) × (cause : TxFault) × (fault ≡ Tx list told cause)

make_earlier : ℕ → Transaction → Earlier
make_earlier height t = record { tx = t; height = height }

make_bytes : List ℕ → ℕ → List ℕ × ℕ
make_bytes bytes height = (bytes, height)

earlier_pair : (most : ℕ) (d : Data) → earlier_at most d ≡ pairs.pair_at make_bytes (codes "earlier") (codes "tx") (codes "height") most d
unfolding earlier_at make_bytes
earlier_pair most d = refl

earlier_reads : (most : ℕ) (d : Data) (r : Result (List ℕ × ℕ) FieldFault) → (earlier_at most d ≡ r) ↔ (pairs.pair_at make_bytes (codes "earlier") (codes "tx") (codes "height") most d ≡ r)
earlier_reads most d r = (λ e. sym (earlier_pair most d) ∙ e, λ e. earlier_pair most d ∙ e)

-- what is read of an entry behind its form
earlier_behind_form : (most index : ℕ) (d : Data) → earlier_in most index d ≡ (field (earlier_at most d) >>= λ p. tx_in (codes "earlier") index p.0 >>= λ t. Ok (make_earlier p.1 t))
unfolding earlier_in make_earlier
earlier_behind_form most index d = refl

earlier_form : (most index : ℕ) (d : Data) (fault : FieldFault) → (earlier_in most index d ≡ Err (Field fault)) ↔ (earlier_at most d ≡ Err fault)
earlier_form most index d fault = chained (λ e. sym (earlier_behind_form most index d) ∙ e, λ e. earlier_behind_form most index d ∙ e)
    (form_first (earlier_at most d) (λ p. tx_in (codes "earlier") index p.0 >>= λ t. Ok (make_earlier p.1 t)) (λ p f e. let told = tx_alone (codes "earlier") index p.0 (make_earlier p.1) (Field f) e in cc told.1) fault)

pub earlier_kind : (most index : ℕ) (d : Data) (name : List ℕ) → (earlier_in most index d ≡ Err (Field (Kind name))) ↔ IsWrongKind (codes "earlier") (codes "tx") (codes "height") most d name
earlier_kind most index d name = chained (earlier_form most index d (Kind name)) (chained (earlier_reads most d (Err (Kind name))) (pairs.kind_law make_bytes (codes "earlier") (codes "tx") (codes "height") most d name))

pub earlier_member : (most index : ℕ) (d : Data) (name : List ℕ) → (earlier_in most index d ≡ Err (Field (Member name))) ↔ HasMembers d (λ ms. IsLeastUnknown (codes "tx" ∷ codes "height" ∷ []) ms name)
earlier_member most index d name = chained (earlier_form most index d (Member name)) (chained (earlier_reads most d (Err (Member name))) (pairs.member_law make_bytes (codes "earlier") (codes "tx") (codes "height") most d name))

pub earlier_missing : (most index : ℕ) (d : Data) (name : List ℕ) → (earlier_in most index d ≡ Err (Field (Missing name))) ↔ IsLacking (codes "tx" ∷ codes "height" ∷ []) (codes "tx" ∷ codes "height" ∷ []) d name
earlier_missing most index d name = chained (earlier_form most index d (Missing name)) (chained (earlier_reads most d (Err (Missing name))) (pairs.missing_law make_bytes (codes "earlier") (codes "tx") (codes "height") most d name))

pub earlier_other : (most index : ℕ) (d : Data) (fault : Refusal) → earlier_in most index d ≡ Err fault → IsFormFault fault ⊎ TxOther fault
earlier_other most index d fault e = by (earlier_at most d) refl (sym (earlier_behind_form most index d) ∙ e)
  where
    by : (r : Result (List ℕ × ℕ) FieldFault) → earlier_at most d ≡ r → (field r >>= λ p. tx_in (codes "earlier") index p.0 >>= λ t. Ok (make_earlier p.1 t)) ≡ Err fault → IsFormFault fault ⊎ TxOther fault
    by (Ok p) is reads = let told = tx_alone (codes "earlier") index p.0 (make_earlier p.1) fault reads in inr (codes "earlier", told_index index, told.0, told.1)
    by (Err f) is reads =
        let same : fault ≡ Field f = cc in
        let form : IsOfForm f = pairs.form_law make_bytes (codes "earlier") (codes "tx") (codes "height") most d f (sym (earlier_pair most d) ∙ is) in
        inl (held f fault same form)

-- a transaction's bytes alone tell no fault of a form
tx_no_form : (list : List ℕ) (index : ℕ) (bytes : List ℕ) (fault : FieldFault) → tx_in list index bytes ≢ Err (Field fault)
tx_no_form list index bytes fault e = by (tx_read list index bytes)
  where
    by : Read list index (tx_in list index bytes) → ⊥
    by (no_tx cause is) = cc (is, e)
    by (tx t is) = cc (is, e)

pub pending_form : (index : ℕ) (d : Data) (fault : FieldFault) → (pending_in index d ≡ Err (Field fault)) ↔ ((fault ≡ Kind (codes "pending")) × IsNoHex d)
unfolding pending_in
pending_form index d fault = chained (form_first (hex_at (codes "pending") d) (λ bytes. tx_in (codes "pending") index bytes) (λ bytes f. tx_no_form (codes "pending") index bytes f) fault) (hex_law (codes "pending") d fault)

pub pending_other : (index : ℕ) (d : Data) (fault : Refusal) → pending_in index d ≡ Err fault → (fault ≡ Field (Kind (codes "pending"))) ⊎ TxOther fault
unfolding pending_in
pending_other index d fault e = by (hex_at (codes "pending") d) refl e
  where
    read : (bytes : List ℕ) → tx_in (codes "pending") index bytes ≡ Err fault → Read (codes "pending") index (tx_in (codes "pending") index bytes) → (fault ≡ Field (Kind (codes "pending"))) ⊎ TxOther fault
    read bytes reads (no_tx cause is) = inr (codes "pending", told_index index, cause, cc (is, reads))
    read bytes reads (tx t is) = absurd (cc (is, reads))

    by : (r : Result (List ℕ) FieldFault) → hex_at (codes "pending") d ≡ r → (field r >>= λ bytes. tx_in (codes "pending") index bytes) ≡ Err fault → (fault ≡ Field (Kind (codes "pending"))) ⊎ TxOther fault
    by (Ok bytes) is reads = read bytes reads (tx_read (codes "pending") index bytes)
    by (Err f) is reads =
        let same : fault ≡ Field f = cc in
        inl (same ∙ ap (λ x. Field x) ((hex_law (codes "pending") d f).0 is).0)

-- ---- lists

pub scripts_law : (d : Data) (fault : Refusal) → (scripts_at d ≡ Err fault) ↔ IsListFault Field (codes "scripts") script_behind d fault
unfolding scripts_at
scripts_law d fault = lists.law Field (codes "scripts") script_behind d fault

pub earlier_law : (most : ℕ) (d : Data) (fault : Refusal) → (earlier_list_at most d ≡ Err fault) ↔ IsListFault Field (codes "earlier") (earlier_behind most) d fault
unfolding earlier_list_at
earlier_law most d fault = lists.law Field (codes "earlier") (earlier_behind most) d fault

pub pending_law : (d : Data) (fault : Refusal) → (pending_list_at d ≡ Err fault) ↔ IsListFault Field (codes "pending") pending_behind d fault
unfolding pending_list_at
pending_law d fault = lists.law Field (codes "pending") pending_behind d fault

-- a fault that is told as it is
plain : {X : Type 0} (r : Result X FieldFault) → fault_as (λ f. f) r ≡ r
plain (Ok x) = refl
plain (Err f) = refl

pub abandoned_law : (d : Data) (fault : FieldFault) → (abandoned_list_at d ≡ Err fault) ↔ IsListFault (λ f. f) (codes "abandoned") (λ _. hash_at (codes "abandoned")) d fault
unfolding abandoned_list_at
abandoned_law d fault =
    let same = ap (λ r. r >>= λ items. each_from (λ _. hash_at (codes "abandoned")) [] items) (plain (entries_at (codes "abandoned") d)) in
    chained (λ e. same ∙ e, λ e. sym same ∙ e) (lists.law (λ f. f) (codes "abandoned") (λ _. hash_at (codes "abandoned")) d fault)

pub locked_law : (d : Data) (fault : FieldFault) → (locked_list_at d ≡ Err fault) ↔ IsListFault (λ f. f) (codes "locked") (λ _. coin_at (codes "locked")) d fault
unfolding locked_list_at
locked_law d fault =
    let same = ap (λ r. r >>= λ items. each_from (λ _. coin_at (codes "locked")) [] items) (plain (entries_at (codes "locked") d)) in
    chained (λ e. same ∙ e, λ e. sym same ∙ e) (lists.law (λ f. f) (codes "locked") (λ _. coin_at (codes "locked")) d fault)
