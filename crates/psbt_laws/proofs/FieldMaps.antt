-- What the maps of inputs and outputs of version 2 must hold: which of them is the first that doesn't.
use Rattle.std.proofs.Common.{◌≡◌, ◌+◌, ◌<◌, ◌≤◌, ℕ, zero, suc, Bool, true, false, cond, List, [], ◌∷◌, ◌++◌, length, Result, Ok, Err, refl, sym, ap, subst, arith, length-append}
use Rattle.std.specs.Prelude.{Option, Some, None, option_and_then, is_some, nat_lt, Contains, ⊤}
use Rattle.std.specs.Int.{w32, w64, to_le_bytes}
use Rattle.std.proofs.lemmas.Bool.{ltb-true, ltb-false, lt-ltb, le-ltb}
use Rattle.std.proofs.lemmas.List.Elements.{All-contains}
use Rattle.fund_base.specs.Cursor.{At, IsBytes}
use Rattle.fund_base.specs.Parsing.{◌>>=◌, many_from}
use Rattle.fund_base.specs.declared.outpoint.OutPoint.{OutPoint}
use Rattle.fund_base.proofs.Laws.{guard_ok}
use Rattle.tx_codec.specs.declared.fault.TxFault.TheVariants as txs
use Rattle.tx_codec.specs.declared.tx.TxIn.{TxIn}
use Rattle.tx_codec.specs.declared.tx.TxOut.{TxOut}
use Rattle.psbt_codec.specs.declared.fault.PsbtFault.{PsbtFault}
use Rattle.psbt_codec.specs.declared.fault.PsbtFault.TheVariants as faults
use Rattle.psbt_codec.specs.declared.pairs.Part.{Part}
use Rattle.psbt_codec.specs.declared.pairs.Part.TheVariants.{InputFields, OutputFields}
use Rattle.psbt_codec.specs.declared.psbt.Spent.{Spent}
use Rattle.psbt_codec.specs.Psbt.{Pair, typed, IsPair, IsString, RequiresLock}
use Rattle.psbt_codec.specs.Fault.{shown}
use Rattle.psbt_codec.specs.Reading.{map_at, needed, value_of, number32_in, number64_in, txid_in, fits_input, has_lock, input_fields_at, input_in, next_input_fields, next_output_fields, output_fields_at, output_in, sequence_in, spent_in, unsigned_input}
use Rattle.psbt_codec.proofs.Decoded.{Decodes, number32_decodes, number64_decodes, txid_decodes}
use Rattle.psbt_codec.proofs.OwnFields.{lock_there, no_lock, there_lock, unlocked}
use Rattle.tx_codec.proofs.Outputs.{worth}
use Rattle.tx_laws.specs.Broken.{IsFirst}
use Rattle.tx_laws.proofs.Cuts.{guard_told}
use Rattle.tx_laws.proofs.Judged.{Judged, judged_is}
use Rattle.psbt_laws.specs.Fields.{Field, Breaks, meant}
use Rattle.psbt_laws.specs.Fields.Field.{End, Parent, Unlocked, Worth}
use Rattle.psbt_laws.specs.Order.{ArePairs, HasParent, InputFieldsCome, IsNumber32, IsNumber64, IsTxid, OutputFieldsCome, Tested}
use Rattle.psbt_laws.proofs.Keys.{decoded, some4, some8, some32}
use Rattle.psbt_laws.proofs.Pairs.{map_then}
use Rattle.psbt_laws.proofs.Payments.{parent_judged, whole_in, wrong_parent}
use Rattle.psbt_laws.proofs.Steps.{Tellings, needed_then, tested_then}

-- ---- what is told under each type

string_there : (part : Part) (pairs : List Pair) → ArePairs part pairs → (kind : ℕ) (value : List ℕ) → Contains pairs (typed kind value) → IsString value
string_there part pairs are kind value there = (All-contains (IsPair (meant part)) pairs (typed kind value) are.pairs_fit.each there).value_fits

tellings : {X : Type 0} (decode : List ℕ → Option X) (text : X → List ℕ) (Fits : X → Type 0) → Decodes decode text Fits → (part : Part) (kind : ℕ) (pairs : List Pair) → kind < 253 → ArePairs part pairs
    → ((value : List ℕ) → IsBytes value → Contains pairs (typed kind value) → is_some (decode value) ≡ true) → Tellings decode text Fits kind pairs
tellings decode text Fits laws part kind pairs small are right = record {
  small = small;
  distinct = are.pairs_fit.distinct;
  holds = λ value there.
      let s = string_there part pairs are kind value there in
      decoded decode text Fits laws value s.0 (right value s.0 there);
  again = laws.again;
}

txid_tellings : (pairs : List Pair) → ArePairs InputFields pairs → Tellings txid_in (λ (txid : List ℕ). txid) IsTxid 14 pairs
txid_tellings pairs are = tellings txid_in (λ (txid : List ℕ). txid) IsTxid txid_decodes InputFields 14 pairs (omega arith) are (λ value fits there. some32 value fits ((are.values 14 value (omega arith) there).txid refl))

index_tellings : (pairs : List Pair) → ArePairs InputFields pairs → Tellings number32_in (to_le_bytes w32) IsNumber32 15 pairs
index_tellings pairs are = tellings number32_in (to_le_bytes w32) IsNumber32 number32_decodes InputFields 15 pairs (omega arith) are (λ value fits there. some4 value fits ((are.values 15 value (omega arith) there).index refl))

amount_tellings : (pairs : List Pair) → ArePairs OutputFields pairs → Tellings number64_in (to_le_bytes w64) IsNumber64 3 pairs
amount_tellings pairs are = tellings number64_in (to_le_bytes w64) IsNumber64 number64_decodes OutputFields 3 pairs (omega arith) are (λ value fits there. some8 value fits (are.values 3 value (omega arith) there refl))

abbrev itself : List ℕ → Option (List ℕ)
itself value = Some value

script_tellings : (pairs : List Pair) → ArePairs OutputFields pairs → Tellings itself (λ (script : List ℕ). script) IsString 4 pairs
script_tellings pairs are = record { small = omega arith; distinct = are.pairs_fit.distinct; holds = λ value there. (value, string_there OutputFields pairs are 4 value there, refl); again = λ x fits. refl }

and_itself : (o : Option (List ℕ)) → option_and_then itself o ≡ o
and_itself None = refl
and_itself (Some value) = refl

-- ---- the maps of inputs

abbrev lock_in : ℕ → List Pair → Result ⊤ PsbtFault
lock_in number pairs = cond (has_lock pairs) (Err (faults.RequiredLock (shown number))) (Ok tt)

abbrev told : TxIn → Spent → At → Result ((TxIn × Spent) × At) PsbtFault
told input spent at = Ok ((input, spent), at)

-- a map's tests in turn, and the maps behind it
input_head : {Y : Type 0} (m : Result (List Pair × At) PsbtFault) (txid : List Pair → Result (List ℕ) PsbtFault) (index : List Pair → Result ℕ PsbtFault) (lock : List Pair → Bool) (e : PsbtFault) (input : List Pair → List ℕ → ℕ → TxIn) (test : List Pair → TxIn → Bool) (d : PsbtFault) (spent : List Pair → Spent)
    (others : (TxIn × Spent) × At → Result (List (TxIn × Spent) × At) PsbtFault) (k : List (TxIn × Spent) × At → Result Y PsbtFault)
    → (m >>= λ pairs. txid pairs.0 >>= λ t. index pairs.0 >>= λ n. cond {A = Result ⊤ PsbtFault} (lock pairs.0) (Err e) (Ok tt) >>= λ (_ : ⊤). cond {A = Result ⊤ PsbtFault} (test pairs.0 (input pairs.0 t n)) (Ok tt) (Err d) >>= λ (_ : ⊤). (others ((input pairs.0 t n, spent pairs.0), pairs.1) >>= k))
    ≡ (((m >>= λ pairs. (txid pairs.0 >>= λ t. index pairs.0 >>= λ n. cond (lock pairs.0) (Err e) (Ok (input pairs.0 t n))) >>= λ i. cond (test pairs.0 i) (told i (spent pairs.0) pairs.1) (Err d)) >>= others) >>= k)
input_head (Err f) txid index lock e input test d spent others k = refl
input_head {Y = Y} (Ok pairs) txid index lock e input test d spent others k = by_txid (txid pairs.0)
  where
    by_test : (b : Bool) (i : TxIn) → (cond {A = Result ⊤ PsbtFault} b (Ok tt) (Err d) >>= λ (_ : ⊤). (others ((i, spent pairs.0), pairs.1) >>= k)) ≡ ((cond b (told i (spent pairs.0) pairs.1) (Err d) >>= others) >>= k)
    by_test true i = refl
    by_test false i = refl

    by_lock : (b : Bool) (t : List ℕ) (n : ℕ)
        → (cond {A = Result ⊤ PsbtFault} b (Err e) (Ok tt) >>= λ (_ : ⊤). cond {A = Result ⊤ PsbtFault} (test pairs.0 (input pairs.0 t n)) (Ok tt) (Err d) >>= λ (_ : ⊤). (others ((input pairs.0 t n, spent pairs.0), pairs.1) >>= k))
        ≡ (((cond b (Err e) (Ok (input pairs.0 t n)) >>= λ i. cond (test pairs.0 i) (told i (spent pairs.0) pairs.1) (Err d)) >>= others) >>= k)
    by_lock true t n = refl
    by_lock false t n = by_test (test pairs.0 (input pairs.0 t n)) (input pairs.0 t n)

    by_index : (t : List ℕ) (r : Result ℕ PsbtFault)
        → (r >>= λ n. cond {A = Result ⊤ PsbtFault} (lock pairs.0) (Err e) (Ok tt) >>= λ (_ : ⊤). cond {A = Result ⊤ PsbtFault} (test pairs.0 (input pairs.0 t n)) (Ok tt) (Err d) >>= λ (_ : ⊤). (others ((input pairs.0 t n, spent pairs.0), pairs.1) >>= k))
        ≡ ((((r >>= λ n. cond (lock pairs.0) (Err e) (Ok (input pairs.0 t n))) >>= λ i. cond (test pairs.0 i) (told i (spent pairs.0) pairs.1) (Err d)) >>= others) >>= k)
    by_index t (Ok n) = by_lock (lock pairs.0) t n
    by_index t (Err f) = refl

    by_txid : (r : Result (List ℕ) PsbtFault)
        → (r >>= λ t. index pairs.0 >>= λ n. cond {A = Result ⊤ PsbtFault} (lock pairs.0) (Err e) (Ok tt) >>= λ (_ : ⊤). cond {A = Result ⊤ PsbtFault} (test pairs.0 (input pairs.0 t n)) (Ok tt) (Err d) >>= λ (_ : ⊤). (others ((input pairs.0 t n, spent pairs.0), pairs.1) >>= k))
        ≡ ((((r >>= λ t. index pairs.0 >>= λ n. cond (lock pairs.0) (Err e) (Ok (input pairs.0 t n))) >>= λ i. cond (test pairs.0 i) (told i (spent pairs.0) pairs.1) (Err d)) >>= others) >>= k)
    by_txid (Ok t) = by_index t (index pairs.0)
    by_txid (Err f) = refl

abbrev txid_of_pairs : List Pair → Result (List ℕ) PsbtFault
txid_of_pairs pairs = needed 14 (option_and_then txid_in (value_of 14 pairs))

abbrev index_of_pairs : List Pair → Result ℕ PsbtFault
index_of_pairs pairs = needed 15 (option_and_then number32_in (value_of 15 pairs))

abbrev input_of : List Pair → List ℕ → ℕ → TxIn
input_of pairs txid index = unsigned_input txid index (sequence_in pairs)

abbrev point_of : List ℕ → ℕ → OutPoint
point_of txid index = record { txid = txid; index = index }

lock_judged : {Y : Type 0} (number : ℕ) (pairs : List Pair) (Then : List ℕ → Field → Type 0) (at : At) (f : ⊤ → Result Y PsbtFault) → IsBytes at.rest → Judged Breaks Then at (f tt) → Judged Breaks (Tested (Unlocked number pairs) (RequiresLock pairs → ⊥) Then) at (lock_in number pairs >>= f)
lock_judged number pairs Then at f fits later =
    tested_then (Unlocked number pairs) (RequiresLock pairs → ⊥) Then at (lock_in number pairs) f fits
    (λ u e. unlocked pairs (guard_ok (has_lock pairs) (faults.RequiredLock (shown number)) (Ok tt) u e).0)
    (λ u free. rw (no_lock pairs free) refl)
    (λ fault e. let g = guard_told (has_lock pairs) (faults.RequiredLock (shown number)) tt fault e in record { lock = lock_there pairs g.0; is = g.1 })
    (λ fault l. rw (there_lock pairs l.lock) (ap (λ (f : PsbtFault). Err f) (sym l.is)))
    (λ _. later)

pub input_fields_judged : {Y : Type 0} (n : ℕ) (before : List (TxIn × Spent)) (Then : List ℕ → Field → Type 0) (at : At) (k : List (TxIn × Spent) × At → Result Y PsbtFault) → IsBytes at.rest
    → ((inputs : List (TxIn × Spent)) (next : At) → IsBytes next.rest → Judged Breaks Then next (k (inputs, next))) → Judged Breaks (InputFieldsCome (length before) n Then) at (many_from next_input_fields n before at >>= k)
unfolding many_from input_fields_at input_in
input_fields_judged zero before Then at k fits later = later before at fits
input_fields_judged {Y = Y} (suc n) before Then at k fits later =
    let index : ℕ = length before in
    let others : (TxIn × Spent) × At → Result (List (TxIn × Spent) × At) PsbtFault = λ x. many_from next_input_fields n (before ++ x.0 ∷ []) x.1 in
    let Behind : List ℕ → Field → Type 0 = InputFieldsCome (index + 1) n Then in
    judged_is Breaks (InputFieldsCome index (suc n) Then) at _ _
    (input_head (map_at InputFields at) txid_of_pairs index_of_pairs has_lock (faults.RequiredLock (shown index)) input_of (λ pairs i. fits_input i (whole_in pairs)) (wrong_parent index) spent_in others k)
    (map_then InputFields _ at _ fits (λ pairs a are a_fits.
    needed_then txid_in (λ (txid : List ℕ). txid) IsTxid 14 pairs (txid_tellings pairs are) _ a _ a_fits (λ txid txid_is txid_there.
    needed_then number32_in (to_le_bytes w32) IsNumber32 15 pairs (index_tellings pairs are) _ a _ a_fits (λ number number_is number_there.
    lock_judged index pairs (Tested (Parent index (point_of txid number) pairs) (HasParent (point_of txid number) pairs) Behind) a _ a_fits
    (let i = input_of pairs txid number in
    let made : TxIn × Spent = (i, spent_in pairs) in
    let count : length (before ++ made ∷ []) ≡ index + 1 = omega (arith, length-append before (made ∷ [])) in
    let rest = input_fields_judged n (before ++ made ∷ []) Then a k a_fits later in
    parent_judged index i InputFields pairs are Behind a _ a_fits (subst (λ (m : ℕ). Judged Breaks (InputFieldsCome m n Then) a (many_from next_input_fields n (before ++ made ∷ []) a >>= k)) count rest))))))

-- ---- the maps of outputs

abbrev worth_in : ℕ → ℕ → ℕ → Result ⊤ PsbtFault
worth_in number sum value = cond (nat_lt 2_100_000_000_000_000 (sum + value)) (Err (faults.Unsigned (txs.ValueRange (shown number)))) (Ok tt)

output_head : {Y : Type 0} (m : Result (List Pair × At) PsbtFault) (value : List Pair → Result ℕ PsbtFault) (script : List Pair → Result (List ℕ) PsbtFault) (test : ℕ → Bool) (e : PsbtFault) (output : ℕ → List ℕ → TxOut)
    (others : TxOut × At → Result (List TxOut × At) PsbtFault) (k : List TxOut × At → Result Y PsbtFault)
    → (m >>= λ pairs. value pairs.0 >>= λ v. script pairs.0 >>= λ s. cond {A = Result ⊤ PsbtFault} (test v) (Err e) (Ok tt) >>= λ (_ : ⊤). (others (output v s, pairs.1) >>= k))
    ≡ (((m >>= λ pairs. (value pairs.0 >>= λ v. script pairs.0 >>= λ s. cond (test v) (Err e) (Ok (output v s))) >>= λ o. Ok (o, pairs.1)) >>= others) >>= k)
output_head (Err f) value script test e output others k = refl
output_head {Y = Y} (Ok pairs) value script test e output others k = by_value (value pairs.0)
  where
    by_test : (b : Bool) (o : TxOut) → (cond {A = Result ⊤ PsbtFault} b (Err e) (Ok tt) >>= λ (_ : ⊤). (others (o, pairs.1) >>= k)) ≡ (((cond b (Err e) (Ok o) >>= λ p. Ok (p, pairs.1)) >>= others) >>= k)
    by_test true o = refl
    by_test false o = refl

    by_script : (v : ℕ) (r : Result (List ℕ) PsbtFault) → (r >>= λ s. cond {A = Result ⊤ PsbtFault} (test v) (Err e) (Ok tt) >>= λ (_ : ⊤). (others (output v s, pairs.1) >>= k)) ≡ ((((r >>= λ s. cond (test v) (Err e) (Ok (output v s))) >>= λ o. Ok (o, pairs.1)) >>= others) >>= k)
    by_script v (Ok s) = by_test (test v) (output v s)
    by_script v (Err f) = refl

    by_value : (r : Result ℕ PsbtFault)
        → (r >>= λ v. script pairs.0 >>= λ s. cond {A = Result ⊤ PsbtFault} (test v) (Err e) (Ok tt) >>= λ (_ : ⊤). (others (output v s, pairs.1) >>= k))
        ≡ ((((r >>= λ v. script pairs.0 >>= λ s. cond (test v) (Err e) (Ok (output v s))) >>= λ o. Ok (o, pairs.1)) >>= others) >>= k)
    by_value (Ok v) = by_script v (script pairs.0)
    by_value (Err f) = refl

worth_judged : {Y : Type 0} (earlier : List TxOut) (value : ℕ) (Then : List ℕ → Field → Type 0) (at : At) (f : ⊤ → Result Y PsbtFault) → IsBytes at.rest → Judged Breaks Then at (f tt)
    → Judged Breaks (Tested (Worth earlier value) (worth earlier + value ≤ 2_100_000_000_000_000) Then) at (worth_in (length earlier) (worth earlier) value >>= f)
worth_judged earlier value Then at f fits later =
    let sum : ℕ = worth earlier + value in
    let fault_is : PsbtFault = faults.Unsigned (txs.ValueRange (shown (length earlier))) in
    tested_then (Worth earlier value) (worth earlier + value ≤ 2_100_000_000_000_000) Then at (worth_in (length earlier) (worth earlier) value) f fits
    (λ u e. ltb-false 2_100_000_000_000_000 sum (guard_ok (nat_lt 2_100_000_000_000_000 sum) fault_is (Ok tt) u e).0)
    (λ u le. rw (le-ltb 2_100_000_000_000_000 sum le) refl)
    (λ fault e. let g = guard_told (nat_lt 2_100_000_000_000_000 sum) fault_is tt fault e in record { more = ltb-true 2_100_000_000_000_000 sum g.0; is = g.1 })
    (λ fault m. rw (lt-ltb 2_100_000_000_000_000 sum m.more) (ap (λ (f : PsbtFault). Err f) (sym m.is)))
    (λ _. later)

abbrev amount_of_pairs : List Pair → Result ℕ PsbtFault
amount_of_pairs pairs = needed 3 (option_and_then number64_in (value_of 3 pairs))

abbrev script_of_pairs : List Pair → Result (List ℕ) PsbtFault
script_of_pairs pairs = needed 4 (value_of 4 pairs)

abbrev output_of : ℕ → List ℕ → TxOut
output_of value script = record { value = value; script = script }

pub output_fields_judged : {Y : Type 0} (n : ℕ) (before : List TxOut) (at : At) (k : List TxOut × At → Result Y PsbtFault) → IsBytes at.rest
    → ((outputs : List TxOut) (next : At) → IsBytes next.rest → Judged Breaks (IsFirst End) next (k (outputs, next))) → Judged Breaks (OutputFieldsCome before n) at (many_from next_output_fields n before at >>= k)
unfolding many_from output_fields_at output_in
output_fields_judged zero before at k fits later = later before at fits
output_fields_judged {Y = Y} (suc n) before at k fits later =
    let others : TxOut × At → Result (List TxOut × At) PsbtFault = λ x. many_from next_output_fields n (before ++ x.0 ∷ []) x.1 in
    judged_is Breaks (OutputFieldsCome before (suc n)) at _ _
    (output_head (map_at OutputFields at) amount_of_pairs script_of_pairs (λ v. nat_lt 2_100_000_000_000_000 (worth before + v)) (faults.Unsigned (txs.ValueRange (shown (length before)))) output_of others k)
    (map_then OutputFields _ at _ fits (λ pairs a are a_fits.
    needed_then number64_in (to_le_bytes w64) IsNumber64 3 pairs (amount_tellings pairs are) _ a _ a_fits (λ value value_is value_there.
    let behind : List ℕ → Result Y PsbtFault = λ script. worth_in (length before) (worth before) value >>= λ (_ : ⊤). (others (output_of value script, a) >>= k) in
    judged_is Breaks _ a _ _ (ap (λ (o : Option (List ℕ)). needed 4 o >>= behind) (and_itself (value_of 4 pairs)))
    (needed_then itself (λ (script : List ℕ). script) IsString 4 pairs (script_tellings pairs are) _ a behind a_fits (λ script script_is script_there.
    worth_judged before value (OutputFieldsCome (before ++ output_of value script ∷ []) n) a _ a_fits (output_fields_judged n (before ++ output_of value script ∷ []) a k a_fits later))))))
