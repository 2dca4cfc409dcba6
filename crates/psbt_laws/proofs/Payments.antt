-- What the maps of version 0 must hold: which of them is the first that doesn't.
use Rattle.std.proofs.Common.{◌≡◌, ◌≢◌, ℕ, suc, ◌+◌, ◌≤◌, Bool, true, false, cond, eqb, ltb, List, [], ◌∷◌, ◌++◌, length, All, Result, Ok, Err, refl, sym, ap, subst, ◌∙◌, arith, inl, inr}
use Rattle.std.specs.Prelude.{Option, Some, None, option_and_then, ◌⊎◌, ◌==◌, bytes_eq, Any, Contains, ⊤}
use Rattle.std.proofs.lemmas.Bool.{both_ways, eqb-true, eqb-false, eq-eqb, and_cases, and_from, and_left, and_parts, and_right, ltb-true, ltb-false, lt-ltb, le-ltb, false_from_ne_true}
use Rattle.std.proofs.lemmas.List.{length-append, nil_from_length}
use Rattle.std.proofs.lemmas.List.Elements.{All-contains, All-cons, All-head, All-nil, All-tail}
use Rattle.fund_base.specs.Cursor.{At, IsBytes}
use Rattle.fund_base.specs.Parsing.{◌>>=◌, fault_as, whole_of}
use Rattle.fund_base.proofs.Laws.{bind_ok, bind_is, guard_met, ok_is, told_ok, told_is, whole_takes, whole_again}
use Rattle.fund_base.proofs.Lists.{equal_bytes, same_bytes}
use Rattle.tx_codec.specs.declared.fault.TxFault.{TxFault}
use Rattle.tx_codec.specs.declared.fault.TxFault.TheVariants as txs
use Rattle.tx_codec.specs.declared.tx.TxIn.{TxIn}
use Rattle.tx_codec.specs.declared.tx.TxOut.{TxOut}
use Rattle.tx_codec.specs.Reading.{legacy_tx_at}
use Rattle.tx_codec.specs.Transaction.{Transaction}
use Rattle.tx_codec.specs.TransactionText.{text_of, IsTransaction, IsLegacy}
use Rattle.tx_codec.specs.Txid.{txid_of}
use Rattle.tx_codec.proofs.Laws.{legacy_tx_reads}
use Rattle.tx_codec.proofs.OwnFaults.{legacy_tx_never}
use Rattle.psbt_codec.specs.declared.fault.PsbtFault.{PsbtFault}
use Rattle.psbt_codec.specs.declared.fault.PsbtFault.TheVariants as faults
use Rattle.psbt_codec.specs.declared.pairs.Part.{Part}
use Rattle.psbt_codec.specs.declared.pairs.Part.TheVariants.{Global, Input, Output}
use Rattle.psbt_codec.specs.declared.psbt.Spent.{Spent}
use Rattle.psbt_codec.specs.Fault.{unsigned_fault, shown}
use Rattle.psbt_codec.specs.Psbt.{Pair, typed, IsPair}
use Rattle.psbt_codec.specs.Reading.{start, tx_in, value_of, are_bare, unsigned_in, unsigned_of, is_parent, spent_in, fits_input, input_at, each_at, next_input_at, next_output_at, map_at}
use Rattle.psbt_codec.proofs.Decoded.{tx_decodes}
use Rattle.psbt_codec.proofs.MapMeaning.{found_typed, missing_typed, value_there}
use Rattle.tx_laws.specs.Broken.{IsFirst}
use Rattle.tx_laws.proofs.Cuts.{err_told, err_given, met_told}
use Rattle.tx_laws.proofs.Forms.{legacy_tx_whole}
use Rattle.tx_laws.proofs.Judged.{Judged, bind_err, bind_fails, judged_is}
use Rattle.psbt_laws.specs.Fields.{Field, Breaks, meant, HoldsNone, HoldsUnreadable, HoldsSigned, HoldsOther}
use Rattle.psbt_laws.specs.Fields.Field.{Parent, End}
use Rattle.psbt_laws.specs.Order.{ArePairs, OutputsCome, HasParent, InputsCome, HasPayment, Tested}
use Rattle.psbt_laws.proofs.Pairs.{map_then}
use Rattle.psbt_laws.proofs.Steps.{tested_then}

-- ---- the value of type 00

pub value_bytes : (part : Part) (pairs : List Pair) → ArePairs part pairs → (value : List ℕ) → Contains pairs (typed 0 value) → IsBytes value
value_bytes part pairs are value there = (All-contains (IsPair (meant part)) pairs (typed 0 value) are.pairs_fit.each there).value_fits.0

-- ---- the unsigned transaction

told_unsigned : (d : TxFault) → d ≢ txs.Memory → unsigned_fault d ≡ faults.Unsigned d
told_unsigned (txs.Truncated place) other = refl
told_unsigned (txs.LongCompact place) other = refl
told_unsigned (txs.ValueRange output) other = refl
told_unsigned txs.NoInputs other = refl
told_unsigned txs.NoOutputs other = refl
told_unsigned txs.BadFlag other = refl
told_unsigned txs.EmptyWitness other = refl
told_unsigned (txs.Trailing place) other = refl
told_unsigned txs.Memory other = absurd (other refl)

abbrev legacy_of : List ℕ → Result Transaction TxFault
legacy_of value = whole_of (λ p. txs.Trailing p) (legacy_tx_at (start value))

never_memory : (value : List ℕ) → legacy_of value ≡ Err txs.Memory → ⊥
never_memory value e = elim (bind_err (legacy_tx_at (start value)) _ txs.Memory e) [
  | inl now ↦ legacy_tx_never (start value) now
  | inr h ↦ let g = met_told (length h.0.1.rest == 0) (txs.Trailing h.0.1.place) h.0.0 txs.Memory h.2 in let f = g.1 in absurd cc
]

not_memory : (value : List ℕ) (d : TxFault) → legacy_of value ≡ Err d → d ≢ txs.Memory
not_memory value d e is = never_memory value (e ∙ ap (λ (f : TxFault). Err f) is)

some_script : (inputs : List TxIn) → are_bare inputs ≡ false → Any (λ (i : TxIn). i.script ≢ []) inputs
some_script [] e = absurd cc
some_script (i ∷ inputs) e =
    elim (and_cases (eqb (length i.script) 0) (are_bare inputs) e) [
      | inl here ↦ (0, i, omega arith, refl, λ is. eqb-false (length i.script) 0 here (ap (λ (l : List ℕ). length l) is))
      | inr later ↦
          let a = some_script inputs later in
          (suc a.0, a.1, omega (arith, a.2), a.3, a.4)
    ]

all_bare : (inputs : List TxIn) → All (λ (i : TxIn). i.script ≡ []) inputs → are_bare inputs ≡ true
all_bare [] each = refl
all_bare (i ∷ inputs) each = and_from (eqb (length i.script) 0) (are_bare inputs) (eq-eqb (length i.script) 0 (ap (λ (l : List ℕ). length l) (All-head (λ (j : TxIn). j.script ≡ []) i inputs each))) (all_bare inputs (All-tail (λ (j : TxIn). j.script ≡ []) i inputs each))

bare_all : (inputs : List TxIn) → are_bare inputs ≡ true → All (λ (i : TxIn). i.script ≡ []) inputs
bare_all [] e = All-nil (λ (i : TxIn). i.script ≡ [])
bare_all (i ∷ inputs) e =
    let p = and_parts (eqb (length i.script) 0) (are_bare inputs) e in
    All-cons (λ (j : TxIn). j.script ≡ []) i inputs (nil_from_length i.script (eqb-true (length i.script) 0 p.0)) (bare_all inputs p.1)

script_bare : (inputs : List TxIn) → Any (λ (i : TxIn). i.script ≢ []) inputs → are_bare inputs ≡ false
script_bare inputs some = false_from_ne_true (are_bare inputs) (λ bare. some.4 (ap (λ (i : TxIn). i.script) (sym some.3) ∙ bare_all inputs bare some.0 some.1 some.2))

pub payment_by : (pairs : List Pair) → ArePairs Global pairs → (o : Option (List ℕ)) → value_of 0 pairs ≡ o → (fault : PsbtFault) → unsigned_of o ≡ Err fault → HoldsNone pairs fault ⊎ (HoldsUnreadable pairs fault ⊎ HoldsSigned pairs fault)
unfolding unsigned_in
payment_by pairs are None is fault e = inl (record { none = λ value there. missing_typed pairs 0 value (omega arith) is there; is = cc })
payment_by pairs are (Some value) is fault e =
    let there : Contains pairs (typed 0 value) = found_typed pairs 0 value (omega arith) is in
    let fits = value_bytes Global pairs are value there in
    elim (bind_err (fault_as unsigned_fault (legacy_of value)) (λ tx. cond (are_bare tx.inputs) (Ok tx) (Err faults.NotBare)) fault e) [
      | inl now ↦
          let t = err_told unsigned_fault (legacy_of value) fault now in
          inr (inl (record { value = value; there = there; cause = t.0; unreadable = (legacy_tx_whole (start value) fits).tells t.0 t.1; is = t.2 ∙ told_unsigned t.0 (not_memory value t.0 t.1) }))
      | inr h ↦
          let w = whole_takes (λ p. txs.Trailing p) legacy_tx_at text_of IsLegacy legacy_tx_reads (start value) h.0 fits (told_ok unsigned_fault (legacy_of value) h.0 h.1) in
          let g = met_told (are_bare h.0.inputs) faults.NotBare h.0 fault h.2 in
          inr (inr (record { tx = h.0; there = subst (λ (l : List ℕ). Contains pairs (typed 0 l)) w.1 there; legacy = w.0; signed = some_script h.0.inputs g.0; is = g.1 }))
    ]

none_given : (pairs : List Pair) (o : Option (List ℕ)) → value_of 0 pairs ≡ o → (fault : PsbtFault) → HoldsNone pairs fault → unsigned_of o ≡ Err fault
none_given pairs None is fault none = ap (λ (f : PsbtFault). Err f) (sym none.is)
none_given pairs (Some value) is fault none = absurd (none.none value (found_typed pairs 0 value (omega arith) is))

read_legacy : (tx : Transaction) → IsLegacy tx → fault_as unsigned_fault (legacy_of (text_of tx)) ≡ Ok tx
read_legacy tx legacy = told_is unsigned_fault (legacy_of (text_of tx)) tx (whole_again (λ p. txs.Trailing p) legacy_tx_at text_of IsLegacy legacy_tx_reads (start (text_of tx)) tx legacy refl)

pub payment_given : (pairs : List Pair) → ArePairs Global pairs → (fault : PsbtFault) → HoldsNone pairs fault ⊎ (HoldsUnreadable pairs fault ⊎ HoldsSigned pairs fault) → unsigned_of (value_of 0 pairs) ≡ Err fault
unfolding unsigned_in
payment_given pairs are fault (inl none) = none_given pairs (value_of 0 pairs) refl fault none
payment_given pairs are fault (inr (inl u)) =
    let fits = value_bytes Global pairs are u.value u.there in
    let refused : legacy_of u.value ≡ Err u.cause = (legacy_tx_whole (start u.value) fits).gives u.cause u.unreadable in
    let told : fault ≡ unsigned_fault u.cause = u.is ∙ sym (told_unsigned u.cause (not_memory u.value u.cause refused)) in
    ap unsigned_of (value_there pairs 0 u.value (omega arith) are.pairs_fit.distinct u.there)
    ∙ bind_fails (fault_as unsigned_fault (legacy_of u.value)) (λ tx. cond (are_bare tx.inputs) (Ok tx) (Err faults.NotBare)) fault (err_given unsigned_fault (legacy_of u.value) u.cause fault refused told)
payment_given pairs are fault (inr (inr s)) =
    ap unsigned_of (value_there pairs 0 (text_of s.tx) (omega arith) are.pairs_fit.distinct s.there)
    ∙ bind_is (fault_as unsigned_fault (legacy_of (text_of s.tx))) (λ tx. cond (are_bare tx.inputs) (Ok tx) (Err faults.NotBare)) s.tx (Err fault) (read_legacy s.tx s.legacy) (rw (script_bare s.tx.inputs s.signed) (ap (λ (f : PsbtFault). Err f) (sym s.is)))

pub held_by : (pairs : List Pair) → ArePairs Global pairs → (o : Option (List ℕ)) → value_of 0 pairs ≡ o → (tx : Transaction) → unsigned_of o ≡ Ok tx → HasPayment pairs tx
unfolding unsigned_in
held_by pairs are None is tx e = absurd cc
held_by pairs are (Some value) is tx e =
    let there : Contains pairs (typed 0 value) = found_typed pairs 0 value (omega arith) is in
    let fits = value_bytes Global pairs are value there in
    let a = bind_ok (fault_as unsigned_fault (legacy_of value)) (λ (t : Transaction). cond (are_bare t.inputs) (Ok t) (Err faults.NotBare)) tx e in
    let g = guard_met (are_bare a.0.inputs) faults.NotBare (Ok a.0) tx a.2 in
    let w = whole_takes (λ p. txs.Trailing p) legacy_tx_at text_of IsLegacy legacy_tx_reads (start value) a.0 fits (told_ok unsigned_fault (legacy_of value) a.0 a.1) in
    let held : HasPayment pairs a.0 = record { there = subst (λ (l : List ℕ). Contains pairs (typed 0 l)) w.1 there; legacy = w.0; unsigned = bare_all a.0.inputs g.0 } in
    subst (λ (t : Transaction). HasPayment pairs t) (ok_is a.0 tx (Ok a.0) refl g.1) held

pub held_again : (pairs : List Pair) → ArePairs Global pairs → (tx : Transaction) → HasPayment pairs tx → unsigned_of (value_of 0 pairs) ≡ Ok tx
unfolding unsigned_in
held_again pairs are tx h =
    ap unsigned_of (value_there pairs 0 (text_of tx) (omega arith) are.pairs_fit.distinct h.there)
    ∙ bind_is (fault_as unsigned_fault (legacy_of (text_of tx))) (λ (t : Transaction). cond (are_bare t.inputs) (Ok t) (Err faults.NotBare)) tx (Ok tx) (read_legacy tx h.legacy) (rw (all_bare tx.inputs h.unsigned) refl)

-- ---- the transaction that an input spends from

abbrev pub whole_in : List Pair → Option Transaction
whole_in pairs = option_and_then tx_in (value_of 0 pairs)

read_whole : (part : Part) (pairs : List Pair) → ArePairs part pairs → (tx : Transaction) → IsTransaction tx → Contains pairs (typed 0 (text_of tx)) → whole_in pairs ≡ Some tx
read_whole part pairs are tx whole there = ap (λ (o : Option (List ℕ)). option_and_then tx_in o) (value_there pairs 0 (text_of tx) (omega arith) are.pairs_fit.distinct there) ∙ tx_decodes.again tx whole

-- what was read there stands there
record StandsThere (pairs : List Pair) (tx : Transaction) : Type 0 where
  whole : IsTransaction tx
  there : Contains pairs (typed 0 (text_of tx))

stands_by : (part : Part) (pairs : List Pair) → ArePairs part pairs → (o : Option (List ℕ)) → value_of 0 pairs ≡ o → (tx : Transaction) → option_and_then tx_in o ≡ Some tx → StandsThere pairs tx
stands_by part pairs are None is tx e = absurd cc
stands_by part pairs are (Some value) is tx e =
    let there : Contains pairs (typed 0 value) = found_typed pairs 0 value (omega arith) is in
    let t = tx_decodes.takes value tx (value_bytes part pairs are value there) e in
    record { whole = t.0; there = subst (λ (l : List ℕ). Contains pairs (typed 0 l)) t.1 there }

other_parent : (i : TxIn) (tx : Transaction) → is_parent i tx ≡ false → (txid_of tx ≢ i.prev.txid) ⊎ (length tx.outputs ≤ i.prev.index)
other_parent i tx e = elim (and_cases (bytes_eq (txid_of tx) i.prev.txid) (ltb i.prev.index (length tx.outputs)) e) [
  | inl name ↦ inl (λ is. both_ways (bytes_eq (txid_of tx) i.prev.txid) name (same_bytes (txid_of tx) i.prev.txid is))
  | inr none ↦ inr (ltb-false i.prev.index (length tx.outputs) none)
]

no_parent : (i : TxIn) (tx : Transaction) → (txid_of tx ≢ i.prev.txid) ⊎ (length tx.outputs ≤ i.prev.index) → is_parent i tx ≡ false
no_parent i tx (inl name) = and_left (bytes_eq (txid_of tx) i.prev.txid) (ltb i.prev.index (length tx.outputs)) (false_from_ne_true (bytes_eq (txid_of tx) i.prev.txid) (λ e. name (equal_bytes (txid_of tx) i.prev.txid e)))
no_parent i tx (inr none) = and_right (bytes_eq (txid_of tx) i.prev.txid) (ltb i.prev.index (length tx.outputs)) (le-ltb i.prev.index (length tx.outputs) none)

abbrev pub wrong_parent : ℕ → PsbtFault
wrong_parent index = faults.WrongParent (shown index)

abbrev pub parent_in : ℕ → TxIn → List Pair → Result ⊤ PsbtFault
parent_in index i pairs = cond (fits_input i (whole_in pairs)) (Ok tt) (Err (wrong_parent index))

parent_by : (index : ℕ) (i : TxIn) (part : Part) (pairs : List Pair) → ArePairs part pairs → (o : Option Transaction) → whole_in pairs ≡ o → (fault : PsbtFault) → fits_input i o ≡ false → fault ≡ wrong_parent index → HoldsOther index i.prev pairs fault
parent_by index i part pairs are None is fault e told = absurd cc
parent_by index i part pairs are (Some tx) is fault e told =
    let s = stands_by part pairs are (value_of 0 pairs) refl tx is in
    record { tx = tx; there = s.there; whole = s.whole; other = other_parent i tx e; is = told }

parent_told : (index : ℕ) (i : TxIn) (part : Part) (pairs : List Pair) → ArePairs part pairs → (fault : PsbtFault) → parent_in index i pairs ≡ Err fault → HoldsOther index i.prev pairs fault
parent_told index i part pairs are fault e =
    let g = met_told (fits_input i (whole_in pairs)) (wrong_parent index) tt fault e in
    parent_by index i part pairs are (whole_in pairs) refl fault g.0 g.1

parent_given : (index : ℕ) (i : TxIn) (part : Part) (pairs : List Pair) → ArePairs part pairs → (fault : PsbtFault) → HoldsOther index i.prev pairs fault → parent_in index i pairs ≡ Err fault
parent_given index i part pairs are fault h =
    let is : whole_in pairs ≡ Some h.tx = read_whole part pairs are h.tx h.whole h.there in
    let none : fits_input i (whole_in pairs) ≡ false = ap (λ (o : Option Transaction). fits_input i o) is ∙ no_parent i h.tx h.other in
    rw none (ap (λ (f : PsbtFault). Err f) (sym h.is))

parent_known : (index : ℕ) (i : TxIn) (part : Part) (pairs : List Pair) → ArePairs part pairs → (u : ⊤) → parent_in index i pairs ≡ Ok u → HasParent i.prev pairs
parent_known index i part pairs are u e = λ tx whole there.
    let g = guard_met (fits_input i (whole_in pairs)) (wrong_parent index) (Ok tt) u e in
    let is : whole_in pairs ≡ Some tx = read_whole part pairs are tx whole there in
    let right : is_parent i tx ≡ true = sym (ap (λ (o : Option Transaction). fits_input i o) is) ∙ g.0 in
    let p = and_parts (bytes_eq (txid_of tx) i.prev.txid) (ltb i.prev.index (length tx.outputs)) right in
    (equal_bytes (txid_of tx) i.prev.txid p.0, ltb-true i.prev.index (length tx.outputs) p.1)

fits_by : (i : TxIn) (part : Part) (pairs : List Pair) → ArePairs part pairs → (o : Option Transaction) → whole_in pairs ≡ o → HasParent i.prev pairs → fits_input i o ≡ true
fits_by i part pairs are None is has = refl
fits_by i part pairs are (Some tx) is has =
    let s = stands_by part pairs are (value_of 0 pairs) refl tx is in
    let h = has tx s.whole s.there in
    and_from (bytes_eq (txid_of tx) i.prev.txid) (ltb i.prev.index (length tx.outputs)) (same_bytes (txid_of tx) i.prev.txid h.0) (lt-ltb i.prev.index (length tx.outputs) h.1)

parent_read : (index : ℕ) (i : TxIn) (part : Part) (pairs : List Pair) → ArePairs part pairs → (u : ⊤) → HasParent i.prev pairs → parent_in index i pairs ≡ Ok u
parent_read index i part pairs are u has = rw (fits_by i part pairs are (whole_in pairs) refl has) refl

pub parent_judged : {Y : Type 0} (index : ℕ) (i : TxIn) (part : Part) (pairs : List Pair) → ArePairs part pairs → (Then : List ℕ → Field → Type 0) (at : At) (f : ⊤ → Result Y PsbtFault) → IsBytes at.rest → Judged Breaks Then at (f tt)
    → Judged Breaks (Tested (Parent index i.prev pairs) (HasParent i.prev pairs) Then) at (parent_in index i pairs >>= f)
parent_judged index i part pairs are Then at f fits later =
    tested_then (Parent index i.prev pairs) (HasParent i.prev pairs) Then at (parent_in index i pairs) f fits (parent_known index i part pairs are) (parent_read index i part pairs are) (parent_told index i part pairs are) (parent_given index i part pairs are) (λ _. later)

-- ---- the maps of the inputs

abbrev read_spent : Spent → At → Result (Spent × At) PsbtFault
read_spent spent at = Ok (spent, at)

abbrev push_spent : List Spent → Spent × At → Result (List Spent × At) PsbtFault
push_spent before s = Ok (before ++ s.0 ∷ [], s.1)

abbrev all_spent : List Spent → At → List Spent × At
all_spent spent at = (spent, at)

-- one input's map, and then the others
input_head : {Y : Type 0} (m : Result (List Pair × At) PsbtFault) (test : List Pair → Bool) (spent : List Pair → Spent) (e : PsbtFault) (before : List Spent) (others : List Spent × At → Result (List Spent × At) PsbtFault) (k : List Spent × At → Result Y PsbtFault)
    → (m >>= λ pairs. cond {A = Result ⊤ PsbtFault} (test pairs.0) (Ok tt) (Err e) >>= λ (_ : ⊤). (others (all_spent (before ++ spent pairs.0 ∷ []) pairs.1) >>= k))
    ≡ ((((m >>= λ pairs. cond (test pairs.0) (read_spent (spent pairs.0) pairs.1) (Err e)) >>= push_spent before) >>= others) >>= k)
input_head (Err d) test spent e before others k = refl
input_head {Y = Y} (Ok pairs) test spent e before others k = by_test (test pairs.0)
  where
    by_test : (b : Bool) → (cond {A = Result ⊤ PsbtFault} b (Ok tt) (Err e) >>= λ (_ : ⊤). (others (all_spent (before ++ spent pairs.0 ∷ []) pairs.1) >>= k)) ≡ (((cond b (read_spent (spent pairs.0) pairs.1) (Err e) >>= push_spent before) >>= others) >>= k)
    by_test true = refl
    by_test false = refl

pub inputs_judged : {Y : Type 0} (inputs : List TxIn) (before : List Spent) (Then : List ℕ → Field → Type 0) (at : At) (k : List Spent × At → Result Y PsbtFault) → IsBytes at.rest → ((spent : List Spent) (next : At) → IsBytes next.rest → Judged Breaks Then next (k (spent, next)))
    → Judged Breaks (InputsCome (length before) inputs Then) at (each_at next_input_at before inputs at >>= k)
unfolding each_at next_input_at input_at
inputs_judged [] before Then at k fits later = later before at fits
inputs_judged {Y = Y} (i ∷ inputs) before Then at k fits later =
    let index : ℕ = length before in
    let others : List Spent × At → Result (List Spent × At) PsbtFault = λ read. each_at next_input_at read.0 inputs read.1 in
    judged_is Breaks (InputsCome index (i ∷ inputs) Then) at _ _ (input_head (map_at Input at) (λ pairs. fits_input i (whole_in pairs)) spent_in (wrong_parent index) before others k)
    (map_then Input (λ pairs. Tested (Parent index i.prev pairs) (HasParent i.prev pairs) (InputsCome (index + 1) inputs Then)) at (λ pairs. parent_in index i pairs.0 >>= λ (_ : ⊤). (others (before ++ spent_in pairs.0 ∷ [], pairs.1) >>= k)) fits (λ pairs a are a_fits.
    let count : length (before ++ spent_in pairs ∷ []) ≡ index + 1 = omega (arith, length-append before (spent_in pairs ∷ [])) in
    let rest = inputs_judged inputs (before ++ spent_in pairs ∷ []) Then a k a_fits later in
    parent_judged index i Input pairs are (InputsCome (index + 1) inputs Then) a (λ (_ : ⊤). (others (before ++ spent_in pairs ∷ [], a) >>= k)) a_fits
    (subst (λ (n : ℕ). Judged Breaks (InputsCome n inputs Then) a (each_at next_input_at (before ++ spent_in pairs ∷ []) inputs a >>= k)) count rest)))

-- ---- the maps of the outputs

output_head : {Y : Type 0} (m : Result (List Pair × At) PsbtFault) (others : ⊤ × At → Result (⊤ × At) PsbtFault) (k : ⊤ × At → Result Y PsbtFault) → (m >>= λ pairs. (others (tt, pairs.1) >>= k)) ≡ (((m >>= λ pairs. Ok (tt, pairs.1)) >>= others) >>= k)
output_head (Ok pairs) others k = refl
output_head (Err d) others k = refl

pub outputs_judged : {Y : Type 0} (outputs : List TxOut) (at : At) (k : ⊤ × At → Result Y PsbtFault) → IsBytes at.rest → ((next : At) → IsBytes next.rest → Judged Breaks (IsFirst End) next (k (tt, next))) → Judged Breaks (OutputsCome outputs) at (each_at next_output_at tt outputs at >>= k)
unfolding each_at next_output_at
outputs_judged [] at k fits later = later at fits
outputs_judged (o ∷ outputs) at k fits later =
    let others : ⊤ × At → Result (⊤ × At) PsbtFault = λ read. each_at next_output_at read.0 outputs read.1 in
    judged_is Breaks (OutputsCome (o ∷ outputs)) at _ _ (output_head (map_at Output at) others k)
    (map_then Output (λ pairs. OutputsCome outputs) at (λ pairs. (others (tt, pairs.1) >>= k)) fits (λ pairs a are a_fits. outputs_judged outputs a k a_fits later))
