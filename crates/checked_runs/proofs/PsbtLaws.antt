-- What is written of a PSBT is bytes.
use Rattle.std.specs.Prelude.{ℕ, zero, suc, ◌≡◌, ◌==◌, ◌<◌, ◌^◌, List, [], ◌∷◌, ◌++◌, All, length, nat_lt, Option, Some, None, IfSome}
use Rattle.std.specs.Int.{byte_at, bytes_low_first, to_le_bytes, w32, w64}
use Rattle.std.specs.List.{flat_map, zip}
use Rattle.std.proofs.Common.{arith}
use Rattle.std.proofs.lemmas.Bool.{cond_both}
use Rattle.std.proofs.lemmas.List.Elements.{All-append, All-cons, All-head, All-nil, All-tail, All-weaker}
use Rattle.fund_base.specs.CompactSize.{compact, counted, prefixed}
use Rattle.fund_base.specs.Cursor.{IsBytes}
use Rattle.pick_problem.proofs.Deciding.{if_cases, lt_yes}
use Rattle.psbt_codec.specs.PartialTransaction.{PartialTransaction}
use Rattle.psbt_codec.specs.Psbt.{IsPaid, IsParent, IsPsbt, IsSpent, Pair, global_fields, global_map, input_fields, input_map, magic, map_text, output_fields, output_map, own_fields, paid_pairs, pair_text, typed, whole_pairs, written, written_fields, written_whole}
use Rattle.psbt_codec.specs.declared.psbt.Spent.{Spent}
use Rattle.tx_codec.specs.Transaction.{Transaction}
use Rattle.tx_codec.specs.TransactionText.{InputFits, IsTransaction, OutputFits, bare_text, input_text, output_text, segregated_text, stack_text, text_of}
use Rattle.tx_codec.specs.declared.tx.TxIn.{TxIn}
use Rattle.tx_codec.specs.declared.tx.TxOut.{TxOut}

-- ---- numbers and strings

record Fit (bytes : List ℕ) : Type 0 where
  each : IsBytes bytes

both : {a b : List ℕ} → Fit a → Fit b → Fit (a ++ b)
both {a = a} {b = b} h k = record { each = All-append (λ n. n < 256) a b h.each k.each }

one_more : {bs : List ℕ} (b : ℕ) → b < 256 → Fit bs → Fit (b ∷ bs)
one_more {bs = bs} b h k = record { each = All-cons (λ n. n < 256) b bs h k.each }

none : Fit []
none = record { each = All-nil (λ n. n < 256) }

low_byte : (i n : ℕ) → byte_at i n < 256
low_byte zero n = omega arith
low_byte (suc i) n = omega arith

low_first : (i k n : ℕ) → Fit (bytes_low_first i k n)
low_first i zero n = none
low_first i (suc k) n = one_more (byte_at i n) (low_byte i n) (low_first (suc i) k n)

compact_fits : (n : ℕ) → Fit (compact n)
unfolding compact
compact_fits n =
    if_cases Fit (nat_lt n 253) _ _
    (λ e. let small = lt_yes n 253 e in one_more n (omega (arith, small)) none)
    (λ _. if_cases Fit (nat_lt n 65536) _ _
    (λ _. one_more 253 (omega arith) (low_first 0 2 n))
    (λ _. if_cases Fit (nat_lt n 4294967296) _ _
    (λ _. one_more 254 (omega arith) (low_first 0 4 n))
    (λ _. one_more 255 (omega arith) (low_first 0 8 n))))

prefixed_fits : (s : List ℕ) → Fit s → Fit (prefixed s)
prefixed_fits s h = both (compact_fits (length s)) h

flat_fits : {X : Type 0} (f : X → List ℕ) (xs : List X) → All (λ x. Fit (f x)) xs → Fit (flat_map f xs)
flat_fits f [] h = none
flat_fits f (x ∷ xs) h = both (All-head (λ y. Fit (f y)) x xs h) (flat_fits f xs (All-tail (λ y. Fit (f y)) x xs h))

counted_fits : {X : Type 0} (f : X → List ℕ) (xs : List X) → All (λ x. Fit (f x)) xs → Fit (counted f xs)
counted_fits f xs h = both (compact_fits (length xs)) (flat_fits f xs h)

-- ---- transactions

input_fits : (i : TxIn) → InputFits i → Fit (input_text i)
unfolding input_text
input_fits i h =
    let txid : Fit i.prev.txid = record { each = h.txid } in
    let script : Fit i.script = record { each = h.script } in
    both txid (both (low_first 0 4 i.prev.index) (both (prefixed_fits i.script script) (low_first 0 4 i.sequence)))

output_fits : (o : TxOut) → OutputFits o → Fit (output_text o)
unfolding output_text
output_fits o h = let script : Fit o.script = record { each = h.script } in both (low_first 0 8 o.value) (prefixed_fits o.script script)

abbrev IsItem : List ℕ → Type 0
IsItem item = All (λ b. b < 256) item × (length item < 2 ^ 64)

item_fits : (item : List ℕ) → IsItem item → Fit (prefixed item)
item_fits item h = let bytes : Fit item = record { each = h.0 } in prefixed_fits item bytes

stack_fits : (i : TxIn) → InputFits i → Fit (stack_text i)
unfolding stack_text
stack_fits i h = counted_fits prefixed i.witness (All-weaker IsItem (λ (item : List ℕ). Fit (prefixed item)) item_fits i.witness h.stack)

inputs_fit : (t : Transaction) → IsTransaction t → Fit (counted input_text t.inputs)
inputs_fit t h = counted_fits input_text t.inputs (All-weaker InputFits (λ (i : TxIn). Fit (input_text i)) input_fits t.inputs h.inputs)

outputs_fit : (t : Transaction) → IsTransaction t → Fit (counted output_text t.outputs)
outputs_fit t h = counted_fits output_text t.outputs (All-weaker OutputFits (λ (o : TxOut). Fit (output_text o)) output_fits t.outputs h.outputs)

stacks_fit : (t : Transaction) → IsTransaction t → Fit (flat_map stack_text t.inputs)
stacks_fit t h = flat_fits stack_text t.inputs (All-weaker InputFits (λ (i : TxIn). Fit (stack_text i)) stack_fits t.inputs h.inputs)

bare_fits : (t : Transaction) → IsTransaction t → Fit (bare_text t)
unfolding bare_text
bare_fits t h = both (low_first 0 4 t.version) (both (inputs_fit t h) (both (outputs_fit t h) (low_first 0 4 t.locktime)))

segregated_fits : (t : Transaction) → IsTransaction t → Fit (segregated_text t)
unfolding segregated_text
segregated_fits t h =
    both (low_first 0 4 t.version)
    (one_more 0 (omega arith) (one_more 1 (omega arith) (both (inputs_fit t h) (both (outputs_fit t h) (both (stacks_fit t h) (low_first 0 4 t.locktime))))))

text_fits : (t : Transaction) → IsTransaction t → Fit (text_of t)
text_fits t h = cond_both t.segwit (segregated_text t) (bare_text t) Fit (λ _. segregated_fits t h) (λ _. bare_fits t h)

-- ---- maps

pair_fits : (kind : ℕ) (value : List ℕ) → Fit value → Fit (pair_text (typed kind value))
unfolding pair_text
pair_fits kind value h = both (prefixed_fits (compact kind) (compact_fits kind)) (prefixed_fits value h)

abbrev IsBytePair : Pair → Type 0
IsBytePair p = Fit (pair_text p)

map_fits : (pairs : List Pair) → All IsBytePair pairs → Fit (map_text pairs)
unfolding map_text
map_fits pairs h = both (flat_fits pair_text pairs h) (one_more 0 (omega arith) none)

pair_and : (kind : ℕ) (value : List ℕ) (pairs : List Pair) → Fit value → All IsBytePair pairs → All IsBytePair (typed kind value ∷ pairs)
pair_and kind value pairs h k = All-cons IsBytePair (typed kind value) pairs (pair_fits kind value h) k

one_pair : (kind : ℕ) (value : List ℕ) → Fit value → All IsBytePair (typed kind value ∷ [])
one_pair kind value h = pair_and kind value [] h (All-nil IsBytePair)

whole_fits : (i : TxIn) (o : Option Transaction) → IfSome o (IsParent i) → All IsBytePair (whole_pairs o)
whole_fits i None h = All-nil IsBytePair
whole_fits i (Some t) h = one_pair 0 (text_of t) (text_fits t h.text)

paid_fits : (o : Option TxOut) → IfSome o IsPaid → All IsBytePair (paid_pairs o)
paid_fits None h = All-nil IsBytePair
paid_fits (Some o) h = one_pair 1 (output_text o) (output_fits o h.fits)

known_fits : (i : TxIn) (s : Spent) → IsSpent i s → All IsBytePair (input_map s)
known_fits i s h = All-append IsBytePair (whole_pairs s.whole) (paid_pairs s.paid) (whole_fits i s.whole h.whole) (paid_fits s.paid h.paid)

spent_fits : (i : TxIn) (s : Spent) → IsSpent i s → Fit (map_text (input_map s))
spent_fits i s h = map_fits (input_map s) (known_fits i s h)

abbrev AreSpent : TxIn × Spent → Type 0
AreSpent k = IsSpent k.0 k.1

abbrev HasMap : Spent → Type 0
HasMap s = Fit (map_text (input_map s))

all_spent : (inputs : List TxIn) (spent : List Spent) → length spent ≡ length inputs → All AreSpent (zip inputs spent) → All HasMap spent
all_spent [] [] e h = All-nil HasMap
all_spent [] (s ∷ ss) e h = absurd (omega (arith, e))
all_spent (i ∷ is) [] e h = All-nil HasMap
all_spent (i ∷ is) (s ∷ ss) e h =
    All-cons HasMap s ss (spent_fits i s (All-head AreSpent (i, s) (zip is ss) h))
    (all_spent is ss (omega (arith, e)) (All-tail AreSpent (i, s) (zip is ss) h))

abbrev HasNone : TxOut → Type 0
HasNone o = Fit (map_text (output_map o))

no_pairs : (outputs : List TxOut) → All HasNone outputs
no_pairs [] = All-nil HasNone
no_pairs (o ∷ os) = All-cons HasNone o os (map_fits [] (All-nil IsBytePair)) (no_pairs os)

magic_fits : Fit magic
magic_fits = one_more 112 (omega arith) (one_more 115 (omega arith) (one_more 98 (omega arith) (one_more 116 (omega arith) (one_more 255 (omega arith) none))))

-- ---- version 0

whole_text_fits : (p : PartialTransaction) → IsPsbt p → Fit (written_whole p)
unfolding written_whole
whole_text_fits p h =
    both magic_fits
    (both (map_fits (global_map p.tx) (one_pair 0 (bare_text p.tx) (bare_fits p.tx h.text)))
    (both (flat_fits (λ (s : Spent). map_text (input_map s)) p.spent (all_spent p.tx.inputs p.spent h.spent_len h.spent))
    (flat_fits (λ (o : TxOut). map_text (output_map o)) p.tx.outputs (no_pairs p.tx.outputs))))

-- ---- version 2

global_fits : (t : Transaction) → All IsBytePair (global_fields t)
global_fits t =
    let version : Fit (to_le_bytes w32 2) = low_first 0 4 2 in
    let inputs : List Pair = typed 4 (compact (length t.inputs)) ∷ typed 5 (compact (length t.outputs)) ∷ typed 251 (to_le_bytes w32 2) ∷ [] in
    let outputs : List Pair = typed 5 (compact (length t.outputs)) ∷ typed 251 (to_le_bytes w32 2) ∷ [] in
    pair_and 2 (to_le_bytes w32 t.version) (typed 3 (to_le_bytes w32 t.locktime) ∷ inputs) (low_first 0 4 t.version)
    (pair_and 3 (to_le_bytes w32 t.locktime) inputs (low_first 0 4 t.locktime)
    (pair_and 4 (compact (length t.inputs)) outputs (compact_fits (length t.inputs))
    (pair_and 5 (compact (length t.outputs)) (typed 251 (to_le_bytes w32 2) ∷ []) (compact_fits (length t.outputs))
    (one_pair 251 (to_le_bytes w32 2) version))))

own_fit : (i : TxIn) → InputFits i → All IsBytePair (own_fields i)
own_fit i h =
    let txid : Fit i.prev.txid = record { each = h.txid } in
    let sequence : List Pair = typed 16 (to_le_bytes w32 i.sequence) ∷ [] in
    pair_and 14 i.prev.txid (typed 15 (to_le_bytes w32 i.prev.index) ∷ sequence) txid
    (pair_and 15 (to_le_bytes w32 i.prev.index) sequence (low_first 0 4 i.prev.index)
    (one_pair 16 (to_le_bytes w32 i.sequence) (low_first 0 4 i.sequence)))

abbrev HasInputFields : TxIn × Spent → Type 0
HasInputFields k = Fit (map_text (input_fields k))

input_fields_fit : (i : TxIn) (s : Spent) → InputFits i → IsSpent i s → HasInputFields (i, s)
input_fields_fit i s fits h = map_fits (input_fields (i, s)) (All-append IsBytePair (input_map s) (own_fields i) (known_fits i s h) (own_fit i fits))

all_inputs : (inputs : List TxIn) (spent : List Spent) → All InputFits inputs → All AreSpent (zip inputs spent) → All HasInputFields (zip inputs spent)
all_inputs [] spent fits h = All-nil HasInputFields
all_inputs (i ∷ is) [] fits h = All-nil HasInputFields
all_inputs (i ∷ is) (s ∷ ss) fits h =
    All-cons HasInputFields (i, s) (zip is ss) (input_fields_fit i s (All-head InputFits i is fits) (All-head AreSpent (i, s) (zip is ss) h))
    (all_inputs is ss (All-tail InputFits i is fits) (All-tail AreSpent (i, s) (zip is ss) h))

abbrev HasOutputFields : TxOut → Type 0
HasOutputFields o = Fit (map_text (output_fields o))

output_fields_fit : (o : TxOut) → OutputFits o → HasOutputFields o
output_fields_fit o h =
    let script : Fit o.script = record { each = h.script } in
    map_fits (output_fields o) (pair_and 3 (to_le_bytes w64 o.value) (typed 4 o.script ∷ []) (low_first 0 8 o.value) (one_pair 4 o.script script))

fields_text_fits : (p : PartialTransaction) → IsPsbt p → Fit (written_fields p)
unfolding written_fields
fields_text_fits p h =
    both magic_fits
    (both (map_fits (global_fields p.tx) (global_fits p.tx))
    (both (flat_fits (λ (k : TxIn × Spent). map_text (input_fields k)) (zip p.tx.inputs p.spent) (all_inputs p.tx.inputs p.spent h.text.inputs h.spent))
    (flat_fits (λ (o : TxOut). map_text (output_fields o)) p.tx.outputs (All-weaker OutputFits HasOutputFields output_fields_fit p.tx.outputs h.text.outputs))))

-- ---- either

pub written_bytes : (version : ℕ) (p : PartialTransaction) → IsPsbt p → IsBytes (written version p)
written_bytes version p h = (cond_both (version == 2) (written_fields p) (written_whole p) Fit (λ _. fields_text_fits p h) (λ _. whole_text_fits p h)).each

-- there are some, the first five of which name the format
whole_some : (p : PartialTransaction) → 0 < length (written_whole p)
unfolding written_whole
whole_some p = omega arith

fields_some : (p : PartialTransaction) → 0 < length (written_fields p)
unfolding written_fields
fields_some p = omega arith

pub written_some : (version : ℕ) (p : PartialTransaction) → 0 < length (written version p)
written_some version p = cond_both (version == 2) (written_fields p) (written_whole p) (λ (bytes : List ℕ). 0 < length bytes) (λ _. fields_some p) (λ _. whole_some p)
