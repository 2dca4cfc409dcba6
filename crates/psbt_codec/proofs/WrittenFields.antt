-- What is written of a PSBT in version 2 is readable as it.
use Rattle.std.proofs.Common.{◌≡◌, ℕ, ◌<◌, List, [], ◌∷◌, ◌++◌, length, map, refl, ap, ◌∙◌, arith, inl, inr}
use Rattle.std.specs.Prelude.{Option, Some, None}
use Rattle.std.specs.Int.{w32, w64, to_le_bytes}
use Rattle.std.specs.List.{flat_map, zip, AllZip, AllByRecursion}
use Rattle.fund_base.specs.CompactSize.{compact}
use Rattle.tx_codec.specs.declared.tx.TxIn.{TxIn}
use Rattle.tx_codec.specs.declared.tx.TxOut.{TxOut}
use Rattle.tx_codec.specs.Transaction.{Transaction}
use Rattle.tx_codec.specs.TransactionText.{text_of, output_text}
use Rattle.psbt_codec.specs.declared.psbt.Spent.{Spent}
use Rattle.psbt_codec.specs.PartialTransaction.{PartialTransaction}
use Rattle.psbt_codec.specs.Psbt.{magic, typed, map_text, global_fields, input_fields, own_fields, output_fields, written_fields, IsString, HaveOtherKeys, IsMap, global_field_types, input_field_types, output_field_types, IsGlobalFields, IsInputFields, IsOutputFields, AreFields, IsPsbt, spelled, IsReadable, IsReadableIn}
use Rattle.psbt_codec.proofs.MapMeaning.{tells_value, missing_typed, value_there}
use Rattle.psbt_codec.proofs.OwnFields.{unlocked}
use Rattle.psbt_codec.proofs.Strings.{AreStrings, string_left, string_right, map_strings, typed_pair, empty_map, map_more, other_keys, texts_of}

differ : (m n : ℕ) → m < 253 → n < 253 → (m ≡ n → ⊥) → (v w : List ℕ) → HaveOtherKeys (typed m v) (typed n w)
differ m n small_m small_n other v w = other_keys m n small_m small_n other

-- ---- the global map

global_fit : (t : Transaction) → IsString (map_text (global_fields t)) → IsMap global_field_types (global_fields t)
global_fit t s =
    let each = map_strings (global_fields t) s in
    let v = to_le_bytes w32 t.version in
    let l = to_le_bytes w32 t.locktime in
    let i = compact (length t.inputs) in
    let o = compact (length t.outputs) in
    let two = to_le_bytes w32 2 in
    let last : IsMap global_field_types (typed 251 two ∷ []) = map_more global_field_types (typed 251 two) [] (typed_pair global_field_types 251 two (omega arith) each.1.1.1.1.0) tt (empty_map global_field_types) in
    let outputs : IsMap global_field_types (typed 5 o ∷ typed 251 two ∷ []) = map_more global_field_types (typed 5 o) _ (typed_pair global_field_types 5 o (omega arith) each.1.1.1.0) (differ 5 251 (omega arith) (omega arith) (λ e. absurd (omega (arith, e))) o two, tt) last in
    let inputs : IsMap global_field_types (typed 4 i ∷ typed 5 o ∷ typed 251 two ∷ []) = map_more global_field_types (typed 4 i) _ (typed_pair global_field_types 4 i (omega arith) each.1.1.0)
    (differ 4 5 (omega arith) (omega arith) (λ e. absurd (omega (arith, e))) i o, (differ 4 251 (omega arith) (omega arith) (λ e. absurd (omega (arith, e))) i two, tt)) outputs in
    let locktime : IsMap global_field_types (typed 3 l ∷ typed 4 i ∷ typed 5 o ∷ typed 251 two ∷ []) = map_more global_field_types (typed 3 l) _ (typed_pair global_field_types 3 l (omega arith) each.1.0)
    (differ 3 4 (omega arith) (omega arith) (λ e. absurd (omega (arith, e))) l i, (differ 3 5 (omega arith) (omega arith) (λ e. absurd (omega (arith, e))) l o, (differ 3 251 (omega arith) (omega arith) (λ e. absurd (omega (arith, e))) l two, tt))) inputs in
    map_more global_field_types (typed 2 v) _ (typed_pair global_field_types 2 v (omega arith) each.0)
    (differ 2 3 (omega arith) (omega arith) (λ e. absurd (omega (arith, e))) v l, (differ 2 4 (omega arith) (omega arith) (λ e. absurd (omega (arith, e))) v i, (differ 2 5 (omega arith) (omega arith) (λ e. absurd (omega (arith, e))) v o, (differ 2 251 (omega arith) (omega arith) (λ e. absurd (omega (arith, e))) v two, tt)))) locktime

global_are : (t : Transaction) → IsString (map_text (global_fields t)) → IsGlobalFields t (global_fields t)
unfolding compact
global_are t s =
    let m = global_fit t s in
    let pairs = global_fields t in
    record {
      pairs_fit = m;
      unmixed = λ value has. missing_typed pairs 0 value (omega arith) refl has;
      version = tells_value pairs 251 (to_le_bytes w32) (Some 2) (omega arith) m.distinct (value_there pairs 251 (to_le_bytes w32 2) (omega arith) m.distinct (4, omega arith, refl));
      tx_version = tells_value pairs 2 (to_le_bytes w32) (Some t.version) (omega arith) m.distinct (value_there pairs 2 (to_le_bytes w32 t.version) (omega arith) m.distinct (0, omega arith, refl));
      locktime = inl (tells_value pairs 3 (to_le_bytes w32) (Some t.locktime) (omega arith) m.distinct (value_there pairs 3 (to_le_bytes w32 t.locktime) (omega arith) m.distinct (1, omega arith, refl)));
      inputs = tells_value pairs 4 compact (Some (length t.inputs)) (omega arith) m.distinct (value_there pairs 4 (compact (length t.inputs)) (omega arith) m.distinct (2, omega arith, refl));
      outputs = tells_value pairs 5 compact (Some (length t.outputs)) (omega arith) m.distinct (value_there pairs 5 (compact (length t.outputs)) (omega arith) m.distinct (3, omega arith, refl));
    }

-- ---- an input's map

own_fit : (i : TxIn) → AllByRecursion AreStrings (own_fields i) → IsMap input_field_types (own_fields i)
own_fit i each =
    let t = i.prev.txid in
    let n = to_le_bytes w32 i.prev.index in
    let q = to_le_bytes w32 i.sequence in
    let last : IsMap input_field_types (typed 16 q ∷ []) = map_more input_field_types (typed 16 q) [] (typed_pair input_field_types 16 q (omega arith) each.1.1.0) tt (empty_map input_field_types) in
    let index : IsMap input_field_types (typed 15 n ∷ typed 16 q ∷ []) = map_more input_field_types (typed 15 n) _ (typed_pair input_field_types 15 n (omega arith) each.1.0) (differ 15 16 (omega arith) (omega arith) (λ e. absurd (omega (arith, e))) n q, tt) last in
    map_more input_field_types (typed 14 t) _ (typed_pair input_field_types 14 t (omega arith) each.0) (differ 14 15 (omega arith) (omega arith) (λ e. absurd (omega (arith, e))) t n, (differ 14 16 (omega arith) (omega arith) (λ e. absurd (omega (arith, e))) t q, tt)) index

own_other : (kind : ℕ) → kind < 14 → (value : List ℕ) (i : TxIn) → AllByRecursion (HaveOtherKeys (typed kind value)) (own_fields i)
own_other kind small value i = (
  differ kind 14 (omega (arith, small)) (omega arith) (λ e. absurd (omega (arith, small, e))) value i.prev.txid,
  (differ kind 15 (omega (arith, small)) (omega arith) (λ e. absurd (omega (arith, small, e))) value (to_le_bytes w32 i.prev.index), (differ kind 16 (omega (arith, small)) (omega arith) (λ e. absurd (omega (arith, small, e))) value (to_le_bytes w32 i.sequence), tt)),
)

abbrev known : TxIn → Option Transaction → Option TxOut → TxIn × Spent
known i whole paid = (i, record { whole = whole; paid = paid })

-- each pair of a kind, at its place
input_are : (i : TxIn) (whole : Option Transaction) (paid : Option TxOut) → IsMap input_field_types (input_fields (known i whole paid)) → IsInputFields (known i whole paid) (input_fields (known i whole paid))
unfolding compact
input_are i None None m =
    let pairs = input_fields (known i None None) in
    record {
      pairs_fit = m;
      whole = tells_value pairs 0 text_of None (omega arith) m.distinct refl;
      paid = tells_value pairs 1 output_text None (omega arith) m.distinct refl;
      txid = tells_value pairs 14 (λ (bytes : List ℕ). bytes) (Some i.prev.txid) (omega arith) m.distinct (value_there pairs 14 i.prev.txid (omega arith) m.distinct (0, omega arith, refl));
      index = tells_value pairs 15 (to_le_bytes w32) (Some i.prev.index) (omega arith) m.distinct (value_there pairs 15 (to_le_bytes w32 i.prev.index) (omega arith) m.distinct (1, omega arith, refl));
      sequence = inl (tells_value pairs 16 (to_le_bytes w32) (Some i.sequence) (omega arith) m.distinct (value_there pairs 16 (to_le_bytes w32 i.sequence) (omega arith) m.distinct (2, omega arith, refl)));
      unlocked = unlocked pairs refl;
    }
input_are i None (Some o) m =
    let pairs = input_fields (known i None (Some o)) in
    record {
      pairs_fit = m;
      whole = tells_value pairs 0 text_of None (omega arith) m.distinct refl;
      paid = tells_value pairs 1 output_text (Some o) (omega arith) m.distinct (value_there pairs 1 (output_text o) (omega arith) m.distinct (0, omega arith, refl));
      txid = tells_value pairs 14 (λ (bytes : List ℕ). bytes) (Some i.prev.txid) (omega arith) m.distinct (value_there pairs 14 i.prev.txid (omega arith) m.distinct (1, omega arith, refl));
      index = tells_value pairs 15 (to_le_bytes w32) (Some i.prev.index) (omega arith) m.distinct (value_there pairs 15 (to_le_bytes w32 i.prev.index) (omega arith) m.distinct (2, omega arith, refl));
      sequence = inl (tells_value pairs 16 (to_le_bytes w32) (Some i.sequence) (omega arith) m.distinct (value_there pairs 16 (to_le_bytes w32 i.sequence) (omega arith) m.distinct (3, omega arith, refl)));
      unlocked = unlocked pairs refl;
    }
input_are i (Some t) None m =
    let pairs = input_fields (known i (Some t) None) in
    record {
      pairs_fit = m;
      whole = tells_value pairs 0 text_of (Some t) (omega arith) m.distinct (value_there pairs 0 (text_of t) (omega arith) m.distinct (0, omega arith, refl));
      paid = tells_value pairs 1 output_text None (omega arith) m.distinct refl;
      txid = tells_value pairs 14 (λ (bytes : List ℕ). bytes) (Some i.prev.txid) (omega arith) m.distinct (value_there pairs 14 i.prev.txid (omega arith) m.distinct (1, omega arith, refl));
      index = tells_value pairs 15 (to_le_bytes w32) (Some i.prev.index) (omega arith) m.distinct (value_there pairs 15 (to_le_bytes w32 i.prev.index) (omega arith) m.distinct (2, omega arith, refl));
      sequence = inl (tells_value pairs 16 (to_le_bytes w32) (Some i.sequence) (omega arith) m.distinct (value_there pairs 16 (to_le_bytes w32 i.sequence) (omega arith) m.distinct (3, omega arith, refl)));
      unlocked = unlocked pairs refl;
    }
input_are i (Some t) (Some o) m =
    let pairs = input_fields (known i (Some t) (Some o)) in
    record {
      pairs_fit = m;
      whole = tells_value pairs 0 text_of (Some t) (omega arith) m.distinct (value_there pairs 0 (text_of t) (omega arith) m.distinct (0, omega arith, refl));
      paid = tells_value pairs 1 output_text (Some o) (omega arith) m.distinct (value_there pairs 1 (output_text o) (omega arith) m.distinct (1, omega arith, refl));
      txid = tells_value pairs 14 (λ (bytes : List ℕ). bytes) (Some i.prev.txid) (omega arith) m.distinct (value_there pairs 14 i.prev.txid (omega arith) m.distinct (2, omega arith, refl));
      index = tells_value pairs 15 (to_le_bytes w32) (Some i.prev.index) (omega arith) m.distinct (value_there pairs 15 (to_le_bytes w32 i.prev.index) (omega arith) m.distinct (3, omega arith, refl));
      sequence = inl (tells_value pairs 16 (to_le_bytes w32) (Some i.sequence) (omega arith) m.distinct (value_there pairs 16 (to_le_bytes w32 i.sequence) (omega arith) m.distinct (4, omega arith, refl)));
      unlocked = unlocked pairs refl;
    }

input_fit : (i : TxIn) (whole : Option Transaction) (paid : Option TxOut) → IsString (map_text (input_fields (known i whole paid))) → IsMap input_field_types (input_fields (known i whole paid))
input_fit i None None s = own_fit i (map_strings (input_fields (known i None None)) s)
input_fit i None (Some o) s =
    let each = map_strings (input_fields (known i None (Some o))) s in
    map_more input_field_types (typed 1 (output_text o)) (own_fields i) (typed_pair input_field_types 1 (output_text o) (omega arith) each.0) (own_other 1 (omega arith) (output_text o) i) (own_fit i each.1)
input_fit i (Some t) None s =
    let each = map_strings (input_fields (known i (Some t) None)) s in
    map_more input_field_types (typed 0 (text_of t)) (own_fields i) (typed_pair input_field_types 0 (text_of t) (omega arith) each.0) (own_other 0 (omega arith) (text_of t) i) (own_fit i each.1)
input_fit i (Some t) (Some o) s =
    let each = map_strings (input_fields (known i (Some t) (Some o))) s in
    let paid : IsMap input_field_types (typed 1 (output_text o) ∷ own_fields i) = map_more input_field_types (typed 1 (output_text o)) (own_fields i) (typed_pair input_field_types 1 (output_text o) (omega arith) each.1.0) (own_other 1 (omega arith) (output_text o) i) (own_fit i each.1.1) in
    map_more input_field_types (typed 0 (text_of t)) (typed 1 (output_text o) ∷ own_fields i) (typed_pair input_field_types 0 (text_of t) (omega arith) each.0) (differ 0 1 (omega arith) (omega arith) (λ e. absurd (omega (arith, e))) (text_of t) (output_text o), own_other 0 (omega arith) (text_of t) i) paid

inputs_are : (ks : List (TxIn × Spent)) → IsString (flat_map (λ k. map_text (input_fields k)) ks) → AllZip IsInputFields ks (map input_fields ks)
inputs_are [] fit = tt
inputs_are (k ∷ ks) fit =
    let others = flat_map (λ j. map_text (input_fields j)) ks in
    (input_are k.0 k.1.whole k.1.paid (input_fit k.0 k.1.whole k.1.paid (string_left (map_text (input_fields k)) others fit)), inputs_are ks (string_right (map_text (input_fields k)) others fit))

-- ---- an output's map

output_is : (o : TxOut) → IsString (map_text (output_fields o)) → IsOutputFields o (output_fields o)
output_is o s =
    let each = map_strings (output_fields o) s in
    let v = to_le_bytes w64 o.value in
    let pairs = output_fields o in
    let last : IsMap output_field_types (typed 4 o.script ∷ []) = map_more output_field_types (typed 4 o.script) [] (typed_pair output_field_types 4 o.script (omega arith) each.1.0) tt (empty_map output_field_types) in
    let m : IsMap output_field_types pairs = map_more output_field_types (typed 3 v) _ (typed_pair output_field_types 3 v (omega arith) each.0) (differ 3 4 (omega arith) (omega arith) (λ e. absurd (omega (arith, e))) v o.script, tt) last in
    record {
      pairs_fit = m;
      value = tells_value pairs 3 (to_le_bytes w64) (Some o.value) (omega arith) m.distinct (value_there pairs 3 v (omega arith) m.distinct (0, omega arith, refl));
      script = tells_value pairs 4 (λ (bytes : List ℕ). bytes) (Some o.script) (omega arith) m.distinct (value_there pairs 4 o.script (omega arith) m.distinct (1, omega arith, refl));
    }

outputs_are : (outputs : List TxOut) → IsString (flat_map (λ o. map_text (output_fields o)) outputs) → AllZip IsOutputFields outputs (map output_fields outputs)
outputs_are [] fit = tt
outputs_are (o ∷ outputs) fit =
    let others = flat_map (λ p. map_text (output_fields p)) outputs in
    (output_is o (string_left (map_text (output_fields o)) others fit), outputs_are outputs (string_right (map_text (output_fields o)) others fit))

-- ---- the whole

fields_spelled : (p : PartialTransaction) → written_fields p ≡ spelled (global_fields p.tx) (map input_fields (zip p.tx.inputs p.spent)) (map output_fields p.tx.outputs)
unfolding written_fields
fields_spelled p =
    ap (λ (l : List ℕ). magic ++ (map_text (global_fields p.tx) ++ (l ++ flat_map (λ o. map_text (output_fields o)) p.tx.outputs))) (texts_of input_fields (zip p.tx.inputs p.spent))
    ∙ ap (λ (l : List ℕ). magic ++ (map_text (global_fields p.tx) ++ (flat_map map_text (map input_fields (zip p.tx.inputs p.spent)) ++ l))) (texts_of output_fields p.tx.outputs)

pub fields_are : (bytes : List ℕ) (p : PartialTransaction) → IsString bytes → IsPsbt p → bytes ≡ written_fields p → IsReadableIn 2 bytes p
unfolding written_fields
fields_are bytes p fits psbt is =
    let known = zip p.tx.inputs p.spent in
    let global = map_text (global_fields p.tx) in
    let inputs = flat_map (λ k. map_text (input_fields k)) known in
    let outputs = flat_map (λ o. map_text (output_fields o)) p.tx.outputs in
    let whole : IsString (magic ++ (global ++ (inputs ++ outputs))) = rw is at fits in
    let behind = string_right magic (global ++ (inputs ++ outputs)) whole in
    let later = string_right global (inputs ++ outputs) behind in
    let maps : AreFields p (global_fields p.tx) (map input_fields known) (map output_fields p.tx.outputs) = record {
      global_is = global_are p.tx (string_left global (inputs ++ outputs) behind);
      inputs_are = inputs_are known (string_left inputs outputs later);
      outputs_are = outputs_are p.tx.outputs (string_right inputs outputs later);
    } in
    let readable : IsReadable bytes p = record { version = 2; psbt = psbt; global = global_fields p.tx; inputs = map input_fields known; outputs = map output_fields p.tx.outputs; spelling = is ∙ fields_spelled p; maps = inr (refl, maps) } in
    (readable, refl)
