-- A PSBT to which due pairs were added is of the same version and of the same payment.
use Rattle.std.proofs.Common.{◌≡◌, ◌∙◌, ◌<◌, ℕ, suc, List, [], ◌∷◌, length, Some, All, refl, inl, inr, arith}
use Rattle.std.specs.List.{AllZip, zip}
use Rattle.std.specs.Int.{w32, w64, to_le_bytes}
use Rattle.std.proofs.lemmas.List.{length-map}
use Rattle.std.proofs.lemmas.List.Elements.{All-head, All-tail}
use Rattle.std.proofs.lemmas.Slice.Zip.{length-zip}
use Rattle.fund_base.specs.CompactSize.{compact}
use Rattle.tx_codec.specs.declared.tx.TxIn.{TxIn}
use Rattle.tx_codec.specs.declared.tx.TxOut.{TxOut}
use Rattle.tx_codec.specs.Transaction.{Transaction}
use Rattle.tx_codec.specs.TransactionText.{bare_text, output_text, text_of}
use Rattle.psbt_codec.specs.PartialTransaction.{PartialTransaction}
use Rattle.psbt_codec.specs.Psbt.{AreFields, AreMaps, AreMapsOf, IsGlobalFields, IsGlobalMap, IsInputFields, IsInputMap, IsOutputFields, IsOutputMap, IsReadable, Pair, global_field_types, global_types, input_field_types, input_types, magic, output_field_types, typed}
use Rattle.psbt_codec.specs.declared.psbt.Spent.{Spent}
use Rattle.keys_text.specs.PlainKeys.{PlainKeys}
use Rattle.psbt_keys.specs.Extended.{IsExtended, nth_map}
use Rattle.psbt_keys.specs.Keyed.{IsSamePayment}
use Rattle.psbt_keys.specs.Origins.{due_for, global_due, input_dues, output_dues, spent_script, types_of_input, types_of_output}
use Rattle.psbt_keys.specs.Pairs.{HasLengths}
use Rattle.psbt_keys.specs.Placing.{AreWritten, IsWritten}
use Rattle.psbt_keys.proofs.ForeignLaws.{clear_global, clear_global_fields, clear_input, clear_input_fields, clear_lock, clear_output, clear_output_fields, global_foreign, inputs_foreign, outputs_foreign}
use Rattle.psbt_keys.proofs.SameLaws.{IsForeign, known_kept, map_kept, no_lock, not_typed, tells_kept}
use Rattle.psbt_keys.proofs.WholeLaws.{given, texts}

-- ---- one map

global_kept : (tx : Transaction) (due old new : List Pair) → All (IsForeign global_types) due → All HasLengths new → IsExtended due old new → IsGlobalMap tx old → IsGlobalMap tx new
global_kept tx due old new foreign fits g h = record {
  pairs_fit = map_kept global_types due old new foreign fits g h.pairs_fit;
  unsigned = known_kept global_types due old new 0 bare_text (Some tx) (omega arith) (0, omega arith, refl) foreign g h.unsigned;
  version = λ value c. elim ((g.each (typed 251 value)).0 c) [ inl a ↦ h.version value a | inr b ↦ absurd (not_typed global_types due 251 value (omega arith) (1, omega arith, refl) foreign b) ];
}

input_kept : (s : Spent) (due old new : List Pair) → All (IsForeign input_types) due → All HasLengths new → IsExtended due old new → IsInputMap s old → IsInputMap s new
input_kept s due old new foreign fits g h = record {
  pairs_fit = map_kept input_types due old new foreign fits g h.pairs_fit;
  whole = known_kept input_types due old new 0 text_of s.whole (omega arith) (0, omega arith, refl) foreign g h.whole;
  paid = known_kept input_types due old new 1 output_text s.paid (omega arith) (1, omega arith, refl) foreign g h.paid;
}

output_kept : (o : TxOut) (due old new : List Pair) → All (IsForeign []) due → All HasLengths new → IsExtended due old new → IsOutputMap o old → IsOutputMap o new
output_kept o due old new foreign fits g h = map_kept [] due old new foreign fits g h

global_fields_kept : (tx : Transaction) (due old new : List Pair) → All (IsForeign global_field_types) due → All HasLengths new → IsExtended due old new → IsGlobalFields tx old → IsGlobalFields tx new
global_fields_kept tx due old new foreign fits g h = record {
  pairs_fit = map_kept global_field_types due old new foreign fits g h.pairs_fit;
  unmixed = λ value c. elim ((g.each (typed 0 value)).0 c) [ inl a ↦ h.unmixed value a | inr b ↦ not_typed global_field_types due 0 value (omega arith) (0, omega arith, refl) foreign b ];
  version = known_kept global_field_types due old new 251 (to_le_bytes w32) (Some 2) (omega arith) (5, omega arith, refl) foreign g h.version;
  tx_version = known_kept global_field_types due old new 2 (to_le_bytes w32) (Some tx.version) (omega arith) (1, omega arith, refl) foreign g h.tx_version;
  locktime = tells_kept global_field_types due old new 3 (to_le_bytes w32) 0 tx.locktime (omega arith) (2, omega arith, refl) foreign g h.locktime;
  inputs = known_kept global_field_types due old new 4 compact (Some (length tx.inputs)) (omega arith) (3, omega arith, refl) foreign g h.inputs;
  outputs = known_kept global_field_types due old new 5 compact (Some (length tx.outputs)) (omega arith) (4, omega arith, refl) foreign g h.outputs;
}

-- the types of an input's due pairs are none of its fields' and ask for no lock time
abbrev AreNoFields : List Pair → Type 0
AreNoFields due = All (IsForeign input_field_types) due × All (IsForeign (17 ∷ 18 ∷ [])) due

input_fields_kept : (k : TxIn × Spent) (due old new : List Pair) → AreNoFields due → All HasLengths new → IsExtended due old new → IsInputFields k old → IsInputFields k new
input_fields_kept k due old new foreign fits g h =
    let f = foreign.0 in
    record {
      pairs_fit = map_kept input_field_types due old new f fits g h.pairs_fit;
      whole = known_kept input_field_types due old new 0 text_of k.1.whole (omega arith) (0, omega arith, refl) f g h.whole;
      paid = known_kept input_field_types due old new 1 output_text k.1.paid (omega arith) (1, omega arith, refl) f g h.paid;
      txid = known_kept input_field_types due old new 14 (λ (bytes : List ℕ). bytes) (Some k.0.prev.txid) (omega arith) (2, omega arith, refl) f g h.txid;
      index = known_kept input_field_types due old new 15 (to_le_bytes w32) (Some k.0.prev.index) (omega arith) (3, omega arith, refl) f g h.index;
      sequence = tells_kept input_field_types due old new 16 (to_le_bytes w32) 4_294_967_295 k.0.sequence (omega arith) (4, omega arith, refl) f g h.sequence;
      unlocked = no_lock due old new foreign.1 g h.unlocked;
    }

output_fields_kept : (o : TxOut) (due old new : List Pair) → All (IsForeign output_field_types) due → All HasLengths new → IsExtended due old new → IsOutputFields o old → IsOutputFields o new
output_fields_kept o due old new foreign fits g h = record {
  pairs_fit = map_kept output_field_types due old new foreign fits g h.pairs_fit;
  value = known_kept output_field_types due old new 3 (to_le_bytes w64) (Some o.value) (omega arith) (0, omega arith, refl) foreign g h.value;
  script = known_kept output_field_types due old new 4 (λ (bytes : List ℕ). bytes) (Some o.script) (omega arith) (1, omega arith, refl) foreign g h.script;
}

-- ---- several maps

zip_kept : {X : Type 0} → (R : X → List Pair → Type 0) (D : List Pair → Type 0) → ((x : X) (due old new : List Pair) → D due → All HasLengths new → IsExtended due old new → R x old → R x new) → (xs : List X) (olds news : List (List Pair)) (due : ℕ → List Pair)
    → ((i : ℕ) → i < length olds → D (due i)) → length news ≡ length olds → ((i : ℕ) → i < length olds → IsExtended (due i) (nth_map olds i) (nth_map news i)) → All (All HasLengths) news → AllZip R xs olds → AllZip R xs news
zip_kept R D step [] [] [] due good many each fits h = tt
zip_kept R D step [] [] (n ∷ news) due good many each fits h = absurd (omega (arith, many))
zip_kept R D step [] (o ∷ olds) news due good many each fits h = absurd h
zip_kept R D step (x ∷ xs) [] news due good many each fits h = absurd h
zip_kept R D step (x ∷ xs) (o ∷ olds) [] due good many each fits h = absurd (omega (arith, many))
zip_kept R D step (x ∷ xs) (o ∷ olds) (n ∷ news) due good many each fits h = (
  step x (due 0) o n (good 0 (omega arith)) (All-head (All HasLengths) n news fits) (each 0 (omega arith)) h.0,
  zip_kept R D step xs olds news (λ i. due (suc i)) (λ i lt. good (suc i) (omega (arith, lt))) (omega (arith, many)) (λ i lt. each (suc i) (omega (arith, lt))) (All-tail (All HasLengths) n news fits) h.1,
)

maps_kept : {X : Type 0} → (R : X → List Pair → Type 0) (D : List Pair → Type 0) → ((x : X) (due old new : List Pair) → D due → All HasLengths new → IsExtended due old new → R x old → R x new) → (xs : List X) (dues olds : List (List Pair)) (front text : List ℕ)
    → All D dues → length dues ≡ length olds → (w : AreWritten dues olds front text) → AllZip R xs olds → AllZip R xs w.maps
maps_kept R D step xs dues olds front text good same w h =
    zip_kept R D step xs olds w.maps (nth_map dues) (λ i lt. good i [] (omega (arith, lt, same))) w.extended.many w.extended.each w.lengths h

-- ---- the whole

both_foreign : (dues : List (List Pair)) → All (All (IsForeign input_field_types)) dues → All (All (IsForeign (17 ∷ 18 ∷ []))) dues → All AreNoFields dues
both_foreign dues a b = λ k d lt. (a k d lt, b k d lt)

pub all_kept : (k : PlainKeys) (version : ℕ) (p : PartialTransaction) (global : List Pair) (inputs outputs : List (List Pair)) (front one two three : List ℕ) → length (input_dues k p.tx.inputs p.spent) ≡ length inputs → length (output_dues k p.tx.outputs) ≡ length outputs → (g : IsWritten (global_due k) global front one) → (is : AreWritten (input_dues k p.tx.inputs p.spent) inputs one two) → (os : AreWritten (output_dues k p.tx.outputs) outputs two three)
    → AreMapsOf version p global inputs outputs → AreMapsOf version p g.pairs is.maps os.maps
all_kept k version p global inputs outputs front one two three in_len out_len g is os (inl h) =
    let maps : AreMaps p g.pairs is.maps os.maps = record {
      global_is = global_kept p.tx (global_due k) global g.pairs (global_foreign global_types k clear_global) g.lengths g.extended h.1.global_is;
      inputs_are = maps_kept IsInputMap (All (IsForeign input_types)) input_kept p.spent (input_dues k p.tx.inputs p.spent) inputs one two (inputs_foreign input_types k p clear_input) in_len is h.1.inputs_are;
      outputs_are = maps_kept IsOutputMap (All (IsForeign [])) output_kept p.tx.outputs (output_dues k p.tx.outputs) outputs two three (outputs_foreign [] k p clear_output) out_len os h.1.outputs_are;
    } in
    inl (h.0, maps)
all_kept k version p global inputs outputs front one two three in_len out_len g is os (inr h) =
    let fields : AreFields p g.pairs is.maps os.maps = record {
      global_is = global_fields_kept p.tx (global_due k) global g.pairs (global_foreign global_field_types k clear_global_fields) g.lengths g.extended h.1.global_is;
      inputs_are = maps_kept IsInputFields AreNoFields input_fields_kept (zip p.tx.inputs p.spent) (input_dues k p.tx.inputs p.spent) inputs one two (both_foreign (input_dues k p.tx.inputs p.spent) (inputs_foreign input_field_types k p clear_input_fields) (inputs_foreign (17 ∷ 18 ∷ []) k p clear_lock)) in_len is h.1.inputs_are;
      outputs_are = maps_kept IsOutputFields (All (IsForeign output_field_types)) output_fields_kept p.tx.outputs (output_dues k p.tx.outputs) outputs two three (outputs_foreign output_field_types k p clear_output_fields) out_len os h.1.outputs_are;
    } in
    inr (h.0, fields)

pub same_by : (k : PlainKeys) (bytes : List ℕ) (p : PartialTransaction) (r : IsReadable bytes p) (one two three : List ℕ) → IsWritten (global_due k) r.global magic one → AreWritten (input_dues k p.tx.inputs p.spent) r.inputs one two → AreWritten (output_dues k p.tx.outputs) r.outputs two three → IsSamePayment bytes three
same_by k bytes p r one two three g is os =
    let s = given bytes p r in
    let spent = s.spent in
    let many_in = s.inputs_are.many in
    let many_out = s.outputs_are.many in
    let in_len : length (input_dues k p.tx.inputs p.spent) ≡ length r.inputs = length-map (zip p.tx.inputs p.spent) (λ (s : TxIn × Spent). due_for types_of_input k.scripts (spent_script s)) ∙ zip_same p.tx.inputs p.spent (length r.inputs) many_in spent in
    let out_len : length (output_dues k p.tx.outputs) ≡ length r.outputs = length-map p.tx.outputs (λ (o : TxOut). due_for types_of_output k.scripts (Some o.script)) ∙ many_out in
    let after : IsReadable three p = record {
      version = r.version;
      psbt = r.psbt;
      global = g.pairs;
      inputs = is.maps;
      outputs = os.maps;
      spelling = texts magic one two three g.pairs is.maps os.maps g.text_is is.text_is os.text_is;
      maps = all_kept k r.version p r.global r.inputs r.outputs magic one two three in_len out_len g is os r.maps;
    } in
    record { psbt = p; before = r; after = (after, refl) }
  where
    zip_same : (xs : List TxIn) (ys : List Spent) (n : ℕ) → length xs ≡ n → length ys ≡ n → length (zip xs ys) ≡ n
    zip_same xs ys n a b = omega (arith, length-zip xs ys, a, b)
