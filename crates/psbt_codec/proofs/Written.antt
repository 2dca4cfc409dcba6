-- What is written of a PSBT is readable as it.
use Rattle.std.proofs.Common.{◌≡◌, ◌≢◌, ℕ, List, [], ◌∷◌, ◌++◌, map, refl, ap, ◌∙◌, arith, inl, inr}
use Rattle.std.specs.Prelude.{Option, Some, None, ◌==◌}
use Rattle.std.specs.List.{flat_map, AllZip}
use Rattle.std.proofs.lemmas.Bool.{cases_Bool}
use Rattle.fund_base.specs.CompactSize.{compact}
use Rattle.tx_codec.specs.declared.tx.TxOut.{TxOut}
use Rattle.tx_codec.specs.Transaction.{Transaction}
use Rattle.tx_codec.specs.TransactionText.{bare_text, text_of, output_text}
use Rattle.psbt_codec.specs.declared.psbt.Spent.{Spent}
use Rattle.psbt_codec.specs.PartialTransaction.{PartialTransaction}
use Rattle.psbt_codec.specs.Psbt.{magic, typed, map_text, global_map, input_map, output_map, written, written_whole, IsString, IsMap, global_types, input_types, IsGlobalMap, IsInputMap, IsOutputMap, AreMaps, IsPsbt, spelled, IsReadable, IsReadableIn}
use Rattle.psbt_codec.proofs.MapMeaning.{tells_value, missing_typed}
use Rattle.psbt_codec.proofs.Strings.{string_left, string_right, map_strings, typed_pair, empty_map, map_of_one, map_of_two, texts_of}
use Rattle.psbt_codec.proofs.WrittenFields.{fields_are}

-- ---- the maps that are written

global_is : (t : Transaction) → IsString (map_text (global_map t)) → IsGlobalMap t (global_map t)
unfolding compact
global_is t s =
    let is : IsMap global_types (global_map t) = map_of_one global_types (typed 0 (bare_text t)) (typed_pair global_types 0 (bare_text t) (omega arith) (map_strings (global_map t) s).0) in
    record { pairs_fit = is; unsigned = tells_value (global_map t) 0 bare_text (Some t) (omega arith) is.distinct refl; version = λ value has. absurd (missing_typed (global_map t) 251 value (omega arith) refl has) }

abbrev known : Option Transaction → Option TxOut → Spent
known whole paid = record { whole = whole; paid = paid }

input_of : (whole : Option Transaction) (paid : Option TxOut) → IsMap input_types (input_map (known whole paid)) → IsInputMap (known whole paid) (input_map (known whole paid))
unfolding compact
input_of None None is = record { pairs_fit = is; whole = tells_value [] 0 text_of None (omega arith) is.distinct refl; paid = tells_value [] 1 output_text None (omega arith) is.distinct refl }
input_of None (Some o) is =
    let pairs = input_map (known None (Some o)) in
    record { pairs_fit = is; whole = tells_value pairs 0 text_of None (omega arith) is.distinct refl; paid = tells_value pairs 1 output_text (Some o) (omega arith) is.distinct refl }
input_of (Some t) None is =
    let pairs = input_map (known (Some t) None) in
    record { pairs_fit = is; whole = tells_value pairs 0 text_of (Some t) (omega arith) is.distinct refl; paid = tells_value pairs 1 output_text None (omega arith) is.distinct refl }
input_of (Some t) (Some o) is =
    let pairs = input_map (known (Some t) (Some o)) in
    record { pairs_fit = is; whole = tells_value pairs 0 text_of (Some t) (omega arith) is.distinct refl; paid = tells_value pairs 1 output_text (Some o) (omega arith) is.distinct refl }

other_types : compact 0 ≢ compact 1
unfolding compact
other_types = λ same. absurd cc

input_map_is : (whole : Option Transaction) (paid : Option TxOut) → IsString (map_text (input_map (known whole paid))) → IsMap input_types (input_map (known whole paid))
input_map_is None None s = empty_map input_types
input_map_is None (Some o) s = map_of_one input_types (typed 1 (output_text o)) (typed_pair input_types 1 (output_text o) (omega arith) (map_strings (input_map (known None (Some o))) s).0)
input_map_is (Some t) None s = map_of_one input_types (typed 0 (text_of t)) (typed_pair input_types 0 (text_of t) (omega arith) (map_strings (input_map (known (Some t) None)) s).0)
input_map_is (Some t) (Some o) s =
    let each = map_strings (input_map (known (Some t) (Some o))) s in
    map_of_two input_types (typed 0 (text_of t)) (typed 1 (output_text o)) (typed_pair input_types 0 (text_of t) (omega arith) each.0) (typed_pair input_types 1 (output_text o) (omega arith) each.1.0) other_types

inputs_are : (spent : List Spent) → IsString (flat_map (λ s. map_text (input_map s)) spent) → AllZip IsInputMap spent (map input_map spent)
inputs_are [] fit = tt
inputs_are (s ∷ spent) fit =
    let others = flat_map (λ k. map_text (input_map k)) spent in
    (input_of s.whole s.paid (input_map_is s.whole s.paid (string_left (map_text (input_map s)) others fit)), inputs_are spent (string_right (map_text (input_map s)) others fit))

outputs_are : (outputs : List TxOut) → AllZip IsOutputMap outputs (map output_map outputs)
outputs_are [] = tt
outputs_are (o ∷ outputs) = (empty_map [], outputs_are outputs)

-- ---- the whole

written_spelled : (p : PartialTransaction) → written_whole p ≡ spelled (global_map p.tx) (map input_map p.spent) (map output_map p.tx.outputs)
unfolding written_whole
written_spelled p =
    ap (λ (l : List ℕ). magic ++ (map_text (global_map p.tx) ++ (l ++ flat_map (λ o. map_text (output_map o)) p.tx.outputs))) (texts_of input_map p.spent)
    ∙ ap (λ (l : List ℕ). magic ++ (map_text (global_map p.tx) ++ (flat_map map_text (map input_map p.spent) ++ l))) (texts_of output_map p.tx.outputs)

whole_is : (bytes : List ℕ) (p : PartialTransaction) → IsString bytes → IsPsbt p → bytes ≡ written_whole p → IsReadableIn 0 bytes p
unfolding written_whole
whole_is bytes p fits psbt is =
    let global = map_text (global_map p.tx) in
    let inputs = flat_map (λ s. map_text (input_map s)) p.spent in
    let outputs = flat_map (λ o. map_text (output_map o)) p.tx.outputs in
    let whole : IsString (magic ++ (global ++ (inputs ++ outputs))) = rw is at fits in
    let behind = string_right magic (global ++ (inputs ++ outputs)) whole in
    let maps : AreMaps p (global_map p.tx) (map input_map p.spent) (map output_map p.tx.outputs) = record {
      global_is = global_is p.tx (string_left global (inputs ++ outputs) behind);
      inputs_are = inputs_are p.spent (string_left inputs outputs (string_right global (inputs ++ outputs) behind));
      outputs_are = outputs_are p.tx.outputs;
    } in
    let readable : IsReadable bytes p = record { version = 0; psbt = psbt; global = global_map p.tx; inputs = map input_map p.spent; outputs = map output_map p.tx.outputs; spelling = is ∙ written_spelled p; maps = inl (refl, maps) } in
    (readable, refl)

-- ---- in either version

pub first_is : (bytes : List ℕ) (p : PartialTransaction) → IsString bytes → IsPsbt p → bytes ≡ written 0 p → IsReadableIn 0 bytes p
first_is bytes p fits psbt is = whole_is bytes p fits psbt is

pub second_is : (bytes : List ℕ) (p : PartialTransaction) → IsString bytes → IsPsbt p → bytes ≡ written 2 p → IsReadableIn 2 bytes p
second_is bytes p fits psbt is = fields_are bytes p fits psbt is

pub written_is : (version : ℕ) (bytes : List ℕ) (p : PartialTransaction) → IsString bytes → IsPsbt p → bytes ≡ written version p → IsReadable bytes p
written_is version bytes p fits psbt is =
    elim (cases_Bool (version == 2)) [
      | inl second ↦ (fields_are bytes p fits psbt (rw second at is)).0
      | inr first ↦ (whole_is bytes p fits psbt (rw first at is)).0
    ]
