-- Reading the inputs and outputs of version 2, one after the other, and writing the inputs.
use Rattle.std.proofs.Common.{◌≡◌, ◌≢◌, ℕ, zero, suc, ◌+◌, ◌≤◌, ◌<◌, List, [], ◌∷◌, ◌++◌, length, get_or, min, take, Ok, Err, refl, sym, ap, ◌∙◌, append_assoc, arith, length-append}
use Rattle.std.specs.List.{flat_map, zip}
use Rattle.std.proofs.lemmas.List.{append-nil, take_all}
use Rattle.std.proofs.lemmas.List.Sums.{sum_by_push}
use Rattle.std.proofs.lemmas.Slice.Zip.{length-zip}
use Rattle.fund_base.specs.Cursor.{At}
use Rattle.fund_base.specs.Parsing.{many_from}
use Rattle.fund_base.proofs.Repeat.{SoFar, so_far_none, so_far_more, so_far_all, so_far_fails}
use Rattle.tx_codec.specs.declared.tx.TxIn.{TxIn}
use Rattle.tx_codec.specs.declared.tx.TxOut.{TxOut}
use Rattle.tx_codec.proofs.Outputs.{worth}
use Rattle.psbt_codec.specs.declared.fault.PsbtFault.{PsbtFault}
use Rattle.psbt_codec.specs.declared.fault.PsbtFault.TheVariants.{Memory}
use Rattle.psbt_codec.specs.declared.psbt.Spent.{Spent}
use Rattle.psbt_codec.specs.Reading.{input_fields_at, next_input_fields, output_fields_at, next_output_fields}

-- ---- the inputs

pub record InputsSoFar (count : ℕ) (from : At) (done : List (TxIn × Spent)) (i : ℕ) (now : At) : Type 0 where
  pub so_far : SoFar next_input_fields count from done i now
  pub number : i ≡ length done

pub inputs_none : (count : ℕ) (from : At) → InputsSoFar count from [] 0 from
inputs_none count from = record { so_far = so_far_none next_input_fields count from; number = refl }

pub inputs_more : (count : ℕ) (from : At) (done : List (TxIn × Spent)) (i : ℕ) (now : At) (k : TxIn × Spent) (next : At) → i < count → input_fields_at i now ≡ Ok (k, next)
    → InputsSoFar count from done i now → InputsSoFar count from (done ++ k ∷ []) (i + 1) next
inputs_more count from done i now k next lt h so_far =
    let same : next_input_fields done now ≡ Ok (k, next) = rw (← so_far.number) h in
    record { so_far = so_far_more next_input_fields count from done i now k next lt same so_far.so_far; number = omega (arith, so_far.number, length-append done (k ∷ [])) }

pub inputs_all : (count : ℕ) (from : At) (done : List (TxIn × Spent)) (i : ℕ) (now : At) → count ≤ i → InputsSoFar count from done i now → many_from next_input_fields count [] from ≡ Ok (done, now)
inputs_all count from done i now le so_far = so_far_all next_input_fields count from done i now le so_far.so_far

pub inputs_fail : (count : ℕ) (from : At) (done : List (TxIn × Spent)) (i : ℕ) (now : At) (e : PsbtFault) → i < count → (e ≢ Memory → input_fields_at i now ≡ Err e)
    → InputsSoFar count from done i now → e ≢ Memory → many_from next_input_fields count [] from ≡ Err e
inputs_fail count from done i now e lt h so_far =
    so_far_fails next_input_fields count from done i now Memory e lt (λ other. rw (← so_far.number) (h other)) so_far.so_far

-- two lists side by side, each with one more
pub zip_push : (inputs : List TxIn) (spent : List Spent) (i : TxIn) (s : Spent) → length spent ≡ length inputs → zip (inputs ++ i ∷ []) (spent ++ s ∷ []) ≡ zip inputs spent ++ (i, s) ∷ []
zip_push [] [] i s len = refl
zip_push [] (t ∷ spent) i s len = absurd (omega (arith, len))
zip_push (j ∷ inputs) [] i s len = absurd (omega (arith, len))
zip_push (j ∷ inputs) (t ∷ spent) i s len = ap (λ (l : List (TxIn × Spent)). (j, t) ∷ l) (zip_push inputs spent i s (omega (arith, len)))

-- ---- the outputs

pub record OutputsSoFar (count : ℕ) (from : At) (done : List TxOut) (i sum : ℕ) (now : At) : Type 0 where
  pub so_far : SoFar next_output_fields count from done i now
  pub number : i ≡ length done
  pub total : sum ≡ worth done
  pub range : sum ≤ 2_100_000_000_000_000

pub outputs_none : (count : ℕ) (from : At) → OutputsSoFar count from [] 0 0 from
outputs_none count from = record { so_far = so_far_none next_output_fields count from; number = refl; total = refl; range = omega arith }

pub outputs_more : (count : ℕ) (from : At) (done : List TxOut) (i sum : ℕ) (now : At) (o : TxOut) (next : At) → i < count → output_fields_at i sum now ≡ Ok (o, next) → sum + o.value ≤ 2_100_000_000_000_000
    → OutputsSoFar count from done i sum now → OutputsSoFar count from (done ++ o ∷ []) (i + 1) (sum + o.value) next
outputs_more count from done i sum now o next lt h range so_far =
    let same : next_output_fields done now ≡ Ok (o, next) = rw (← so_far.number, ← so_far.total) h in
    record {
      so_far = so_far_more next_output_fields count from done i now o next lt same so_far.so_far;
      number = omega (arith, so_far.number, length-append done (o ∷ []));
      total = rw (sum_by_push, ← so_far.total) refl;
      range = range;
    }

pub outputs_all : (count : ℕ) (from : At) (done : List TxOut) (i sum : ℕ) (now : At) → count ≤ i → OutputsSoFar count from done i sum now → many_from next_output_fields count [] from ≡ Ok (done, now)
outputs_all count from done i sum now le so_far = so_far_all next_output_fields count from done i now le so_far.so_far

pub outputs_fail : (count : ℕ) (from : At) (done : List TxOut) (i sum : ℕ) (now : At) (e : PsbtFault) → i < count → (e ≢ Memory → output_fields_at i sum now ≡ Err e)
    → OutputsSoFar count from done i sum now → e ≢ Memory → many_from next_output_fields count [] from ≡ Err e
outputs_fail count from done i sum now e lt h so_far =
    so_far_fails next_output_fields count from done i now Memory e lt (λ other. rw (← so_far.number, ← so_far.total) (h other)) so_far.so_far

-- ---- writing

-- the texts of a list side by side with another, one more
pub zip_texts_more : (text : TxIn × Spent → List ℕ) (inputs : List TxIn) (spent : List Spent) (i : ℕ) (d : TxIn) (e : Spent) → i < length inputs → i < length spent
    → flat_map text (take (suc i) (zip inputs spent)) ≡ flat_map text (take i (zip inputs spent)) ++ text (get_or inputs i d, get_or spent i e)
zip_texts_more text [] spent i d e lt st = absurd (omega (arith, lt))
zip_texts_more text (j ∷ inputs) [] i d e lt st = absurd (omega (arith, st))
zip_texts_more text (j ∷ inputs) (t ∷ spent) zero d e lt st = append-nil (text (j, t))
zip_texts_more text (j ∷ inputs) (t ∷ spent) (suc i) d e lt st =
    ap (λ (l : List ℕ). text (j, t) ++ l) (zip_texts_more text inputs spent i d e (omega (arith, lt)) (omega (arith, st)))
    ∙ sym (append_assoc (text (j, t)) (flat_map text (take i (zip inputs spent))) (text (get_or inputs i d, get_or spent i e)))

pub zip_texts_all : (text : TxIn × Spent → List ℕ) (inputs : List TxIn) (spent : List Spent) (i : ℕ) → min (length inputs) (length spent) ≤ i → flat_map text (take i (zip inputs spent)) ≡ flat_map text (zip inputs spent)
zip_texts_all text inputs spent i le = ap (λ (l : List (TxIn × Spent)). flat_map text l) (take_all i (zip inputs spent) (omega (arith, le, length-zip inputs spent)))
