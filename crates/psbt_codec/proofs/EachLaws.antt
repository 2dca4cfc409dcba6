-- Reading one map for each input or output, as a loop over them does.
use Rattle.std.proofs.Common.{◌≡◌, ◌≢◌, ℕ, ◌+◌, ◌≤◌, ◌<◌, List, [], ◌∷◌, ◌++◌, length, get_or, drop, Result, Ok, Err, refl, sym, ◌∙◌, add-one}
use Rattle.std.proofs.Math.Seq.{drop-cons}
use Rattle.std.proofs.lemmas.List.{drop_all}
use Rattle.fund_base.specs.Cursor.{At}
use Rattle.tx_codec.specs.declared.tx.TxIn.{TxIn}
use Rattle.tx_codec.specs.declared.tx.TxOut.{TxOut}
use Rattle.psbt_codec.specs.declared.fault.PsbtFault.{PsbtFault}
use Rattle.psbt_codec.specs.declared.fault.PsbtFault.TheVariants.{Memory}
use Rattle.psbt_codec.specs.declared.pairs.Part.TheVariants.{Output}
use Rattle.psbt_codec.specs.declared.psbt.Spent.{Spent}
use Rattle.psbt_codec.specs.Psbt.{Pair}
use Rattle.psbt_codec.specs.Reading.{each_at, input_at, next_input_at, next_output_at, map_at}

-- what the loop has read after i of them: reading goes on from here as it would have from the first
pub record EachSoFar {S X : Type 0} (part : S → X → At → Result (S × At) PsbtFault) (first : S) (xs : List X) (from : At) (done : S) (i : ℕ) (now : At) : Type 0 where
  pub goes_on : each_at part done (drop i xs) now ≡ each_at part first xs from

pub each_none : {S X : Type 0} (part : S → X → At → Result (S × At) PsbtFault) (first : S) (xs : List X) (from : At) → EachSoFar part first xs from first 0 from
each_none part first xs from = record { goes_on = refl }

pub each_more : {S X : Type 0} (part : S → X → At → Result (S × At) PsbtFault) (first : S) (xs : List X) (from : At) (done : S) (i : ℕ) (now : At) (d : X) (made : S) (next : At)
    → i < length xs → part done (get_or xs i d) now ≡ Ok (made, next) → EachSoFar part first xs from done i now → EachSoFar part first xs from made (i + 1) next
unfolding each_at
each_more part first xs from done i now d made next lt h so_far =
    let opened : drop i xs ≡ get_or xs i d ∷ drop (i + 1) xs = rw add-one (drop-cons xs i d lt) in
    let one : each_at part done (drop i xs) now ≡ each_at part made (drop (i + 1) xs) next = rw (opened, h) refl in
    record { goes_on = sym one ∙ so_far.goes_on }

pub each_all : {S X : Type 0} (part : S → X → At → Result (S × At) PsbtFault) (first : S) (xs : List X) (from : At) (done : S) (i : ℕ) (now : At)
    → length xs ≤ i → EachSoFar part first xs from done i now → each_at part first xs from ≡ Ok (done, now)
unfolding each_at
each_all part first xs from done i now le so_far =
    let behind : drop i xs ≡ [] = drop_all i xs le in
    let one : each_at part done (drop i xs) now ≡ Ok (done, now) = rw behind refl in
    sym so_far.goes_on ∙ one

pub each_fail : {S X : Type 0} (part : S → X → At → Result (S × At) PsbtFault) (first : S) (xs : List X) (from : At) (done : S) (i : ℕ) (now : At) (d : X) (e : PsbtFault)
    → i < length xs → (e ≢ Memory → part done (get_or xs i d) now ≡ Err e) → EachSoFar part first xs from done i now → e ≢ Memory → each_at part first xs from ≡ Err e
unfolding each_at
each_fail part first xs from done i now d e lt h so_far other =
    let opened : drop i xs ≡ get_or xs i d ∷ drop (i + 1) xs = rw add-one (drop-cons xs i d lt) in
    let one : each_at part done (drop i xs) now ≡ Err e = rw (opened, h other) refl in
    sym so_far.goes_on ∙ one

-- ---- the inputs

pub inputs_more : (first : List Spent) (xs : List TxIn) (from : At) (done : List Spent) (i : ℕ) (now : At) (d : TxIn) (spent : Spent) (next : At)
    → i < length xs → input_at (length done) (get_or xs i d) now ≡ Ok (spent, next) → EachSoFar next_input_at first xs from done i now → EachSoFar next_input_at first xs from (done ++ spent ∷ []) (i + 1) next
unfolding next_input_at
inputs_more first xs from done i now d spent next lt h so_far =
    let one : next_input_at done (get_or xs i d) now ≡ Ok (done ++ spent ∷ [], next) = rw h refl in
    each_more next_input_at first xs from done i now d (done ++ spent ∷ []) next lt one so_far

pub inputs_fail : (first : List Spent) (xs : List TxIn) (from : At) (done : List Spent) (i : ℕ) (now : At) (index : ℕ) (input : TxIn) (d : TxIn) (e : PsbtFault)
    → index ≡ length done → input ≡ get_or xs i d → i < length xs → (e ≢ Memory → input_at index input now ≡ Err e) → EachSoFar next_input_at first xs from done i now → e ≢ Memory → each_at next_input_at first xs from ≡ Err e
unfolding next_input_at
inputs_fail first xs from done i now index input d e number item lt h so_far =
    each_fail next_input_at first xs from done i now d e lt (λ other. rw (← number, ← item, h other) refl) so_far

-- ---- the outputs

pub outputs_more : (xs : List TxOut) (from : At) (i : ℕ) (now : At) (pairs : List Pair) (next : At)
    → i < length xs → map_at Output now ≡ Ok (pairs, next) → EachSoFar next_output_at tt xs from tt i now → EachSoFar next_output_at tt xs from tt (i + 1) next
unfolding next_output_at
outputs_more xs from i now pairs next lt h so_far =
    let d : TxOut = record { value = 0; script = [] } in
    let one : next_output_at tt (get_or xs i d) now ≡ Ok (tt, next) = rw h refl in
    each_more next_output_at tt xs from tt i now d tt next lt one so_far

pub outputs_fail : (xs : List TxOut) (from : At) (i : ℕ) (now : At) (e : PsbtFault)
    → i < length xs → (e ≢ Memory → map_at Output now ≡ Err e) → EachSoFar next_output_at tt xs from tt i now → e ≢ Memory → each_at next_output_at tt xs from ≡ Err e
unfolding next_output_at
outputs_fail xs from i now e lt h so_far =
    let d : TxOut = record { value = 0; script = [] } in
    each_fail next_output_at tt xs from tt i now d e lt (λ other. rw (h other) refl) so_far
