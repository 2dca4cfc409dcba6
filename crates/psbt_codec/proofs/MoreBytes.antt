-- The maps of a PSBT are read as before where more bytes stand after, unless some were missing.
use Rattle.std.proofs.Common.{ℕ, zero, suc, ◌≤◌, List, [], ◌∷◌, ◌++◌, length, Result, Ok, Err, refl, arith, inl, length-append}
use Rattle.std.specs.Prelude.{Option, Some, None, sum_by, ◌==◌}
use Rattle.fund_base.specs.declared.cursor.CutFault.{CutFault}
use Rattle.fund_base.specs.Cursor.{At}
use Rattle.fund_base.specs.Parsing.{◌>>=◌}
use Rattle.tx_codec.specs.declared.tx.TxIn.{TxIn}
use Rattle.tx_codec.specs.declared.tx.TxOut.{TxOut}
use Rattle.tx_codec.proofs.MoreBytes.{longer, Carries, then, done, pick, refused, IsShort, reported, take_longer, count_longer, string_longer, many_longer}
use Rattle.psbt_codec.specs.declared.fault.PsbtFault.{PsbtFault}
use Rattle.psbt_codec.specs.declared.fault.PsbtFault.TheVariants.{RepeatKey, Version, WrongParent}
use Rattle.psbt_codec.specs.declared.pairs.Part.{Part}
use Rattle.psbt_codec.specs.declared.pairs.Part.TheVariants.{Global, Input, Output, InputFields, OutputFields}
use Rattle.psbt_codec.specs.declared.psbt.Spent.{Spent}
use Rattle.psbt_codec.specs.Truncation.{IsTruncated}
use Rattle.psbt_codec.specs.Fault.{cut_fault, shown}
use Rattle.psbt_codec.specs.Psbt.{Pair}
use Rattle.psbt_codec.specs.Reading.{cut, kind_in, value_fits, keyed_at, pair_at, ends_or, pairs_within, map_at, value_of, unsigned_of, input_at, each_at, next_input_at, next_output_at, whole_at, counts_at, input_in, input_fields_at, next_input_fields, output_in, output_fields_at, next_output_fields, fields_at, version_of, behind_global, maps_at}

told : {X : Type 0} (more : List ℕ) (read again : Result (X × At) CutFault) → Carries IsShort more read again → Carries IsTruncated more (cut read) (cut again)
told more read again h = reported IsTruncated cut_fault more read again (λ place. record { place = place; is = refl }) h

-- a step that no bytes after it can change
settled : {A X : Type 0} (more : List ℕ) (read : Result A PsbtFault) (f g : A → Result (X × At) PsbtFault) → ((x : A) → Carries IsTruncated more (f x) (g x)) → Carries IsTruncated more (read >>= f) (read >>= g)
settled more (Ok x) f g h = h x
settled {X = X} more (Err d) f g h = refused {X = X} IsTruncated more d

-- ---- a pair

keyed_longer : (more : List ℕ) (part : Part) (before : List Pair) (place len : ℕ) (at : At) → Carries IsTruncated more (keyed_at part before place len at) (keyed_at part before place len (longer more at))
unfolding keyed_at
keyed_longer more part before place len at =
    then IsTruncated more _ _ _ _ (told more _ _ (take_longer len more at)) (λ key.
    pick IsTruncated more _ _ _ _ _ (refused IsTruncated more (RepeatKey place))
    (settled more (kind_in part place at.place key.0) _ _ (λ kind.
    then IsTruncated more _ _ _ _ (told more _ _ (string_longer more key.1)) (λ value.
    settled more (value_fits part place kind value.0) _ _ (λ fits.
    done IsTruncated more _ value.1)))))

pair_longer : (more : List ℕ) (part : Part) (before : List Pair) (at : At) → Carries IsTruncated more (pair_at part before at) (pair_at part before (longer more at))
unfolding pair_at
pair_longer more part before at =
    then IsTruncated more _ _ _ _ (told more _ _ (count_longer more at)) (λ len.
    pick IsTruncated more _ _ _ _ _ (done IsTruncated more None len.1)
    (then IsTruncated more _ _ _ _ (keyed_longer more part before at.place len.0 len.1) (λ read.
    done IsTruncated more (Some read.0) read.1)))

-- ---- a map

abbrev rest_of : ℕ → Part → List Pair → At → Result (List Pair × At) PsbtFault
rest_of n part pairs next = pairs_within n part pairs next

abbrev ending : List Pair → At → List Pair × At
ending pairs next = (pairs, next)

ends_longer : (more : List ℕ) (part : Part) (before : List Pair) (m n : ℕ) → ((pairs : List Pair) (next : At) → Carries IsTruncated more (pairs_within m part pairs next) (pairs_within n part pairs (longer more next))) → (o : Option Pair × At)
    → Carries IsTruncated more (ends_or before (rest_of m part) ending o) (ends_or before (rest_of n part) ending (o.0, longer more o.1))
ends_longer more part before m n rest (None, at) = done IsTruncated more before at
ends_longer more part before m n rest (Some p, at) = rest (before ++ p ∷ []) at

-- with more bytes a map may have more pairs
pairs_longer : (more : List ℕ) (part : Part) (m n : ℕ) (before : List Pair) (at : At) → m ≤ n → Carries IsTruncated more (pairs_within m part before at) (pairs_within n part before (longer more at))
unfolding pairs_within
pairs_longer more part zero n before at le = record { ok = λ x e. absurd cc; err = λ e is. inl (record { place = at.place; is = cc }) }
pairs_longer more part (suc m) zero before at le = absurd (omega (arith, le))
pairs_longer more part (suc m) (suc n) before at le =
    then IsTruncated more _ _ _ _ (pair_longer more part before at) (λ o.
    ends_longer more part before m n (λ pairs next. pairs_longer more part m n pairs next (omega (arith, le))) o)

map_longer : (more : List ℕ) (part : Part) (at : At) → Carries IsTruncated more (map_at part at) (map_at part (longer more at))
map_longer more part at = pairs_longer more part (length at.rest) (length (at.rest ++ more)) [] at (omega (arith, length-append at.rest more))

-- ---- the maps

input_longer : (more : List ℕ) (index : ℕ) (input : TxIn) (at : At) → Carries IsTruncated more (input_at index input at) (input_at index input (longer more at))
unfolding input_at
input_longer more index input at =
    then IsTruncated more _ _ _ _ (map_longer more Input at) (λ pairs.
    pick IsTruncated more _ _ _ _ _ (done IsTruncated more _ pairs.1) (refused IsTruncated more (WrongParent (shown index))))

each_longer : {S X : Type 0} (more : List ℕ) (part : S → X → At → Result (S × At) PsbtFault) → ((before : S) (x : X) (at : At) → Carries IsTruncated more (part before x at) (part before x (longer more at)))
    → (xs : List X) (before : S) (at : At) → Carries IsTruncated more (each_at part before xs at) (each_at part before xs (longer more at))
unfolding each_at
each_longer more part one [] before at = done IsTruncated more before at
each_longer more part one (x ∷ xs) before at = then IsTruncated more _ _ _ _ (one before x at) (λ read. each_longer more part one xs read.0 read.1)

next_input_longer : (more : List ℕ) (before : List Spent) (input : TxIn) (at : At) → Carries IsTruncated more (next_input_at before input at) (next_input_at before input (longer more at))
unfolding next_input_at
next_input_longer more before input at =
    then IsTruncated more _ _ _ _ (input_longer more (length before) input at) (λ spent.
    done IsTruncated more _ spent.1)

next_output_longer : (more : List ℕ) (before : Unit {0}) (output : TxOut) (at : At) → Carries IsTruncated more (next_output_at before output at) (next_output_at before output (longer more at))
unfolding next_output_at
next_output_longer more before output at =
    then IsTruncated more _ _ _ _ (map_longer more Output at) (λ pairs.
    done IsTruncated more tt pairs.1)

whole_longer : (more : List ℕ) (pairs : List Pair) (at : At) → Carries IsTruncated more (whole_at pairs at) (whole_at pairs (longer more at))
unfolding whole_at
whole_longer more pairs at =
    settled more (unsigned_of (value_of 0 pairs)) _ _ (λ tx.
    then IsTruncated more _ _ _ _ (each_longer more next_input_at (next_input_longer more) tx.inputs [] at) (λ spent.
    then IsTruncated more _ _ _ _ (each_longer more next_output_at (next_output_longer more) tx.outputs tt spent.1) (λ outputs.
    done IsTruncated more _ outputs.1)))

-- ---- version 2

input_fields_longer : (more : List ℕ) (before : List (TxIn × Spent)) (at : At) → Carries IsTruncated more (next_input_fields before at) (next_input_fields before (longer more at))
unfolding input_fields_at
input_fields_longer more before at =
    then IsTruncated more _ _ _ _ (map_longer more InputFields at) (λ pairs.
    settled more (input_in (length before) pairs.0) _ _ (λ input.
    pick IsTruncated more _ _ _ _ _ (done IsTruncated more _ pairs.1) (refused IsTruncated more (WrongParent (shown (length before))))))

output_fields_longer : (more : List ℕ) (before : List TxOut) (at : At) → Carries IsTruncated more (next_output_fields before at) (next_output_fields before (longer more at))
unfolding output_fields_at
output_fields_longer more before at =
    then IsTruncated more _ _ _ _ (map_longer more OutputFields at) (λ pairs.
    settled more (output_in (length before) (sum_by (λ (o : TxOut). o.value) before) pairs.0) _ _ (λ output.
    done IsTruncated more output pairs.1))

fields_longer : (more : List ℕ) (place : ℕ) (pairs : List Pair) (at : At) → Carries IsTruncated more (fields_at place pairs at) (fields_at place pairs (longer more at))
unfolding fields_at
fields_longer more place pairs at =
    settled more (counts_at place pairs) _ _ (λ counts.
    then IsTruncated more _ _ _ _ (many_longer IsTruncated more next_input_fields (input_fields_longer more) counts.inputs [] at) (λ inputs.
    then IsTruncated more _ _ _ _ (many_longer IsTruncated more next_output_fields (output_fields_longer more) counts.outputs [] inputs.1) (λ outputs.
    done IsTruncated more _ outputs.1)))

-- ---- the maps of either version

behind_longer : (more : List ℕ) (place : ℕ) (pairs : List Pair) (at : At) → Carries IsTruncated more (behind_global place pairs at) (behind_global place pairs (longer more at))
unfolding behind_global
behind_longer more place pairs at =
    pick IsTruncated more (version_of pairs == 0) _ _ _ _ (then IsTruncated more _ _ _ _ (whole_longer more pairs at) (λ read. done IsTruncated more _ read.1))
    (pick IsTruncated more (version_of pairs == 2) _ _ _ _ (then IsTruncated more _ _ _ _ (fields_longer more place pairs at) (λ read. done IsTruncated more _ read.1))
    (refused IsTruncated more (Version (version_of pairs))))

pub maps_longer : (more : List ℕ) (at : At) → Carries IsTruncated more (maps_at at) (maps_at (longer more at))
unfolding maps_at
maps_longer more at =
    then IsTruncated more _ _ _ _ (map_longer more Global at) (λ pairs. behind_longer more at.place pairs.0 pairs.1)
