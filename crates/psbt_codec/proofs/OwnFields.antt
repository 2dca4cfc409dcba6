-- What the maps of inputs and outputs tell in version 2: what is read of them is what they tell, and what they tell is read.
use Rattle.std.proofs.Common.{◌≡◌, ℕ, ◌+◌, ◌<◌, ◌^◌, true, false, List, [], ◌++◌, length, All, Ok, refl, sym, ap, subst, ◌∙◌, arith, inl, inr}
use Rattle.std.specs.Prelude.{Option, Some, option_and_then, ◌⊎◌, ◌||◌, Contains}
use Rattle.std.specs.Int.{w32, w64, to_le_bytes}
use Rattle.std.proofs.lemmas.Bool.{both_ways, false_from_ne_true, le-ltb, ltb-false, or_cases, or_left, or_right}
use Rattle.std.proofs.lemmas.List.Elements.{All-nil}
use Rattle.std.proofs.lemmas.List.Folds.{Any-from_list_any, list_any-from_Any}
use Rattle.fund_base.specs.Cursor.{At, IsBytes}
use Rattle.fund_base.proofs.Laws.{bind_ok, bind_is, guard_met, guard_ok, ok_is, Again}
use Rattle.tx_codec.specs.declared.tx.TxIn.{TxIn}
use Rattle.tx_codec.specs.declared.tx.TxOut.{TxOut}
use Rattle.tx_codec.specs.Transaction.{Transaction}
use Rattle.tx_codec.specs.TransactionText.{text_of, output_text, InputFits, IsTransaction}
use Rattle.tx_codec.proofs.Outputs.{worth}
use Rattle.tx_codec.proofs.PartLaws.{FitsBehind}
use Rattle.psbt_codec.specs.declared.pairs.Part.TheVariants.{InputFields, OutputFields}
use Rattle.psbt_codec.specs.declared.psbt.Spent.{Spent}
use Rattle.psbt_codec.specs.Psbt.{Pair, HasKnownPair, TellsOr, map_text, IsOfType, IsPair, IsMap, RequiresLock, IsInputFields, IsOutputFields, input_field_types, output_field_types, IsPaid, IsSpent, IsUnsigned}
use Rattle.psbt_codec.specs.Reading.{tx_in, paid_in, number32_in, number64_in, txid_in, begins, has_lock, value_of, spent_in, fits_input, sequence_in, unsigned_input, input_in, input_fields_at, next_input_fields, output_in, output_fields_at, next_output_fields}
use Rattle.psbt_codec.proofs.Decoded.{Known, IsTxid, tx_decodes, paid_decodes, number32_decodes, number64_decodes, txid_decodes, known_is, known_again, known_holds, parent_takes, parent_again, parent_fits}
use Rattle.psbt_codec.proofs.KeyBytes.{begun_type, type_begins}
use Rattle.psbt_codec.proofs.ManyMaps.{OneTaken}
use Rattle.psbt_codec.proofs.MapMeaning.{map_is, map_fits, typed_is, found_typed, holds_typed, told_value, tells_value}
use Rattle.psbt_codec.proofs.MapReads.{map_reads}
use Rattle.psbt_codec.proofs.Optional.{needed_ok, needed_is, or_tells, or_fits, or_again, or_holds}
use Rattle.psbt_codec.proofs.PairLaws.{ValueIs, PairFits, fields_fit, field_value, output_value}
use Rattle.psbt_codec.proofs.WholeMaps.{held}

-- ---- lock times

pub lock_there : (pairs : List Pair) → has_lock pairs ≡ true → RequiresLock pairs
lock_there pairs e =
    let a = Any-from_list_any (λ (p : Pair). begins 17 p.key || begins 18 p.key) pairs e in
    (a.0, a.1, a.2, a.3, type_of a.1 (or_cases (begins 17 a.1.key) (begins 18 a.1.key) a.4))
  where
    type_of : (p : Pair) → (begins 17 p.key ≡ true) ⊎ (begins 18 p.key ≡ true) → IsOfType 17 p ⊎ IsOfType 18 p
    type_of p (inl time) = inl (begun_type 17 p (omega arith) time)
    type_of p (inr height) = inr (begun_type 18 p (omega arith) height)

pub there_lock : (pairs : List Pair) → RequiresLock pairs → has_lock pairs ≡ true
there_lock pairs lock = list_any-from_Any (λ (p : Pair). begins 17 p.key || begins 18 p.key) pairs (lock.0, lock.1, lock.2, lock.3, begun lock.1 lock.4)
  where
    begun : (p : Pair) → IsOfType 17 p ⊎ IsOfType 18 p → (begins 17 p.key || begins 18 p.key) ≡ true
    begun p (inl time) = or_left (begins 17 p.key) _ (type_begins 17 p (omega arith) time)
    begun p (inr height) = or_right (begins 17 p.key) _ (type_begins 18 p (omega arith) height)

pub no_lock : (pairs : List Pair) → (RequiresLock pairs → ⊥) → has_lock pairs ≡ false
no_lock pairs none = false_from_ne_true (has_lock pairs) (λ e. none (lock_there pairs e))

pub unlocked : (pairs : List Pair) → has_lock pairs ≡ false → RequiresLock pairs → ⊥
unlocked pairs none lock = both_ways (has_lock pairs) none (there_lock pairs lock)

-- ---- an input

pub record OwnTaken (pairs : List Pair) (i : TxIn) : Type 0 where
  pub txid : HasKnownPair pairs 14 (λ (bytes : List ℕ). bytes) (Some i.prev.txid)
  pub index : HasKnownPair pairs 15 (to_le_bytes w32) (Some i.prev.index)
  pub sequence : TellsOr pairs 16 (to_le_bytes w32) 4_294_967_295 i.sequence
  pub unlocked : RequiresLock pairs → ⊥
  pub fits : InputFits i
  pub unsigned : IsUnsigned i

abbrev pub Numbers : List Pair → ℕ → Option ℕ → Type 0
Numbers pairs kind o = Known pairs kind (to_le_bytes w32) (λ n. n < 2 ^ 32) o

abbrev pub Txids : List Pair → Option (List ℕ) → Type 0
Txids pairs o = Known pairs 14 (λ (bytes : List ℕ). bytes) IsTxid o

pub txid_known : (pairs : List Pair) → IsMap input_field_types pairs → All (PairFits InputFields) pairs → Txids pairs (option_and_then txid_in (value_of 14 pairs))
txid_known pairs m each = known_is txid_in (λ (bytes : List ℕ). bytes) IsTxid txid_decodes pairs 14 (omega arith) m.distinct (held InputFields pairs each 14 (omega arith) txid_in (λ value is. (fields_fit 14 value is).txid refl))

pub index_known : (pairs : List Pair) → IsMap input_field_types pairs → All (PairFits InputFields) pairs → Numbers pairs 15 (option_and_then number32_in (value_of 15 pairs))
index_known pairs m each = known_is number32_in (to_le_bytes w32) (λ n. n < 2 ^ 32) number32_decodes pairs 15 (omega arith) m.distinct (held InputFields pairs each 15 (omega arith) number32_in (λ value is. (fields_fit 15 value is).index refl))

pub sequence_known : (pairs : List Pair) → IsMap input_field_types pairs → All (PairFits InputFields) pairs → Numbers pairs 16 (option_and_then number32_in (value_of 16 pairs))
sequence_known pairs m each = known_is number32_in (to_le_bytes w32) (λ n. n < 2 ^ 32) number32_decodes pairs 16 (omega arith) m.distinct (held InputFields pairs each 16 (omega arith) number32_in (λ value is. (fields_fit 16 value is).sequence refl))

own_take : (number : ℕ) (pairs : List Pair) (i : TxIn) → IsMap input_field_types pairs → All (PairFits InputFields) pairs → input_in number pairs ≡ Ok i → OwnTaken pairs i
unfolding input_in
own_take number pairs i m each e =
    let a = bind_ok _ _ i e in
    let b = bind_ok _ _ i a.2 in
    let g = guard_ok _ _ _ _ b.2 in
    let txid : Txids pairs (Some a.0) = subst (Txids pairs) (needed_ok 14 _ a.0 a.1) (txid_known pairs m each) in
    let index : Numbers pairs 15 (Some b.0) = subst (Numbers pairs 15) (needed_ok 15 _ b.0 b.1) (index_known pairs m each) in
    let sequence = sequence_known pairs m each in
    let told : Option ℕ = option_and_then number32_in (value_of 16 pairs) in
    let made : TxIn = unsigned_input a.0 b.0 (sequence_in pairs) in
    subst (OwnTaken pairs) (ok_is made i (Ok made) refl g.1) (record {
      txid = txid.tells;
      index = index.tells;
      sequence = or_tells pairs 16 (to_le_bytes w32) 4_294_967_295 told sequence.tells;
      unlocked = unlocked pairs g.0;
      fits = record {
        txid_len = txid.fits.0;
        txid = txid.fits.1;
        index = index.fits;
        script = All-nil (λ (b : ℕ). b < 256);
        script_len = omega arith;
        sequence = or_fits (λ (n : ℕ). n < 2 ^ 32) 4_294_967_295 told sequence.fits (omega arith);
        stack = All-nil (λ (item : List ℕ). IsBytes item × (length item < 2 ^ 64));
        stack_len = omega arith;
      };
      unsigned = record { script = refl; witness = refl };
    })

-- an input of version 2, and what is known of the output that it spends
pub record FieldInput (k : TxIn × Spent) : Type 0 where
  pub fits : InputFits k.0
  pub unsigned : IsUnsigned k.0
  pub spent : IsSpent k.0 k.1

pub input_take : (before : List (TxIn × Spent)) (at : At) (x : (TxIn × Spent) × At) → IsBytes at.rest → next_input_fields before at ≡ Ok x → OneTaken IsInputFields (λ _. FieldInput) before at x
unfolding input_fields_at
input_take before at x fits e =
    let a = bind_ok _ _ x e in
    let i = bind_ok _ _ x a.2 in
    let g = guard_met _ _ _ _ i.2 in
    let t = (map_reads InputFields).takes at a.0 fits a.1 in
    let m = map_is InputFields a.0.0 t.1 in
    let own = own_take (length before) a.0.0 i.0 m.0 m.1 i.1 in
    let whole = known_is tx_in text_of IsTransaction tx_decodes a.0.0 0 (omega arith) m.0.distinct (held InputFields a.0.0 m.1 0 (omega arith) tx_in (λ value is. (fields_fit 0 value is).whole refl)) in
    let paid = known_is paid_in output_text IsPaid paid_decodes a.0.0 1 (omega arith) m.0.distinct (held InputFields a.0.0 m.1 1 (omega arith) paid_in (λ value is. (fields_fit 1 value is).paid refl)) in
    let s : Spent = spent_in a.0.0 in
    let made : (TxIn × Spent) × At = ((i.0, s), a.0.1) in
    let is : IsInputFields (i.0, s) a.0.0 = record { pairs_fit = m.0; whole = whole.tells; paid = paid.tells; txid = own.txid; index = own.index; sequence = own.sequence; unlocked = own.unlocked } in
    let spent : IsSpent i.0 s = record { whole = parent_takes i.0 s.whole g.0 whole.fits; paid = paid.fits } in
    let right : FieldInput (i.0, s) = record { fits = own.fits; unsigned = own.unsigned; spent = spent } in
    subst (λ (y : (TxIn × Spent) × At). OneTaken IsInputFields (λ _. FieldInput) before at y) (ok_is made x (Ok made) refl g.1) (record { pairs = a.0.0; takes = t.0; is = is; fits = right })

-- an input with these in place of its script and witness
abbrev with_own : TxIn → List ℕ → List (List ℕ) → TxIn
with_own i script witness = record { prev = i.prev; script = script; sequence = i.sequence; witness = witness }

same_input : (i : TxIn) → IsUnsigned i → with_own i [] [] ≡ i
same_input i u = ap (λ (s : List ℕ). with_own i s []) (sym u.script) ∙ ap (λ (w : List (List ℕ)). with_own i i.script w) (sym u.witness)

own_again : (number : ℕ) (k : TxIn × Spent) (pairs : List Pair) → IsInputFields k pairs → FieldInput k → input_in number pairs ≡ Ok k.0
unfolding input_in
own_again number k pairs is fit =
    let i = k.0 in
    let txid = needed_is 14 _ i.prev.txid (known_again txid_in (λ (bytes : List ℕ). bytes) IsTxid txid_decodes pairs 14 (Some i.prev.txid) (omega arith) is.txid (fit.fits.txid_len, fit.fits.txid)) in
    let index = needed_is 15 _ i.prev.index (known_again number32_in (to_le_bytes w32) (λ n. n < 2 ^ 32) number32_decodes pairs 15 (Some i.prev.index) (omega arith) is.index fit.fits.index) in
    let sequence = or_again number32_in (to_le_bytes w32) (λ n. n < 2 ^ 32) number32_decodes pairs 16 4_294_967_295 i.sequence (omega arith) is.sequence fit.fits.sequence in
    let told : unsigned_input i.prev.txid i.prev.index (sequence_in pairs) ≡ with_own i [] [] = ap (λ (n : ℕ). unsigned_input i.prev.txid i.prev.index n) sequence in
    bind_is _ _ _ _ txid (bind_is _ _ _ _ index (rw (no_lock pairs is.unlocked) (ap (λ (j : TxIn). Ok j) (told ∙ same_input i fit.unsigned))))

input_values : (k : TxIn × Spent) (pairs : List Pair) → IsInputFields k pairs → FieldInput k → (p : Pair) (q : IsPair input_field_types p) → Contains pairs p → ValueIs InputFields q.key.kind p.value
input_values k pairs is fit p q has = field_value q.key.kind p.value (record {
  whole = λ e. known_holds tx_in text_of IsTransaction tx_decodes pairs 0 k.1.whole is.whole (parent_fits k.0 k.1.whole fit.spent.whole) p has (typed_is input_field_types p q.key 0 e (0, omega arith, refl));
  paid = λ e. known_holds paid_in output_text IsPaid paid_decodes pairs 1 k.1.paid is.paid fit.spent.paid p has (typed_is input_field_types p q.key 1 e (1, omega arith, refl));
  txid = λ e. known_holds txid_in (λ (bytes : List ℕ). bytes) IsTxid txid_decodes pairs 14 (Some k.0.prev.txid) is.txid (fit.fits.txid_len, fit.fits.txid) p has (typed_is input_field_types p q.key 14 e (2, omega arith, refl));
  index = λ e. known_holds number32_in (to_le_bytes w32) (λ n. n < 2 ^ 32) number32_decodes pairs 15 (Some k.0.prev.index) is.index fit.fits.index p has (typed_is input_field_types p q.key 15 e (3, omega arith, refl));
  sequence = λ e. or_holds number32_in (to_le_bytes w32) (λ n. n < 2 ^ 32) number32_decodes pairs 16 4_294_967_295 k.0.sequence is.sequence fit.fits.sequence p has (typed_is input_field_types p q.key 16 e (4, omega arith, refl));
})

-- an input that was read, and the place behind it
abbrev told_at : At → TxIn × Spent → (TxIn × Spent) × At
told_at next k = (k, next)

pub input_again : (before : List (TxIn × Spent)) (k : TxIn × Spent) (pairs : List Pair) (at : At) (rest : List ℕ) → IsInputFields k pairs → FieldInput k → at.rest ≡ map_text pairs ++ rest → Again (next_input_fields before at) k rest
unfolding input_fields_at
input_again before k pairs at rest is fit parts =
    let a = (map_reads InputFields).again pairs at rest (map_fits InputFields pairs is.pairs_fit (input_values k pairs is fit)) parts in
    let own = own_again (length before) k pairs is fit in
    let whole = known_again tx_in text_of IsTransaction tx_decodes pairs 0 k.1.whole (omega arith) is.whole (parent_fits k.0 k.1.whole fit.spent.whole) in
    let paid = known_again paid_in output_text IsPaid paid_decodes pairs 1 k.1.paid (omega arith) is.paid fit.spent.paid in
    let same : spent_in pairs ≡ k.1 = ap (λ (o : Option Transaction). record { whole = o; paid = (spent_in pairs).paid }) whole ∙ ap (λ (o : Option TxOut). record { whole = k.1.whole; paid = o }) paid in
    let right : fits_input k.0 (spent_in pairs).whole ≡ true = rw whole (parent_again k.0 k.1.whole fit.spent.whole) in
    record { next = a.next; reads = bind_is _ _ _ _ a.reads (bind_is _ _ _ _ own (rw right (ap (λ (s : Spent). Ok (told_at a.next (k.0, s))) same))); left = a.left }

-- ---- an output

pub amount_known : (pairs : List Pair) → IsMap output_field_types pairs → All (PairFits OutputFields) pairs → Known pairs 3 (to_le_bytes w64) (λ n. n < 2 ^ 64) (option_and_then number64_in (value_of 3 pairs))
amount_known pairs m each = known_is number64_in (to_le_bytes w64) (λ n. n < 2 ^ 64) number64_decodes pairs 3 (omega arith) m.distinct (held OutputFields pairs each 3 (omega arith) number64_in (λ value is. is))

output_taken : (before : List TxOut) (pairs : List Pair) (o : TxOut) → IsMap output_field_types pairs → All (PairFits OutputFields) pairs → output_in (length before) (worth before) pairs ≡ Ok o → IsOutputFields o pairs × FitsBehind before o
unfolding output_in
output_taken before pairs o m each e =
    let a = bind_ok _ _ o e in
    let b = bind_ok _ _ o a.2 in
    let g = guard_ok _ _ _ _ b.2 in
    let value : Known pairs 3 (to_le_bytes w64) (λ n. n < 2 ^ 64) (Some a.0) = subst (λ (n : Option ℕ). Known pairs 3 (to_le_bytes w64) (λ n. n < 2 ^ 64) n) (needed_ok 3 _ a.0 a.1) (amount_known pairs m each) in
    let there : value_of 4 pairs ≡ Some b.0 = needed_ok 4 (value_of 4 pairs) b.0 b.1 in
    let string = (holds_typed OutputFields pairs each 4 (omega arith) b.0 (found_typed pairs 4 b.0 (omega arith) there)).0 in
    let made : TxOut = record { value = a.0; script = b.0 } in
    let is : IsOutputFields made pairs = record { pairs_fit = m; value = value.tells; script = tells_value pairs 4 (λ (bytes : List ℕ). bytes) (Some b.0) (omega arith) m.distinct there } in
    let right : FitsBehind before made = record { fits = record { script = string.0; script_len = string.1 }; range = ltb-false 2_100_000_000_000_000 (worth before + a.0) g.0 } in
    subst (λ (p : TxOut). IsOutputFields p pairs × FitsBehind before p) (ok_is made o (Ok made) refl g.1) (is, right)

pub output_take : (before : List TxOut) (at : At) (x : TxOut × At) → IsBytes at.rest → next_output_fields before at ≡ Ok x → OneTaken IsOutputFields FitsBehind before at x
unfolding output_fields_at
output_take before at x fits e =
    let a = bind_ok _ _ x e in
    let o = bind_ok _ _ x a.2 in
    let t = (map_reads OutputFields).takes at a.0 fits a.1 in
    let m = map_is OutputFields a.0.0 t.1 in
    let both = output_taken before a.0.0 o.0 m.0 m.1 o.1 in
    let made : TxOut × At = (o.0, a.0.1) in
    subst (λ (y : TxOut × At). OneTaken IsOutputFields FitsBehind before at y) (ok_is made x (Ok made) refl o.2) (record { pairs = a.0.0; takes = t.0; is = both.0; fits = both.1 })

output_values : (o : TxOut) (pairs : List Pair) → IsOutputFields o pairs → o.value < 2 ^ 64 → (p : Pair) (q : IsPair output_field_types p) → Contains pairs p → ValueIs OutputFields q.key.kind p.value
output_values o pairs is small p q has = output_value q.key.kind p.value (λ e. known_holds number64_in (to_le_bytes w64) (λ n. n < 2 ^ 64) number64_decodes pairs 3 (Some o.value) is.value small p has (typed_is output_field_types p q.key 3 e (0, omega arith, refl)))

output_read : (before : List TxOut) (o : TxOut) (pairs : List Pair) → IsOutputFields o pairs → FitsBehind before o → output_in (length before) (worth before) pairs ≡ Ok o
unfolding output_in
output_read before o pairs is fit =
    let value = needed_is 3 _ o.value (known_again number64_in (to_le_bytes w64) (λ n. n < 2 ^ 64) number64_decodes pairs 3 (Some o.value) (omega arith) is.value (omega (arith, fit.range))) in
    let script = needed_is 4 (value_of 4 pairs) o.script (told_value pairs 4 (λ (bytes : List ℕ). bytes) (Some o.script) (omega arith) is.script) in
    bind_is _ _ _ _ value (bind_is _ _ _ _ script (rw (le-ltb 2_100_000_000_000_000 (worth before + o.value) fit.range) refl))

pub output_again : (before : List TxOut) (o : TxOut) (pairs : List Pair) (at : At) (rest : List ℕ) → IsOutputFields o pairs → FitsBehind before o → at.rest ≡ map_text pairs ++ rest → Again (next_output_fields before at) o rest
unfolding output_fields_at
output_again before o pairs at rest is fit parts =
    let a = (map_reads OutputFields).again pairs at rest (map_fits OutputFields pairs is.pairs_fit (output_values o pairs is (omega (arith, fit.range)))) parts in
    record { next = a.next; reads = bind_is _ _ _ _ a.reads (bind_is _ _ _ _ (output_read before o pairs is fit) refl); left = a.left }
