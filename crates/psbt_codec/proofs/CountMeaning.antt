-- What a global map of version 2 tells: what is read of it is what it tells, and what it tells is read.
use Rattle.std.proofs.Common.{◌≡◌, ℕ, zero, suc, ◌+◌, ◌<◌, ◌^◌, true, false, get_or, List, [], ◌∷◌, ◌++◌, length, All, Ok, refl, sym, ap, subst, ◌∙◌, arith, inl, inr}
use Rattle.std.specs.Prelude.{Option, Some, None, option_and_then, is_some, ◌==◌, Contains, ⊤}
use Rattle.std.specs.Int.{w32, to_le_bytes}
use Rattle.std.specs.List.{AllByRecursion}
use Rattle.std.proofs.lemmas.Bool.{cases_Bool, eqb-true, eq-eqb, ne_eqb, and_from, and_left, and_parts, and_right, not-false, not_from_true}
use Rattle.std.proofs.lemmas.List.{nil_from_length}
use Rattle.std.proofs.lemmas.List.Elements.{All-contains, All-from_recursion, recursion_from_All, Contains-get_or}
use Rattle.fund_base.specs.CompactSize.{compact}
use Rattle.fund_base.specs.Cursor.{IsBytes}
use Rattle.fund_base.proofs.Laws.{bind_ok, bind_is, guard_ok, ok_is}
use Rattle.fund_base.proofs.Lists.{and_second}
use Rattle.fund_base.proofs.LawsOfNumbers.{compact1}
use Rattle.tx_codec.specs.Transaction.{Transaction}
use Rattle.tx_codec.specs.TransactionText.{IsTransaction}
use Rattle.psbt_codec.specs.declared.counts.Counts.{Counts}
use Rattle.psbt_codec.specs.declared.pairs.Part.TheVariants.{Global}
use Rattle.psbt_codec.specs.Psbt.{Pair, HasKnownPair, TellsOr, typed, pair_text, IsKey, IsPair, IsMap, IsGlobalFields, global_types, global_field_types}
use Rattle.psbt_codec.specs.Reading.{begins, field_fits, is_wrong, right_from, forms_at, counts_at, number32_in, count_in, told_or, value_of, version_of}
use Rattle.psbt_codec.proofs.Decoded.{Known, number32_decodes, count_decodes, known_is, known_again, known_holds}
use Rattle.psbt_codec.proofs.KeyBytes.{key_begins, kind_begun}
use Rattle.psbt_codec.proofs.MapMeaning.{map_is, map_fits, typed_is, kind_of}
use Rattle.psbt_codec.proofs.MapReads.{MapFits}
use Rattle.psbt_codec.proofs.Optional.{needed_ok, needed_is, or_tells, or_fits, or_again, or_holds}
use Rattle.psbt_codec.proofs.PairLaws.{ValueIs, global_value}
use Rattle.psbt_codec.proofs.WholeMaps.{held}

-- ---- pairs of one type in a row

abbrev pub IsRight : ℕ → Pair → Type 0
IsRight kind p = is_wrong kind p ≡ false

right_takes : (kind place : ℕ) (pairs : List Pair) (u : ⊤) → right_from kind place pairs ≡ Ok u → AllByRecursion (IsRight kind) pairs
unfolding right_from
right_takes kind place [] u e = tt
right_takes kind place (p ∷ pairs) u e =
    let g = guard_ok _ _ _ _ e in
    (g.0, right_takes kind (place + length (pair_text p)) pairs u g.1)

right_again : (kind place : ℕ) (pairs : List Pair) → AllByRecursion (IsRight kind) pairs → right_from kind place pairs ≡ Ok tt
unfolding right_from
right_again kind place [] each = refl
right_again kind place (p ∷ pairs) each = rw (each.0) (right_again kind (place + length (pair_text p)) pairs each.1)

pub record FormsRight (pairs : List Pair) : Type 0 where
  pub unmixed : All (IsRight 0) pairs
  pub version : All (IsRight 2) pairs
  pub locktime : All (IsRight 3) pairs
  pub inputs : All (IsRight 4) pairs
  pub outputs : All (IsRight 5) pairs

pub all_right : (kind place : ℕ) (pairs : List Pair) (u : ⊤) → right_from kind place pairs ≡ Ok u → All (IsRight kind) pairs
all_right kind place pairs u e = All-from_recursion (IsRight kind) pairs (right_takes kind place pairs u e)

pub right_all : (kind place : ℕ) (pairs : List Pair) → All (IsRight kind) pairs → right_from kind place pairs ≡ Ok tt
right_all kind place pairs each = right_again kind place pairs (recursion_from_All (IsRight kind) pairs each)

pub forms_take : (place : ℕ) (pairs : List Pair) (u : ⊤) → forms_at place pairs ≡ Ok u → FormsRight pairs
unfolding forms_at
forms_take place pairs u e =
    let a = bind_ok _ _ u e in
    let b = bind_ok _ _ u a.2 in
    let c = bind_ok _ _ u b.2 in
    let d = bind_ok _ _ u c.2 in
    record { unmixed = all_right 0 place pairs a.0 a.1; version = all_right 2 place pairs b.0 b.1; locktime = all_right 3 place pairs c.0 c.1; inputs = all_right 4 place pairs d.0 d.1; outputs = all_right 5 place pairs u d.2 }

pub forms_again : (place : ℕ) (pairs : List Pair) → FormsRight pairs → forms_at place pairs ≡ Ok tt
unfolding forms_at
forms_again place pairs f =
    bind_is _ _ _ _ (right_all 0 place pairs f.unmixed)
    (bind_is _ _ _ _ (right_all 2 place pairs f.version)
    (bind_is _ _ _ _ (right_all 3 place pairs f.locktime)
    (bind_is _ _ _ _ (right_all 4 place pairs f.inputs) (right_all 5 place pairs f.outputs))))

-- ---- a pair of a type that is right

-- it has no key data, and its value is of the form that its type asks for
pub right_pair : (kind : ℕ) (meant : List ℕ) (p : Pair) (k : IsKey meant p.key) → kind < 253 → k.kind ≡ kind → IsRight kind p → (k.key_data ≡ []) × (field_fits kind p.value ≡ true)
right_pair kind meant p k small is right =
    let key : p.key ≡ kind ∷ k.key_data = k.parts ∙ ap (λ (l : List ℕ). l ++ k.key_data) (ap compact is ∙ compact1 kind small) in
    let both = and_parts (length p.key == 1) (field_fits kind p.value) (not-false _ (and_second (begins kind p.key) _ right (key_begins kind p.key k.key_data key))) in
    (nil_from_length k.key_data (omega (arith, eqb-true (length p.key) 1 both.0, ap (λ (l : List ℕ). length l) key)), both.1)

field_key : (p : Pair) (k : IsKey global_types p.key) → IsRight 2 p → IsRight 3 p → IsRight 4 p → IsRight 5 p → Contains global_field_types k.kind → k.key_data ≡ []
field_key p k r2 r3 r4 r5 (zero, lt, is) = k.whole (0, omega arith, is)
field_key p k r2 r3 r4 r5 (suc zero, lt, is) = (right_pair 2 global_types p k (omega arith) (sym is) r2).0
field_key p k r2 r3 r4 r5 (suc (suc zero), lt, is) = (right_pair 3 global_types p k (omega arith) (sym is) r3).0
field_key p k r2 r3 r4 r5 (suc (suc (suc zero)), lt, is) = (right_pair 4 global_types p k (omega arith) (sym is) r4).0
field_key p k r2 r3 r4 r5 (suc (suc (suc (suc zero))), lt, is) = (right_pair 5 global_types p k (omega arith) (sym is) r5).0
field_key p k r2 r3 r4 r5 (suc (suc (suc (suc (suc zero)))), lt, is) = k.whole (1, omega arith, is)
field_key p k r2 r3 r4 r5 (suc (suc (suc (suc (suc (suc i))))), lt, is) = absurd (omega (arith, lt))

field_pair : (p : Pair) → IsPair global_types p → IsRight 2 p → IsRight 3 p → IsRight 4 p → IsRight 5 p → IsPair global_field_types p
field_pair p q r2 r3 r4 r5 = record {
  key = record { kind = q.key.kind; key_data = q.key.key_data; kind_fits = q.key.kind_fits; parts = q.key.parts; whole = λ listed. field_key p q.key r2 r3 r4 r5 listed };
  key_fits = q.key_fits;
  value_fits = q.value_fits;
}

pub fields_map : (pairs : List Pair) → IsMap global_types pairs → FormsRight pairs → IsMap global_field_types pairs
fields_map pairs m f = record { each = λ i d lt. field_pair (get_or pairs i d) (m.each i d lt) (f.version i d lt) (f.locktime i d lt) (f.inputs i d lt) (f.outputs i d lt); distinct = m.distinct }

pub right_value : (kind : ℕ) (pairs : List Pair) → IsMap global_types pairs → All (IsRight kind) pairs → kind < 253 → (value : List ℕ) → Contains pairs (typed kind value) → IsBytes value × (field_fits kind value ≡ true)
right_value kind pairs m each small value has =
    let q = All-contains (IsPair global_types) pairs (typed kind value) m.each has in
    let r = All-contains (IsRight kind) pairs (typed kind value) each has in
    (q.value_fits.0, (right_pair kind global_types (typed kind value) q.key small (kind_of global_types kind q.key (omega (arith, small))) r).1)

pub none_mixed : (pairs : List Pair) → IsMap global_types pairs → All (IsRight 0) pairs → (value : List ℕ) → Contains pairs (typed 0 value) → ⊥
none_mixed pairs m each value has =
    let h = (right_value 0 pairs m each (omega arith) value has).1 in
    absurd cc

-- ---- what is read of them

pub record CountsTaken (pairs : List Pair) (c : Counts) : Type 0 where
  pub pairs_fit : IsMap global_field_types pairs
  pub unmixed : (value : List ℕ) → Contains pairs (typed 0 value) → ⊥
  pub tx_version : HasKnownPair pairs 2 (to_le_bytes w32) (Some c.version)
  pub version_fits : c.version < 2 ^ 32
  pub locktime : TellsOr pairs 3 (to_le_bytes w32) 0 c.locktime
  pub locktime_fits : c.locktime < 2 ^ 32
  pub inputs : HasKnownPair pairs 4 compact (Some c.inputs)
  pub inputs_some : 0 < c.inputs
  pub inputs_fit : c.inputs < 2 ^ 64
  pub outputs : HasKnownPair pairs 5 compact (Some c.outputs)
  pub outputs_some : 0 < c.outputs
  pub outputs_fit : c.outputs < 2 ^ 64

abbrev Numbers : List Pair → ℕ → Option ℕ → Type 0
Numbers pairs kind o = Known pairs kind (to_le_bytes w32) (λ n. n < 2 ^ 32) o

abbrev Totals : List Pair → ℕ → Option ℕ → Type 0
Totals pairs kind o = Known pairs kind compact (λ n. n < 2 ^ 64) o

number_known : (kind : ℕ) (pairs : List Pair) → kind < 253 → IsMap global_types pairs → ((value : List ℕ) → Contains pairs (typed kind value) → IsBytes value × (is_some (number32_in value) ≡ true)) → Numbers pairs kind (option_and_then number32_in (value_of kind pairs))
number_known kind pairs small m right = known_is number32_in (to_le_bytes w32) (λ n. n < 2 ^ 32) number32_decodes pairs kind small m.distinct right

total_known : (kind : ℕ) (pairs : List Pair) → kind < 253 → IsMap global_types pairs → ((value : List ℕ) → Contains pairs (typed kind value) → IsBytes value × (is_some (count_in value) ≡ true)) → Totals pairs kind (option_and_then count_in (value_of kind pairs))
total_known kind pairs small m right = known_is count_in compact (λ n. n < 2 ^ 64) count_decodes pairs kind small m.distinct right

above_none : (n : ℕ) → (n == 0) ≡ false → 0 < n
above_none zero e = absurd cc
above_none (suc n) e = omega arith

pub counts_take : (place : ℕ) (pairs : List Pair) (c : Counts) → MapFits Global [] pairs → counts_at place pairs ≡ Ok c → CountsTaken pairs c
unfolding counts_at
counts_take place pairs c fit e =
    let f = bind_ok _ _ c e in
    let v = bind_ok _ _ c f.2 in
    let i = bind_ok _ _ c v.2 in
    let o = bind_ok _ _ c i.2 in
    let some_in = guard_ok _ _ _ _ o.2 in
    let some_out = guard_ok _ _ _ _ some_in.1 in
    let m = (map_is Global pairs fit).0 in
    let right = forms_take place pairs f.0 f.1 in
    let version : Numbers pairs 2 (Some v.0) = subst (Numbers pairs 2) (needed_ok 2 _ v.0 v.1) (number_known 2 pairs (omega arith) m (right_value 2 pairs m right.version (omega arith))) in
    let locktime = number_known 3 pairs (omega arith) m (right_value 3 pairs m right.locktime (omega arith)) in
    let inputs : Totals pairs 4 (Some i.0) = subst (Totals pairs 4) (needed_ok 4 _ i.0 i.1) (total_known 4 pairs (omega arith) m (right_value 4 pairs m right.inputs (omega arith))) in
    let outputs : Totals pairs 5 (Some o.0) = subst (Totals pairs 5) (needed_ok 5 _ o.0 o.1) (total_known 5 pairs (omega arith) m (right_value 5 pairs m right.outputs (omega arith))) in
    let lock : Option ℕ = option_and_then number32_in (value_of 3 pairs) in
    let made : Counts = record { version = v.0; locktime = told_or 0 lock; inputs = i.0; outputs = o.0 } in
    subst (CountsTaken pairs) (ok_is made c (Ok made) refl some_out.1) (record {
      pairs_fit = fields_map pairs m right;
      unmixed = none_mixed pairs m right.unmixed;
      tx_version = version.tells;
      version_fits = version.fits;
      locktime = or_tells pairs 3 (to_le_bytes w32) 0 lock locktime.tells;
      locktime_fits = or_fits (λ (n : ℕ). n < 2 ^ 32) 0 lock locktime.fits (omega arith);
      inputs = inputs.tells;
      inputs_some = above_none i.0 some_in.0;
      inputs_fit = inputs.fits;
      outputs = outputs.tells;
      outputs_some = above_none o.0 some_out.0;
      outputs_fit = outputs.fits;
    })

two_is : (o : Option ℕ) → told_or 0 o ≡ 2 → o ≡ Some 2
two_is None e = absurd (omega (arith, e))
two_is (Some n) e = ap (λ (m : ℕ). Some m) e

-- a map that was read as one of version 2 tells that
pub version_told : (pairs : List Pair) → MapFits Global [] pairs → version_of pairs ≡ 2 → HasKnownPair pairs 251 (to_le_bytes w32) (Some 2)
version_told pairs fit is =
    let m = map_is Global pairs fit in
    let known = number_known 251 pairs (omega arith) m.0 (held Global pairs m.1 251 (omega arith) number32_in (λ value fits. fits)) in
    let told : Numbers pairs 251 (Some 2) = subst (Numbers pairs 251) (two_is _ is) known in
    told.tells

-- ---- what they tell is read

pub right_of : (kind : ℕ) (pairs : List Pair) → kind < 253 → IsMap global_field_types pairs → Contains global_field_types kind → ((p : Pair) → Contains pairs p → p ≡ typed kind p.value → field_fits kind p.value ≡ true) → All (IsRight kind) pairs
right_of kind pairs small m listed fits = λ i d lt. right_at (get_or pairs i d) (m.each i d lt) (Contains-get_or pairs i d lt)
  where
    right_at : (p : Pair) → IsPair global_field_types p → Contains pairs p → IsRight kind p
    right_at p q has = elim (cases_Bool (begins kind p.key)) [
      | inl begun ↦
          let is : q.key.kind ≡ kind = kind_begun kind q.key.kind q.key.key_data small (subst (λ (l : List ℕ). begins kind l ≡ true) q.key.parts begun) in
          let whole : p ≡ typed kind p.value = typed_is global_field_types p q.key kind is listed in
          let one : length p.key ≡ 1 = ap (λ (r : Pair). length r.key) whole ∙ ap (λ (l : List ℕ). length l) (compact1 kind small) in
          and_right (begins kind p.key) _ (not_from_true _ (and_from (length p.key == 1) (field_fits kind p.value) (eq-eqb (length p.key) 1 one) (fits p has whole)))
      | inr other ↦ and_left (begins kind p.key) _ other
    ]

none_there : (pairs : List Pair) → ((value : List ℕ) → Contains pairs (typed 0 value) → ⊥) → (p : Pair) → Contains pairs p → p ≡ typed 0 p.value → field_fits 0 p.value ≡ true
none_there pairs unmixed p has is = absurd (unmixed p.value (subst (λ (r : Pair). Contains pairs r) is has))

pub fields_right : (tx : Transaction) (pairs : List Pair) → IsGlobalFields tx pairs → IsTransaction tx → FormsRight pairs
fields_right tx pairs is text = record {
  unmixed = right_of 0 pairs (omega arith) is.pairs_fit (0, omega arith, refl) (none_there pairs is.unmixed);
  version = right_of 2 pairs (omega arith) is.pairs_fit (1, omega arith, refl) (known_holds number32_in (to_le_bytes w32) (λ n. n < 2 ^ 32) number32_decodes pairs 2 (Some tx.version) is.tx_version text.version);
  locktime = right_of 3 pairs (omega arith) is.pairs_fit (2, omega arith, refl) (or_holds number32_in (to_le_bytes w32) (λ n. n < 2 ^ 32) number32_decodes pairs 3 0 tx.locktime is.locktime text.locktime);
  inputs = right_of 4 pairs (omega arith) is.pairs_fit (3, omega arith, refl) (known_holds count_in compact (λ n. n < 2 ^ 64) count_decodes pairs 4 (Some (length tx.inputs)) is.inputs text.inputs_len);
  outputs = right_of 5 pairs (omega arith) is.pairs_fit (4, omega arith, refl) (known_holds count_in compact (λ n. n < 2 ^ 64) count_decodes pairs 5 (Some (length tx.outputs)) is.outputs text.outputs_len);
}

abbrev pub counts_of : Transaction → Counts
counts_of tx = record { version = tx.version; locktime = tx.locktime; inputs = length tx.inputs; outputs = length tx.outputs }

abbrev locked_at : Transaction → ℕ → Counts
locked_at tx lock = record { version = tx.version; locktime = lock; inputs = length tx.inputs; outputs = length tx.outputs }

some_count : (n : ℕ) → 0 < n → (n == 0) ≡ false
some_count n some = ne_eqb n 0 (λ e. absurd (omega (arith, some, e)))

pub counts_again : (place : ℕ) (tx : Transaction) (pairs : List Pair) → IsGlobalFields tx pairs → IsTransaction tx → counts_at place pairs ≡ Ok (counts_of tx)
unfolding counts_at
counts_again place tx pairs is text =
    let version = needed_is 2 _ tx.version (known_again number32_in (to_le_bytes w32) (λ n. n < 2 ^ 32) number32_decodes pairs 2 (Some tx.version) (omega arith) is.tx_version text.version) in
    let inputs = needed_is 4 _ (length tx.inputs) (known_again count_in compact (λ n. n < 2 ^ 64) count_decodes pairs 4 (Some (length tx.inputs)) (omega arith) is.inputs text.inputs_len) in
    let outputs = needed_is 5 _ (length tx.outputs) (known_again count_in compact (λ n. n < 2 ^ 64) count_decodes pairs 5 (Some (length tx.outputs)) (omega arith) is.outputs text.outputs_len) in
    let lock = or_again number32_in (to_le_bytes w32) (λ n. n < 2 ^ 32) number32_decodes pairs 3 0 tx.locktime (omega arith) is.locktime text.locktime in
    bind_is _ _ _ _ (forms_again place pairs (fields_right tx pairs is text))
    (bind_is _ _ _ _ version
    (bind_is _ _ _ _ inputs
    (bind_is _ _ _ _ outputs
    (rw (some_count (length tx.inputs) text.inputs_some, some_count (length tx.outputs) text.outputs_some) (ap (λ (n : ℕ). Ok (locked_at tx n)) lock)))))

pub fields_version : (tx : Transaction) (pairs : List Pair) → IsGlobalFields tx pairs → version_of pairs ≡ 2
fields_version tx pairs is = ap (λ (o : Option ℕ). told_or 0 o) (known_again number32_in (to_le_bytes w32) (λ n. n < 2 ^ 32) number32_decodes pairs 251 (Some 2) (omega arith) is.version (omega arith))

global_key : (kind : ℕ) → Contains global_types kind → Contains global_field_types kind
global_key kind (zero, lt, is) = (0, omega arith, is)
global_key kind (suc zero, lt, is) = (5, omega arith, is)
global_key kind (suc (suc i), lt, is) = absurd (omega (arith, lt))

global_pair : (p : Pair) → IsPair global_field_types p → IsPair global_types p
global_pair p q = record {
  key = record { kind = q.key.kind; key_data = q.key.key_data; kind_fits = q.key.kind_fits; parts = q.key.parts; whole = λ listed. q.key.whole (global_key q.key.kind listed) };
  key_fits = q.key_fits;
  value_fits = q.value_fits;
}

pub fields_fit_global : (tx : Transaction) (pairs : List Pair) → IsGlobalFields tx pairs → MapFits Global [] pairs
fields_fit_global tx pairs is =
    let m : IsMap global_types pairs = record { each = λ i d lt. global_pair (get_or pairs i d) (is.pairs_fit.each i d lt); distinct = is.pairs_fit.distinct } in
    let values : (p : Pair) (q : IsPair global_types p) → Contains pairs p → ValueIs Global q.key.kind p.value = λ p q has. global_value q.key.kind p.value (λ version.
    known_holds number32_in (to_le_bytes w32) (λ n. n < 2 ^ 32) number32_decodes pairs 251 (Some 2) is.version (omega arith) p has (typed_is global_types p q.key 251 version (1, omega arith, refl))) in
    map_fits Global pairs m values
