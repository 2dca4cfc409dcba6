-- The types of a global map of version 2: which pair of them is the first that is misformed.
use Rattle.std.proofs.Common.{◌≡◌, ◌+◌, ◌<◌, ℕ, Bool, true, false, List, [], ◌∷◌, ◌++◌, length, All, Result, Err, refl, sym, ap, subst, ◌∙◌, arith, inl, inr}
use Rattle.std.specs.Prelude.{is_some, not, ◌&&◌, ◌==◌, ⊤}
use Rattle.std.specs.List.{flat_map, AllByRecursion}
use Rattle.std.proofs.lemmas.Bool.{cases_Bool, both_ways, eqb-true, eqb-false, eq-eqb, ne_eqb, and_from, and_parts, not_from_true, false_from_ne_true}
use Rattle.std.proofs.lemmas.List.{length-append, nil_from_length}
use Rattle.std.proofs.lemmas.List.Concat.{flat_map-cons}
use Rattle.std.proofs.lemmas.List.Elements.{All-from_recursion, recursion_from_All}
use Rattle.fund_base.specs.CompactSize.{compact}
use Rattle.fund_base.specs.Cursor.{At, IsBytes}
use Rattle.fund_base.specs.Parsing.{◌>>=◌}
use Rattle.fund_base.proofs.LawsOfNumbers.{compact1}
use Rattle.psbt_codec.specs.declared.fault.PsbtFault.{PsbtFault}
use Rattle.psbt_codec.specs.Psbt.{Pair, pair_text, map_text}
use Rattle.psbt_codec.specs.Reading.{begins, count_in, field_fits, is_wrong, number32_in, right_from, wrong_fault}
use Rattle.psbt_codec.proofs.CountMeaning.{IsRight, all_right, right_all}
use Rattle.psbt_codec.proofs.Decoded.{count_decodes}
use Rattle.psbt_codec.proofs.KeyBytes.{begun_key, begun_type, type_begins}
use Rattle.tx_laws.proofs.Judged.{Judged}
use Rattle.psbt_laws.specs.Fields.{Field, Breaks, HoldsCount, IsMisformed, IsRightGlobal, form_fault}
use Rattle.psbt_laws.specs.Fields.Field.{Form}
use Rattle.psbt_laws.specs.Order.{AreFormed, Tested}
use Rattle.psbt_laws.proofs.Keys.{decoded, encoded, len4, some4}
use Rattle.psbt_laws.proofs.Steps.{tested_then}

-- ---- what a type asks of a value

-- a type is right exactly where the reader finds it so
pub record IsType (kind : ℕ) : Type 0 where
  pub small : kind < 253
  pub right : (value : List ℕ) → IsBytes value → field_fits kind value ≡ true → IsRightGlobal kind value
  pub form : (value : List ℕ) → IsBytes value → IsRightGlobal kind value → field_fits kind value ≡ true

neither : (kind : ℕ) (value : List ℕ) → (kind ≡ 2 → ⊥) → (kind ≡ 3 → ⊥) → (kind ≡ 4 → ⊥) → (kind ≡ 5 → ⊥) → IsRightGlobal kind value → ⊥
neither kind value n2 n3 n4 n5 (inl (inl e, _)) = n2 e
neither kind value n2 n3 n4 n5 (inl (inr e, _)) = n3 e
neither kind value n2 n3 n4 n5 (inr (inl e, _)) = n4 e
neither kind value n2 n3 n4 n5 (inr (inr e, _)) = n5 e

pub mixed_type : IsType 0
mixed_type = record {
  small = omega arith;
  right = λ value fits e. absurd cc;
  form = λ value fits is. absurd (neither 0 value (λ e. absurd (omega (arith, e))) (λ e. absurd (omega (arith, e))) (λ e. absurd (omega (arith, e))) (λ e. absurd (omega (arith, e))) is);
}

number_form : (kind : ℕ) (value : List ℕ) → IsBytes value → (kind ≡ 4 → ⊥) → (kind ≡ 5 → ⊥) → IsRightGlobal kind value → is_some (number32_in value) ≡ true
number_form kind value fits n4 n5 (inl (_, len)) = some4 value fits len
number_form kind value fits n4 n5 (inr (inl e, _)) = absurd (n4 e)
number_form kind value fits n4 n5 (inr (inr e, _)) = absurd (n5 e)

pub version_type : IsType 2
version_type = record {
  small = omega arith;
  right = λ value fits e. inl (inl refl, len4 value fits e);
  form = λ value fits is. number_form 2 value fits (λ e. absurd (omega (arith, e))) (λ e. absurd (omega (arith, e))) is;
}

pub locktime_type : IsType 3
locktime_type = record {
  small = omega arith;
  right = λ value fits e. inl (inr refl, len4 value fits e);
  form = λ value fits is. number_form 3 value fits (λ e. absurd (omega (arith, e))) (λ e. absurd (omega (arith, e))) is;
}

pub count_right : (value : List ℕ) → IsBytes value → is_some (count_in value) ≡ true → HoldsCount value
count_right value fits e = decoded count_in compact (λ n. n < 18446744073709551616) count_decodes value fits e

count_form : (kind : ℕ) (value : List ℕ) → (kind ≡ 2 → ⊥) → (kind ≡ 3 → ⊥) → IsRightGlobal kind value → is_some (count_in value) ≡ true
count_form kind value n2 n3 (inl (inl e, _)) = absurd (n2 e)
count_form kind value n2 n3 (inl (inr e, _)) = absurd (n3 e)
count_form kind value n2 n3 (inr (_, holds)) = encoded count_in compact (λ n. n < 18446744073709551616) count_decodes value holds

pub inputs_type : IsType 4
inputs_type = record {
  small = omega arith;
  right = λ value fits e. inr (inl refl, count_right value fits e);
  form = λ value fits is. count_form 4 value (λ e. absurd (omega (arith, e))) (λ e. absurd (omega (arith, e))) is;
}

pub outputs_type : IsType 5
outputs_type = record {
  small = omega arith;
  right = λ value fits e. inr (inr refl, count_right value fits e);
  form = λ value fits is. count_form 5 value (λ e. absurd (omega (arith, e))) (λ e. absurd (omega (arith, e))) is;
}

-- ---- a pair is misformed exactly where the reader finds it wrong

wrong_misformed : (kind : ℕ) (p : Pair) → IsType kind → IsBytes p.value → is_wrong kind p ≡ true → IsMisformed kind p
wrong_misformed kind p t fits e =
    let both = and_parts (begins kind p.key) (not (length p.key == 1 && field_fits kind p.value)) e in
    record {
      type_is = begun_type kind p t.small both.0;
      wrong = λ key right.
          let one : length p.key ≡ 1 = ap (λ (l : List ℕ). length l) (key ∙ compact1 kind t.small) in
          let set : (length p.key == 1 && field_fits kind p.value) ≡ true = and_from (length p.key == 1) (field_fits kind p.value) (eq-eqb (length p.key) 1 one) (t.form p.value fits right) in
          both_ways (not (length p.key == 1 && field_fits kind p.value)) (not_from_true _ set) both.1;
    }

true_not : (b : Bool) → (b ≡ true → ⊥) → not b ≡ true
true_not true none = absurd (none refl)
true_not false none = refl

misformed_wrong : (kind : ℕ) (p : Pair) → IsType kind → IsBytes p.value → IsMisformed kind p → is_wrong kind p ≡ true
misformed_wrong kind p t fits m =
    let begun : begins kind p.key ≡ true = type_begins kind p t.small m.type_is in
    and_from (begins kind p.key) _ begun (true_not (length p.key == 1 && field_fits kind p.value) (λ set.
    let both = and_parts (length p.key == 1) (field_fits kind p.value) set in
    let b = begun_key kind p.key begun in
    let none : b.0 ≡ [] = nil_from_length b.0 (omega (arith, eqb-true (length p.key) 1 both.0, ap (λ (l : List ℕ). length l) b.1)) in
    let key : p.key ≡ compact kind = b.1 ∙ ap (λ (l : List ℕ). kind ∷ l) none ∙ sym (compact1 kind t.small) in
    m.wrong key (t.right p.value fits both.1)))

right_formed : (kind : ℕ) (p : Pair) → IsType kind → IsBytes p.value → IsRight kind p → IsMisformed kind p → ⊥
right_formed kind p t fits right m = both_ways (is_wrong kind p) right (misformed_wrong kind p t fits m)

formed_right : (kind : ℕ) (p : Pair) → IsType kind → IsBytes p.value → (IsMisformed kind p → ⊥) → IsRight kind p
formed_right kind p t fits none = false_from_ne_true (is_wrong kind p) (λ e. none (wrong_misformed kind p t fits e))

-- the bytes of each value
abbrev HasBytes : Pair → Type 0
HasBytes p = IsBytes p.value

all_formed : (kind : ℕ) (pairs : List Pair) → IsType kind → AllByRecursion HasBytes pairs → AllByRecursion (IsRight kind) pairs → AllByRecursion (λ (p : Pair). IsMisformed kind p → ⊥) pairs
all_formed kind [] t fits each = tt
all_formed kind (p ∷ pairs) t fits each = (right_formed kind p t fits.0 each.0, all_formed kind pairs t fits.1 each.1)

formed_all : (kind : ℕ) (pairs : List Pair) → IsType kind → AllByRecursion HasBytes pairs → AllByRecursion (λ (p : Pair). IsMisformed kind p → ⊥) pairs → AllByRecursion (IsRight kind) pairs
formed_all kind [] t fits each = tt
formed_all kind (p ∷ pairs) t fits each = (formed_right kind p t fits.0 each.0, formed_all kind pairs t fits.1 each.1)

-- ---- the first that is

record FirstWrong (kind start : ℕ) (pairs : List Pair) (fault : PsbtFault) : Type 0 where
  pub before : List Pair
  pub pair : Pair
  pub after : List Pair
  pub parts : pairs ≡ before ++ pair ∷ after
  pub misformed : IsMisformed kind pair
  pub earlier : AllByRecursion (λ (p : Pair). IsMisformed kind p → ⊥) before
  pub is : fault ≡ wrong_fault kind (start + length (flat_map pair_text before))

first_told : (kind start : ℕ) (pairs : List Pair) (fault : PsbtFault) → IsType kind → AllByRecursion HasBytes pairs → right_from kind start pairs ≡ Err fault → FirstWrong kind start pairs fault
unfolding right_from
first_told kind start [] fault t fits e = absurd cc
first_told kind start (p ∷ pairs) fault t fits e = elim (cases_Bool (is_wrong kind p)) [
  | inl wrong ↦
      let f = rw wrong at e in
      let here : wrong_fault kind start ≡ fault = cc in
      let none : start ≡ start + 0 = omega arith in
      record { before = []; pair = p; after = pairs; parts = refl; misformed = wrong_misformed kind p t fits.0 wrong; earlier = tt; is = sym here ∙ ap (λ (n : ℕ). wrong_fault kind n) none }
  | inr right ↦
      let r = first_told kind (start + length (pair_text p)) pairs fault t fits.1 (rw right at e) in
      let place : (start + length (pair_text p)) + length (flat_map pair_text r.before) ≡ start + length (flat_map pair_text (p ∷ r.before)) = omega (arith, ap (λ (l : List ℕ). length l) (flat_map-cons pair_text p r.before), length-append (pair_text p) (flat_map pair_text r.before)) in
      record { before = p ∷ r.before; pair = r.pair; after = r.after; parts = ap (λ (l : List Pair). p ∷ l) r.parts; misformed = r.misformed; earlier = (right_formed kind p t fits.0 right, r.earlier); is = r.is ∙ ap (λ (n : ℕ). wrong_fault kind n) place }
]

first_given : (kind start : ℕ) (before : List Pair) (pair : Pair) (after : List Pair) → IsType kind → AllByRecursion HasBytes (before ++ pair ∷ after) → AllByRecursion (λ (p : Pair). IsMisformed kind p → ⊥) before → IsMisformed kind pair
    → right_from kind start (before ++ pair ∷ after) ≡ Err (wrong_fault kind (start + length (flat_map pair_text before)))
unfolding right_from
first_given kind start [] pair after t fits earlier m =
    let none : start ≡ start + 0 = omega arith in
    rw (misformed_wrong kind pair t fits.0 m) (ap (λ (n : ℕ). Err (wrong_fault kind n)) none)
first_given kind start (p ∷ before) pair after t fits earlier m =
    let place : (start + length (pair_text p)) + length (flat_map pair_text before) ≡ start + length (flat_map pair_text (p ∷ before)) = omega (arith, ap (λ (l : List ℕ). length l) (flat_map-cons pair_text p before), length-append (pair_text p) (flat_map pair_text before)) in
    rw (formed_right kind p t fits.0 earlier.0) (first_given kind (start + length (pair_text p)) before pair after t fits.1 earlier.1 m ∙ ap (λ (n : ℕ). Err (wrong_fault kind n)) place)

fault_told : (kind place : ℕ) (fault : PsbtFault) → fault ≡ wrong_fault kind place → form_fault kind place fault
fault_told kind place fault is = elim (cases_Bool (kind == 0)) [
  | inl zero ↦ inl (eqb-true kind 0 zero, rw zero at is)
  | inr some ↦ inr (eqb-false kind 0 some, rw some at is)
]

fault_given : (kind place : ℕ) (fault : PsbtFault) → form_fault kind place fault → fault ≡ wrong_fault kind place
fault_given kind place fault (inl (zero, is)) = rw (eq-eqb kind 0 zero) is
fault_given kind place fault (inr (some, is)) = rw (ne_eqb kind 0 some) is

-- ---- as a step

pub form_then : {Y : Type 0} (kind start : ℕ) (pairs : List Pair) → IsType kind → All HasBytes pairs → (Then : List ℕ → Field → Type 0) (at : At) (f : ⊤ → Result Y PsbtFault) → IsBytes at.rest → start + length (map_text pairs) ≡ at.place → (All (IsRight kind) pairs → Judged Breaks Then at (f tt))
    → Judged Breaks (Tested (Form kind pairs) (AreFormed kind pairs) Then) at (right_from kind start pairs >>= f)
form_then kind start pairs t values Then at f fits place later =
    let each : AllByRecursion HasBytes pairs = recursion_from_All HasBytes pairs values in
    let Formed : Pair → Type 0 = λ p. IsMisformed kind p → ⊥ in
    let rights : AreFormed kind pairs → All (IsRight kind) pairs = λ formed. All-from_recursion (IsRight kind) pairs (formed_all kind pairs t each (recursion_from_All Formed pairs formed)) in
    tested_then (Form kind pairs) (AreFormed kind pairs) Then at (right_from kind start pairs) f fits
    (λ u e. All-from_recursion Formed pairs (all_formed kind pairs t each (recursion_from_All (IsRight kind) pairs (all_right kind start pairs u e))))
    (λ u formed. right_all kind start pairs (rights formed))
    (λ fault e.
    let w = first_told kind start pairs fault t each e in
    record {
      before = w.before;
      pair = w.pair;
      after = w.after;
      parts = w.parts;
      misformed = w.misformed;
      earlier = All-from_recursion Formed w.before w.earlier;
      start = start;
      start_is = place;
      is = fault_told kind (start + length (flat_map pair_text w.before)) fault w.is;
    })
    (λ fault h.
    let same : h.start ≡ start = omega (arith, h.start_is, place) in
    let inside : AllByRecursion HasBytes (h.before ++ h.pair ∷ h.after) = subst (λ (l : List Pair). AllByRecursion HasBytes l) h.parts each in
    let told : fault ≡ wrong_fault kind (start + length (flat_map pair_text h.before)) = fault_given kind (start + length (flat_map pair_text h.before)) fault (subst (λ (n : ℕ). form_fault kind (n + length (flat_map pair_text h.before)) fault) same h.is) in
    ap (right_from kind start) h.parts ∙ first_given kind start h.before h.pair h.after t inside (recursion_from_All Formed h.before h.earlier) h.misformed ∙ ap (λ (f : PsbtFault). Err f) (sym told))
    (λ formed. later (rights formed))
