-- A pair that is read is spelled by its text, and that text is read as it.
use Rattle.std.proofs.Common.{◌≡◌, ℕ, zero, suc, ◌^◌, ◌<◌, Bool, true, false, cond, ltb, get_or, List, [], ◌∷◌, ◌++◌, length, Ok, refl, sym, ap, subst, ◌∙◌, append_assoc, arith, inl, inr}
use Rattle.std.specs.Prelude.{Option, Some, None, Contains, not, ◌||◌, ◌&&◌, ◌==◌, is_some}
use Rattle.std.proofs.lemmas.Bool.{eqb-true, eq-eqb, ne_eqb, or_cases, or_left, or_right, not-false, not_from_true, and_cases, and_from, and_left, and_parts, and_right, cond_both, both_ways, cases_Bool}
use Rattle.std.proofs.lemmas.List.{nil_from_length, length-append}
use Rattle.fund_base.specs.CompactSize.{compact, prefixed}
use Rattle.fund_base.specs.Cursor.{At, IsBytes, take_at as bytes_at, compact_at}
use Rattle.fund_base.specs.Parsing.{string_at}
use Rattle.fund_base.proofs.Laws.{bind_ok, bind_is, guard_ok, guard_met, ok_is, told_ok, told_is, Takes, takes_then, Again, Reads, reads_told}
use Rattle.fund_base.proofs.LawsOfNumbers.{bytes_reads, count_reads, string_reads}
use Rattle.psbt_codec.specs.declared.pairs.Part.{Part}
use Rattle.psbt_codec.specs.declared.pairs.Part.TheVariants.{Global, Input, Output, InputFields, OutputFields}
use Rattle.psbt_codec.specs.Fault.{cut_fault, type_fault}
use Rattle.psbt_codec.specs.Psbt.{Pair, pair_text, IsString, IsKey, IsPair, global_types, input_types, input_field_types, output_field_types}
use Rattle.psbt_codec.specs.Reading.{cut, start, tx_in, paid_in, number32_in, number64_in, txid_in, has_meaning, kind_in, form_fits, input_field_fits, spent_fits, value_fits, has_key, keyed_at, pair_at}

bytes : (n : ℕ) → Reads (λ at. cut (bytes_at n at)) (λ x. x) (λ x. (length x ≡ n) × IsBytes x)
bytes n = reads_told cut_fault (bytes_at n) (λ x. x) (λ x. (length x ≡ n) × IsBytes x) (bytes_reads n)

count : Reads (λ at. cut (compact_at at)) compact (λ n. n < 2 ^ 64)
count = reads_told cut_fault compact_at compact (λ n. n < 2 ^ 64) count_reads

string : Reads (λ at. cut (string_at at)) prefixed IsString
string = reads_told cut_fault string_at prefixed IsString string_reads

-- ---- the type of a key

-- the types that have a meaning in a map of this part
abbrev pub types_of : Part → List ℕ
types_of Global = global_types
types_of Input = input_types
types_of Output = []
types_of InputFields = input_field_types
types_of OutputFields = output_field_types

one_of_two : (m n kind : ℕ) → (kind == m || kind == n) ≡ true → Contains (m ∷ n ∷ []) kind
one_of_two m n kind e =
    elim (or_cases (kind == m) (kind == n) e) [
      | inl first ↦ (0, omega arith, sym (eqb-true kind m first))
      | inr second ↦ (1, omega arith, sym (eqb-true kind n second))
    ]

is_one_of : (m n kind i : ℕ) → i < 2 → get_or (m ∷ n ∷ []) i kind ≡ kind → (kind == m || kind == n) ≡ true
is_one_of m n kind zero lt e = or_left (kind == m) (kind == n) (eq-eqb kind m (sym e))
is_one_of m n kind (suc zero) lt e = or_right (kind == m) (kind == n) (eq-eqb kind n (sym e))
is_one_of m n kind (suc (suc i)) lt e = absurd (omega arith)

own_listed : (kind : ℕ) → (kind == 14 || (kind == 15 || kind == 16)) ≡ true → Contains input_field_types kind
own_listed kind e =
    elim (or_cases (kind == 14) (kind == 15 || kind == 16) e) [
      | inl txid ↦ (2, omega arith, sym (eqb-true kind 14 txid))
      | inr later ↦ elim (or_cases (kind == 15) (kind == 16) later) [
        | inl index ↦ (3, omega arith, sym (eqb-true kind 15 index))
        | inr sequence ↦ (4, omega arith, sym (eqb-true kind 16 sequence))
      ]
    ]

field_listed : (kind : ℕ) → has_meaning InputFields kind ≡ true → Contains input_field_types kind
field_listed kind e =
    elim (or_cases (kind == 0 || kind == 1) (kind == 14 || (kind == 15 || kind == 16)) e) [
      | inl known ↦ elim (or_cases (kind == 0) (kind == 1) known) [
        | inl whole ↦ (0, omega arith, sym (eqb-true kind 0 whole))
        | inr paid ↦ (1, omega arith, sym (eqb-true kind 1 paid))
      ]
      | inr own ↦ own_listed kind own
    ]

is_field : (kind i : ℕ) → i < 5 → get_or input_field_types i kind ≡ kind → has_meaning InputFields kind ≡ true
is_field kind zero lt e = or_left (kind == 0 || kind == 1) _ (or_left (kind == 0) (kind == 1) (eq-eqb kind 0 (sym e)))
is_field kind (suc zero) lt e = or_left (kind == 0 || kind == 1) _ (or_right (kind == 0) (kind == 1) (eq-eqb kind 1 (sym e)))
is_field kind (suc (suc zero)) lt e = or_right (kind == 0 || kind == 1) _ (or_left (kind == 14) _ (eq-eqb kind 14 (sym e)))
is_field kind (suc (suc (suc zero))) lt e = or_right (kind == 0 || kind == 1) _ (or_right (kind == 14) _ (or_left (kind == 15) _ (eq-eqb kind 15 (sym e))))
is_field kind (suc (suc (suc (suc zero)))) lt e = or_right (kind == 0 || kind == 1) _ (or_right (kind == 14) _ (or_right (kind == 15) _ (eq-eqb kind 16 (sym e))))
is_field kind (suc (suc (suc (suc (suc i))))) lt e = absurd (omega arith)

pub meaning_listed : (part : Part) (kind : ℕ) → has_meaning part kind ≡ true → Contains (types_of part) kind
meaning_listed Global kind e = one_of_two 0 251 kind e
meaning_listed Input kind e = one_of_two 0 1 kind e
meaning_listed Output kind e = absurd cc
meaning_listed InputFields kind e = field_listed kind e
meaning_listed OutputFields kind e = one_of_two 3 4 kind e

pub listed_meaning : (part : Part) (kind : ℕ) → Contains (types_of part) kind → has_meaning part kind ≡ true
listed_meaning Global kind c = is_one_of 0 251 kind c.0 c.1 c.2
listed_meaning Input kind c = is_one_of 0 1 kind c.0 c.1 c.2
listed_meaning Output kind c = absurd (omega (arith, c.1))
listed_meaning InputFields kind c = is_field kind c.0 c.1 c.2
listed_meaning OutputFields kind c = is_one_of 3 4 kind c.0 c.1 c.2

-- a key whose type was read
pub record KeyOf (part : Part) (kind : ℕ) (key : List ℕ) : Type 0 where
  pub is_key : IsKey (types_of part) key
  pub kind_is : is_key.kind ≡ kind

unmarked : (part : Part) (kind : ℕ) (key_data : List ℕ) → (has_meaning part kind && not (length key_data == 0)) ≡ false → Contains (types_of part) kind → key_data ≡ []
unmarked part kind key_data free listed =
    elim (and_cases (has_meaning part kind) (not (length key_data == 0)) free) [
      | inl none ↦ absurd (both_ways (has_meaning part kind) none (listed_meaning part kind listed))
      | inr whole ↦ nil_from_length key_data (eqb-true _ _ (not-false _ whole))
    ]

free_from : (part : Part) (kind : ℕ) (key_data : List ℕ) → (Contains (types_of part) kind → key_data ≡ []) → (has_meaning part kind && not (length key_data == 0)) ≡ false
free_from part kind key_data whole =
    elim (cases_Bool (has_meaning part kind)) [
      | inl some ↦ and_right (has_meaning part kind) _ (not_from_true _ (eq-eqb _ _ (ap (λ (l : List ℕ). length l) (whole (meaning_listed part kind some)))))
      | inr none ↦ and_left (has_meaning part kind) _ none
    ]

kind_takes : (part : Part) (pair_place key_place : ℕ) (key : List ℕ) (kind : ℕ) → IsBytes key → kind_in part pair_place key_place key ≡ Ok kind → KeyOf part kind key
unfolding kind_in
kind_takes part pair_place key_place key kind fits e =
    let a = bind_ok _ _ kind e in
    let g = guard_ok _ _ _ _ a.2 in
    let n = count_reads.takes (start key) a.0 fits (told_ok (type_fault pair_place key_place) (compact_at (start key)) a.0 a.1) in
    record {
      is_key = record { kind = a.0.0; key_data = a.0.1.rest; kind_fits = n.1; parts = n.0.parts; whole = unmarked part a.0.0 a.0.1.rest g.0 };
      kind_is = ok_is a.0.0 kind (Ok a.0.0) refl g.1;
    }

kind_again : (part : Part) (pair_place key_place : ℕ) (key : List ℕ) (k : IsKey (types_of part) key) → kind_in part pair_place key_place key ≡ Ok k.kind
unfolding kind_in
kind_again part pair_place key_place key k =
    let a = count_reads.again k.kind (start key) k.key_data k.kind_fits k.parts in
    let free : (has_meaning part k.kind && not (length a.next.rest == 0)) ≡ false = free_from part k.kind a.next.rest (λ listed. a.left ∙ k.whole listed) in
    bind_is _ _ _ _ (told_is (type_fault pair_place key_place) (compact_at (start key)) (k.kind, a.next) a.reads) (rw free refl)

-- ---- the value of a pair

-- a value that is as its type asks
abbrev pub ValueIs : Part → ℕ → List ℕ → Type 0
ValueIs part kind value = form_fits part kind value ≡ true

value_takes : (part : Part) (place kind : ℕ) (value : List ℕ) → value_fits part place kind value ≡ Ok tt → ValueIs part kind value
unfolding value_fits
value_takes part place kind value e = (guard_met _ _ _ _ e).0

value_again : (part : Part) (place kind : ℕ) (value : List ℕ) → ValueIs part kind value → value_fits part place kind value ≡ Ok tt
unfolding value_fits
value_again part place kind value is = rw is refl

-- what holds of one of two holds of what a test picks
pub picks : (b x y : Bool) → (b ≡ true → x ≡ true) → (b ≡ false → y ≡ true) → cond b x y ≡ true
picks true x y h k = h refl
picks false x y h k = k refl

-- ---- the values of each part

spent_is : (kind : ℕ) (value : List ℕ) → (kind ≡ 0 → is_some (tx_in value) ≡ true) → (kind ≡ 1 → is_some (paid_in value) ≡ true) → spent_fits kind value ≡ true
spent_is kind value whole paid =
    picks (kind == 0) _ _ (λ e. whole (eqb-true kind 0 e)) (λ _.
    picks (kind == 1) _ true (λ e. paid (eqb-true kind 1 e)) (λ _. refl))

pub global_value : (kind : ℕ) (value : List ℕ) → (kind ≡ 251 → is_some (number32_in value) ≡ true) → ValueIs Global kind value
global_value kind value version = picks (kind == 251) _ true (λ e. version (eqb-true kind 251 e)) (λ _. refl)

pub input_value : (kind : ℕ) (value : List ℕ) → (kind ≡ 0 → is_some (tx_in value) ≡ true) → (kind ≡ 1 → is_some (paid_in value) ≡ true) → ValueIs Input kind value
input_value kind value whole paid = spent_is kind value whole paid

-- what a value of an input's map of version 2 must be
pub record FieldFits (kind : ℕ) (value : List ℕ) : Type 0 where
  pub whole : kind ≡ 0 → is_some (tx_in value) ≡ true
  pub paid : kind ≡ 1 → is_some (paid_in value) ≡ true
  pub txid : kind ≡ 14 → is_some (txid_in value) ≡ true
  pub index : kind ≡ 15 → is_some (number32_in value) ≡ true
  pub sequence : kind ≡ 16 → is_some (number32_in value) ≡ true

own_is : (kind : ℕ) (value : List ℕ) → FieldFits kind value → input_field_fits kind value ≡ true
own_is kind value f =
    picks (kind == 14) _ _ (λ e. f.txid (eqb-true kind 14 e)) (λ _.
    picks (kind == 15 || kind == 16) _ true (λ e. elim (or_cases (kind == 15) (kind == 16) e) [
      | inl index ↦ f.index (eqb-true kind 15 index)
      | inr sequence ↦ f.sequence (eqb-true kind 16 sequence)
    ]) (λ _. refl))

pub field_value : (kind : ℕ) (value : List ℕ) → FieldFits kind value → ValueIs InputFields kind value
field_value kind value f = and_from (spent_fits kind value) (input_field_fits kind value) (spent_is kind value f.whole f.paid) (own_is kind value f)

pub output_value : (kind : ℕ) (value : List ℕ) → (kind ≡ 3 → is_some (number64_in value) ≡ true) → ValueIs OutputFields kind value
output_value kind value amount = picks (kind == 3) _ true (λ e. amount (eqb-true kind 3 e)) (λ _. refl)

-- the same of a value whose type is known
at_kind : (part : Part) (kind known : ℕ) (value : List ℕ) → kind ≡ known → ValueIs part kind value → ValueIs part known value
at_kind part kind known value is fits = subst (λ (k : ℕ). ValueIs part k value) is fits

pub global_fits : (kind : ℕ) (value : List ℕ) → ValueIs Global kind value → kind ≡ 251 → is_some (number32_in value) ≡ true
global_fits kind value fits is = at_kind Global kind 251 value is fits

pub whole_fits : (kind : ℕ) (value : List ℕ) → ValueIs Input kind value → kind ≡ 0 → is_some (tx_in value) ≡ true
whole_fits kind value fits is = at_kind Input kind 0 value is fits

pub paid_fits : (kind : ℕ) (value : List ℕ) → ValueIs Input kind value → kind ≡ 1 → is_some (paid_in value) ≡ true
paid_fits kind value fits is = at_kind Input kind 1 value is fits

pub fields_fit : (kind : ℕ) (value : List ℕ) → ValueIs InputFields kind value → FieldFits kind value
fields_fit kind value fits = record {
  whole = λ is. (and_parts (spent_fits 0 value) _ (at_kind InputFields kind 0 value is fits)).0;
  paid = λ is. (and_parts (spent_fits 1 value) _ (at_kind InputFields kind 1 value is fits)).0;
  txid = λ is. (and_parts (spent_fits 14 value) (input_field_fits 14 value) (at_kind InputFields kind 14 value is fits)).1;
  index = λ is. (and_parts (spent_fits 15 value) (input_field_fits 15 value) (at_kind InputFields kind 15 value is fits)).1;
  sequence = λ is. (and_parts (spent_fits 16 value) (input_field_fits 16 value) (at_kind InputFields kind 16 value is fits)).1;
}

pub amount_fits : (kind : ℕ) (value : List ℕ) → ValueIs OutputFields kind value → kind ≡ 3 → is_some (number64_in value) ≡ true
amount_fits kind value fits is = at_kind OutputFields kind 3 value is fits

-- ---- a pair after others of its map

-- a pair that a map of this part can have
pub record PairFits (part : Part) (p : Pair) : Type 0 where
  pub is_pair : IsPair (types_of part) p
  pub value_is : ValueIs part is_pair.key.kind p.value

-- and whose key none of these has
pub record FitsBehind (part : Part) (before : List Pair) (p : Pair) : Type 0 where
  pub fits : PairFits part p
  pub fresh : has_key p.key before ≡ false

-- what is read after the length of a key
abbrev keyed_text : Pair → List ℕ
keyed_text p = p.key ++ prefixed p.value

keyed_takes : (part : Part) (before : List Pair) (place len : ℕ) (at : At) (x : Pair × At) → IsBytes at.rest → len < 2 ^ 64 → keyed_at part before place len at ≡ Ok x
    → (Takes at (keyed_text x.0) x.1 × (length x.0.key ≡ len)) × FitsBehind part before x.0
unfolding keyed_at
keyed_takes part before place len at x fits small e =
    let a = bind_ok _ _ x e in
    let g = guard_ok _ _ _ _ a.2 in
    let b = bind_ok _ _ x g.1 in
    let c = bind_ok _ _ x b.2 in
    let d = bind_ok _ _ x c.2 in
    let ta = (bytes len).takes at a.0 fits a.1 in
    let tc = string.takes a.0.1 c.0 ta.0.rest_fits c.1 in
    let key = kind_takes part place at.place a.0.0 b.0 ta.1.1 b.1 in
    let value = value_takes part place b.0 c.0.0 d.1 in
    let made : Pair × At = (record { key = a.0.0; value = c.0.0 }, c.0.1) in
    let is_pair : IsPair (types_of part) made.0 = record { key = key.is_key; key_fits = (ta.1.1, omega (arith, ta.1.0)); value_fits = tc.1 } in
    let right : FitsBehind part before made.0 = record { fits = record { is_pair = is_pair; value_is = rw key.kind_is value }; fresh = g.0 } in
    let both = takes_then at a.0.1 c.0.1 a.0.0 (prefixed c.0.0) ta.0 tc.0 in
    subst (λ (y : Pair × At). (Takes at (keyed_text y.0) y.1 × (length y.0.key ≡ len)) × FitsBehind part before y.0) (ok_is made x (Ok made) refl d.2) ((both, ta.1.0), right)

keyed_again : (part : Part) (before : List Pair) (place : ℕ) (p : Pair) (at : At) (rest : List ℕ) → FitsBehind part before p → at.rest ≡ keyed_text p ++ rest → Again (keyed_at part before place (length p.key) at) p rest
unfolding keyed_at
keyed_again part before place p at rest fits is =
    let q = fits.fits.is_pair in
    let a = (bytes (length p.key)).again p.key at (prefixed p.value ++ rest) (refl, q.key_fits.0) (is ∙ append_assoc p.key (prefixed p.value) rest) in
    let c = string.again p.value a.next rest q.value_fits a.left in
    let kind = kind_again part place at.place p.key q.key in
    let value = value_again part place q.key.kind p.value fits.fits.value_is in
    record { next = c.next; reads = bind_is _ _ _ _ a.reads (rw (fits.fresh) (bind_is _ _ _ _ kind (bind_is _ _ _ _ c.reads (bind_is _ _ _ _ value refl)))); left = c.left }

-- ---- a pair, or the end of the map

-- what was read after these pairs
abbrev pub PairRead : Part → List Pair → At → Option Pair × At → Type 0
PairRead part before at (None, next) = Takes at (0 ∷ []) next
PairRead part before at (Some p, next) = Takes at (pair_text p) next × FitsBehind part before p

none_text : compact 0 ≡ 0 ∷ []
unfolding compact
none_text = refl

pair_parts : (p : Pair) → pair_text p ≡ compact (length p.key) ++ keyed_text p
unfolding pair_text
pair_parts p = append_assoc (compact (length p.key)) p.key (prefixed p.value)

pub pair_takes : (part : Part) (before : List Pair) (at : At) (x : Option Pair × At) → IsBytes at.rest → pair_at part before at ≡ Ok x → PairRead part before at x
unfolding pair_at
pair_takes part before at x fits e =
    let a = bind_ok _ _ x e in
    let n = count.takes at a.0 fits a.1 in
    elim (cases_Bool (a.0.0 == 0)) [
      | inl none ↦
          let end : Takes at (0 ∷ []) a.0.1 = subst (λ (l : List ℕ). Takes at l a.0.1) (ap compact (eqb-true a.0.0 0 none) ∙ none_text) n.0 in
          subst (λ (y : Option Pair × At). PairRead part before at y) (ok_is (None, a.0.1) x (Ok (None, a.0.1)) refl (rw none at a.2)) end
      | inr some ↦
          let b = bind_ok _ _ x (rw some at a.2) in
          let t = keyed_takes part before at.place a.0.0 a.0.1 b.0 n.0.rest_fits n.1 b.1 in
          let length_is : Takes at (compact (length b.0.0.key)) a.0.1 = subst (λ (k : ℕ). Takes at (compact k) a.0.1) (sym t.0.1) n.0 in
          let text : Takes at (pair_text b.0.0) b.0.1 = rw pair_parts (takes_then at a.0.1 b.0.1 (compact (length b.0.0.key)) (keyed_text b.0.0) length_is t.0.0) in
          subst (λ (y : Option Pair × At). PairRead part before at y) (ok_is (Some b.0.0, b.0.1) x (Ok (Some b.0.0, b.0.1)) refl b.2) (text, t.1)
    ]

pub compact_some : (n : ℕ) → 0 < length (compact n)
unfolding compact
compact_some n =
    let some : List ℕ → Type 0 = λ l. 0 < length l in
    cond_both (ltb n 253) _ _ some (λ _. omega arith)
    (λ _. cond_both (ltb n 65536) _ _ some (λ _. omega arith)
    (λ _. cond_both (ltb n 4294967296) _ _ some (λ _. omega arith) (λ _. omega arith)))

key_some : (part : Part) (p : Pair) → IsPair (types_of part) p → (length p.key == 0) ≡ false
key_some part p q = ne_eqb (length p.key) 0 (λ none. omega (arith, none, ap (λ (l : List ℕ). length l) q.key.parts, length-append (compact q.key.kind) q.key.key_data, compact_some q.key.kind))

pub pair_again : (part : Part) (before : List Pair) (p : Pair) (at : At) (rest : List ℕ) → FitsBehind part before p → at.rest ≡ pair_text p ++ rest → Again (pair_at part before at) (Some p) rest
unfolding pair_at
pair_again part before p at rest fits is =
    let q = fits.fits.is_pair in
    let parted : at.rest ≡ compact (length p.key) ++ (keyed_text p ++ rest) = is ∙ ap (λ (l : List ℕ). l ++ rest) (pair_parts p) ∙ append_assoc (compact (length p.key)) (keyed_text p) rest in
    let a = count.again (length p.key) at (keyed_text p ++ rest) q.key_fits.1 parted in
    let b = keyed_again part before at.place p a.next rest fits a.left in
    record { next = b.next; reads = bind_is _ _ _ _ a.reads (rw (key_some part p q) (bind_is _ _ _ _ b.reads refl)); left = b.left }

pub end_again : (part : Part) (before : List Pair) (at : At) (rest : List ℕ) → at.rest ≡ 0 ∷ rest → Again (pair_at part before at) None rest
unfolding pair_at
end_again part before at rest is =
    let a = count.again 0 at rest (omega arith) (is ∙ ap (λ (l : List ℕ). l ++ rest) (sym none_text)) in
    record { next = a.next; reads = bind_is _ _ _ _ a.reads refl; left = a.left }
