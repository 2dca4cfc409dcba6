-- Keys and values of a PSBT's pairs: how they are read, and when they aren't.
use Rattle.std.proofs.Common.{◌≡◌, ◌≢◌, ℕ, ◌+◌, ◌<◌, ◌^◌, Bool, true, false, cond, List, [], ◌∷◌, length, Result, Ok, Err, refl, sym, ap, subst, ◌∙◌, arith, inl, inr}
use Rattle.std.specs.Prelude.{Option, Some, None, ◌⊎◌, ◌&&◌, ◌==◌, not, is_some, bytes_eq, Contains}
use Rattle.std.specs.Int.{w32, w64, from_le_bytes, to_le_bytes}
use Rattle.std.proofs.lemmas.Bool.{cases_Bool, both_ways, eqb-true, eq-eqb, ne_eqb, and_cases, and_from, and_left, and_parts, and_right, not-false, not_from_true, false_from_ne_true}
use Rattle.std.proofs.lemmas.List.{nil_from_length}
use Rattle.std.proofs.lemmas.List.Folds.{Any-from_list_any, list_any-from_Any}
use Rattle.fund_base.specs.declared.cursor.CutFault.{CutFault}
use Rattle.fund_base.specs.declared.cursor.CutFault.TheVariants as cuts
use Rattle.fund_base.specs.Cursor.{At, IsBytes, take_at as bytes_at, compact_at}
use Rattle.fund_base.specs.Parsing.{◌>>=◌, fault_as}
use Rattle.fund_base.proofs.Laws.{bind_ok, bind_is, guard_ok, ok_is, told_ok, told_is, Takes, Reads, reads_told}
use Rattle.fund_base.proofs.LawsOfNumbers.{wide32, wide64, bytes_reads, count_reads}
use Rattle.fund_base.proofs.Lists.{equal_bytes, same_bytes}
use Rattle.fund_base.proofs.Spellings.{truncated_where, long_where, no_others}
use Rattle.tx_codec.specs.TransactionText.{text_of, output_text, IsTransaction}
use Rattle.psbt_codec.specs.declared.fault.PsbtFault.{PsbtFault}
use Rattle.psbt_codec.specs.declared.fault.PsbtFault.TheVariants as faults
use Rattle.psbt_codec.specs.declared.pairs.Part.{Part}
use Rattle.psbt_codec.specs.declared.pairs.Part.TheVariants.{Global, Input, Output, InputFields, OutputFields}
use Rattle.psbt_codec.specs.Fault.{cut_fault, type_fault}
use Rattle.psbt_codec.specs.Psbt.{Pair, IsKey, IsPaid}
use Rattle.psbt_codec.specs.Reading.{cut, start, tx_in, paid_in, number32_in, number64_in, txid_in, has_meaning, kind_in, form_fits, value_fits, has_key}
use Rattle.psbt_codec.proofs.Decoded.{Decodes, IsTxid, tx_decodes, paid_decodes, number32_decodes, number64_decodes, txid_decodes}
use Rattle.psbt_codec.proofs.PairLaws.{types_of, meaning_listed, listed_meaning, ValueIs, global_value, global_fits, input_value, whole_fits, paid_fits, field_value, fields_fit, output_value, amount_fits}
use Rattle.tx_laws.specs.Broken.{IsShort}
use Rattle.tx_laws.proofs.Cuts.{err_told, err_given, guard_told, met_told, short_told, short_given}
use Rattle.tx_laws.proofs.Judged.{bind_err, bind_fails}
use Rattle.tx_laws.proofs.Parts.{front_fits}
use Rattle.psbt_laws.specs.Fields.{meant, HasKey, IsMistyped, IsWrongKey, HoldsWrongKey, IsRightValue, IsWrongValue, HoldsWrongValue}

pub bytes : (n : ℕ) → Reads (λ at. cut (bytes_at n at)) (λ x. x) (λ x. (length x ≡ n) × IsBytes x)
bytes n = reads_told cut_fault (bytes_at n) (λ x. x) (λ x. (length x ≡ n) × IsBytes x) (bytes_reads n)

-- ---- the key of a pair before

key_there : (key : List ℕ) (pairs : List Pair) → has_key key pairs ≡ true → HasKey key pairs
key_there key pairs e =
    let a = Any-from_list_any (λ (p : Pair). bytes_eq p.key key) pairs e in
    (a.0, a.1, a.2, a.3, equal_bytes a.1.key key a.4)

there_key : (key : List ℕ) (pairs : List Pair) → HasKey key pairs → has_key key pairs ≡ true
there_key key pairs h = list_any-from_Any (λ (p : Pair). bytes_eq p.key key) pairs (h.0, h.1, h.2, h.3, same_bytes h.1.key key h.4)

pub fresh_not : (key : List ℕ) (pairs : List Pair) → has_key key pairs ≡ false → HasKey key pairs → ⊥
fresh_not key pairs none h = both_ways (has_key key pairs) none (there_key key pairs h)

pub not_fresh : (key : List ℕ) (pairs : List Pair) → (HasKey key pairs → ⊥) → has_key key pairs ≡ false
not_fresh key pairs none = false_from_ne_true (has_key key pairs) (λ e. none (key_there key pairs e))

-- ---- the types that have a meaning

pub same_types : (part : Part) → types_of part ≡ meant part
same_types Global = refl
same_types Input = refl
same_types Output = refl
same_types InputFields = refl
same_types OutputFields = refl

means : (part : Part) (kind : ℕ) → has_meaning part kind ≡ true → Contains (meant part) kind
means part kind e = subst (λ (l : List ℕ). Contains l kind) (same_types part) (meaning_listed part kind e)

meaning : (part : Part) (kind : ℕ) → Contains (meant part) kind → has_meaning part kind ≡ true
meaning part kind c = listed_meaning part kind (subst (λ (l : List ℕ). Contains l kind) (sym (same_types part)) c)

-- ---- the type of a key

abbrev overlong : Part → ℕ → List ℕ → Bool
overlong part kind key_data = has_meaning part kind && not (length key_data == 0)

some_data : (key_data : List ℕ) → not (length key_data == 0) ≡ true → key_data ≢ []
some_data [] e none = absurd cc
some_data (b ∷ key_data) e none = absurd cc

some_test : (key_data : List ℕ) → key_data ≢ [] → not (length key_data == 0) ≡ true
some_test [] some = absurd (some refl)
some_test (b ∷ key_data) some = ap not (ne_eqb (length (b ∷ key_data)) 0 (λ e. absurd (omega (arith, e))))

-- a key whose type was read
pub record TypeOf (part : Part) (kind : ℕ) (key : List ℕ) : Type 0 where
  pub typed : IsKey (meant part) key
  pub kind_is : typed.kind ≡ kind

whole_key : (part : Part) (kind : ℕ) (key_data : List ℕ) → overlong part kind key_data ≡ false → Contains (meant part) kind → key_data ≡ []
whole_key part kind key_data free listed =
    elim (and_cases (has_meaning part kind) (not (length key_data == 0)) free) [
      | inl none ↦ absurd (both_ways (has_meaning part kind) none (meaning part kind listed))
      | inr whole ↦ nil_from_length key_data (eqb-true _ _ (not-false _ whole))
    ]

not_overlong : (part : Part) (kind : ℕ) (key_data : List ℕ) → (Contains (meant part) kind → key_data ≡ []) → overlong part kind key_data ≡ false
not_overlong part kind key_data whole =
    elim (cases_Bool (has_meaning part kind)) [
      | inl some ↦ and_right (has_meaning part kind) _ (not_from_true _ (eq-eqb _ _ (ap (λ (l : List ℕ). length l) (whole (means part kind some)))))
      | inr none ↦ and_left (has_meaning part kind) _ none
    ]

pub type_takes : (part : Part) (pair place : ℕ) (key : List ℕ) (kind : ℕ) → IsBytes key → kind_in part pair place key ≡ Ok kind → TypeOf part kind key
unfolding kind_in
type_takes part pair place key kind fits e =
    let a = bind_ok _ _ kind e in
    let g = guard_ok _ _ _ _ a.2 in
    let n = count_reads.takes (start key) a.0 fits (told_ok (type_fault pair place) (compact_at (start key)) a.0 a.1) in
    record {
      typed = record { kind = a.0.0; key_data = a.0.1.rest; kind_fits = n.1; parts = n.0.parts; whole = whole_key part a.0.0 a.0.1.rest g.0 };
      kind_is = ok_is a.0.0 kind (Ok a.0.0) refl g.1;
    }

pub type_again : (part : Part) (pair place : ℕ) (key : List ℕ) (k : IsKey (meant part) key) → kind_in part pair place key ≡ Ok k.kind
unfolding kind_in
type_again part pair place key k =
    let a = count_reads.again k.kind (start key) k.key_data k.kind_fits k.parts in
    let free : overlong part k.kind a.next.rest ≡ false = not_overlong part k.kind a.next.rest (λ listed. a.left ∙ k.whole listed) in
    bind_is _ _ _ _ (told_is (type_fault pair place) (compact_at (start key)) (k.kind, a.next) a.reads) (rw free refl)

type_by : (part : Part) (pair place : ℕ) (key : List ℕ) (d : CutFault) (fault : PsbtFault) → IsBytes key → compact_at (start key) ≡ Err d → fault ≡ type_fault pair place d → (d ≡ cuts.Truncated 0) ⊎ (d ≡ cuts.LongCompact 0) → IsMistyped part pair place key fault
type_by part pair place key d fault fits e told (inl is) = inl ((truncated_where (start key) fits).0 (e ∙ ap (λ (f : CutFault). Err f) is), told ∙ ap (type_fault pair place) is)
type_by part pair place key d fault fits e told (inr is) = inr (inl ((long_where (start key) fits).0 (e ∙ ap (λ (f : CutFault). Err f) is), told ∙ ap (type_fault pair place) is))

pub type_told : (part : Part) (pair place : ℕ) (key : List ℕ) (fault : PsbtFault) → IsBytes key → kind_in part pair place key ≡ Err fault → IsMistyped part pair place key fault
unfolding kind_in
type_told part pair place key fault fits e = elim (bind_err (fault_as (type_fault pair place) (compact_at (start key))) _ fault e) [
  | inl now ↦
      let t = err_told (type_fault pair place) (compact_at (start key)) fault now in
      type_by part pair place key t.0 fault fits t.1 t.2 (no_others (start key) t.0 fits t.1)
  | inr h ↦
      let g = guard_told (overlong part h.0.0 h.0.1.rest) (faults.Field pair) h.0.0 fault h.2 in
      let both = and_parts (has_meaning part h.0.0) (not (length h.0.1.rest == 0)) g.0 in
      let n = count_reads.takes (start key) h.0 fits (told_ok (type_fault pair place) (compact_at (start key)) h.0 h.1) in
      inr (inr (record { kind = h.0.0; key_data = h.0.1.rest; small = n.1; parts = n.0.parts; means = means part h.0.0 both.0; some = some_data h.0.1.rest both.1 }, g.1))
]

pub type_given : (part : Part) (pair place : ℕ) (key : List ℕ) (fault : PsbtFault) → IsBytes key → IsMistyped part pair place key fault → kind_in part pair place key ≡ Err fault
unfolding kind_in
type_given part pair place key fault fits (inl c) = bind_fails _ _ fault (err_given (type_fault pair place) (compact_at (start key)) (cuts.Truncated 0) fault ((truncated_where (start key) fits).1 c.0) c.1)
type_given part pair place key fault fits (inr (inl l)) = bind_fails _ _ fault (err_given (type_fault pair place) (compact_at (start key)) (cuts.LongCompact 0) fault ((long_where (start key) fits).1 l.0) l.1)
type_given part pair place key fault fits (inr (inr o)) =
    let a = count_reads.again o.0.kind (start key) o.0.key_data o.0.small o.0.parts in
    let set : overlong part o.0.kind a.next.rest ≡ true = and_from (has_meaning part o.0.kind) _ (meaning part o.0.kind o.0.means) (some_test a.next.rest (λ none. o.0.some (sym a.left ∙ none))) in
    bind_is _ _ _ (Err fault) (told_is (type_fault pair place) (compact_at (start key)) (o.0.kind, a.next) a.reads) (rw set (ap (λ (f : PsbtFault). Err f) (sym o.1)))

-- ---- a key

abbrev pub key_in : Part → List Pair → (pair size : ℕ) → At → Result ((List ℕ × ℕ) × At) PsbtFault
key_in part before pair size at = cut (bytes_at size at) >>= λ key. cond (has_key key.0 before) (Err (faults.RepeatKey pair)) (kind_in part pair at.place key.0 >>= λ kind. Ok ((key.0, kind), key.1))

-- a key and its type, as they are read
pub record IsKeyRead (part : Part) (before : List Pair) (size : ℕ) (k : List ℕ × ℕ) : Type 0 where
  pub len : length k.0 ≡ size
  pub fits : IsBytes k.0
  pub fresh : has_key k.0 before ≡ false
  pub type_of : TypeOf part k.1 k.0

abbrev pub bytes_of : List ℕ × ℕ → List ℕ
bytes_of k = k.0

pub keys : (part : Part) (before : List Pair) (pair size : ℕ) → Reads (key_in part before pair size) bytes_of (IsKeyRead part before size)
keys part before pair size = record {
  takes = λ at x fits e.
      let a = bind_ok _ _ x e in
      let g = guard_ok _ _ _ _ a.2 in
      let b = bind_ok _ _ x g.1 in
      let t = (bytes size).takes at a.0 fits a.1 in
      let made : (List ℕ × ℕ) × At = ((a.0.0, b.0), a.0.1) in
      let right : IsKeyRead part before size made.0 = record { len = t.1.0; fits = t.1.1; fresh = g.0; type_of = type_takes part pair at.place a.0.0 b.0 t.1.1 b.1 } in
      subst (λ (y : (List ℕ × ℕ) × At). Takes at (bytes_of y.0) y.1 × IsKeyRead part before size y.0) (ok_is made x (Ok made) refl b.2) (t.0, right);
  again = λ k at rest is parts.
      let a = (bytes size).again k.0 at rest (is.len, is.fits) parts in
      let kind : kind_in part pair at.place k.0 ≡ Ok k.1 = type_again part pair at.place k.0 is.type_of.typed ∙ ap (λ (n : ℕ). Ok n) is.type_of.kind_is in
      record { next = a.next; reads = bind_is _ _ _ _ a.reads (rw (is.fresh) (bind_is _ _ _ _ kind refl)); left = a.left };
}

pub key_told : (part : Part) (before : List Pair) (pair since size : ℕ) (at : At) (fault : PsbtFault) → IsBytes at.rest → pair + since ≡ at.place → key_in part before pair size at ≡ Err fault
    → IsShort faults.Truncated size at.place at.rest fault ⊎ HoldsWrongKey part before since size at.place at.rest fault
key_told part before pair since size at fault fits place e = elim (bind_err (cut (bytes_at size at)) _ fault e) [
  | inl now ↦ inl (short_told cut_fault size at _ fault now)
  | inr h ↦
      let t = (bytes size).takes at h.0 fits h.1 in
      let wrong : IsWrongKey part before pair at.place h.0.0 fault = elim (cases_Bool (has_key h.0.0 before)) [
        | inl twice ↦ let f = rw twice at h.2 in inl (key_there h.0.0 before twice, cc)
        | inr fresh ↦ elim (bind_err (kind_in part pair at.place h.0.0) _ fault (rw fresh at h.2)) [
          | inl now ↦ inr (fresh_not h.0.0 before fresh, type_told part pair at.place h.0.0 fault t.1.1 now)
          | inr k ↦ let f = k.2 in absurd cc
        ]
      ] in
      inr (record { key = h.0.0; rest = h.0.1.rest; parts = t.0.parts; len = t.1.0; pair = pair; pair_is = place; wrong = wrong })
]

-- a key that was read
abbrev made_key : List ℕ → ℕ → At → Result ((List ℕ × ℕ) × At) PsbtFault
made_key key kind next = Ok ((key, kind), next)

wrong_key : (part : Part) (before : List Pair) (pair place : ℕ) (key : List ℕ) (next : At) (fault : PsbtFault) → IsBytes key → IsWrongKey part before pair place key fault
    → cond (has_key key before) (Err (faults.RepeatKey pair)) (kind_in part pair place key >>= λ kind. made_key key kind next) ≡ Err fault
wrong_key part before pair place key next fault fits (inl twice) = rw (there_key key before twice.0) (ap (λ (f : PsbtFault). Err f) (sym twice.1))
wrong_key part before pair place key next fault fits (inr other) = rw (not_fresh key before other.0) (bind_fails (kind_in part pair place key) _ fault (type_given part pair place key fault fits other.1))

pub key_given : (part : Part) (before : List Pair) (pair since size : ℕ) (at : At) (fault : PsbtFault) → IsBytes at.rest → pair + since ≡ at.place
    → IsShort faults.Truncated size at.place at.rest fault ⊎ HoldsWrongKey part before since size at.place at.rest fault → key_in part before pair size at ≡ Err fault
key_given part before pair since size at fault fits place (inl s) = bind_fails (cut (bytes_at size at)) _ fault (short_given cut_fault size at _ fault s)
key_given part before pair since size at fault fits place (inr w) =
    let key_fits : IsBytes w.key = front_fits at.rest w.key w.rest w.parts fits in
    let same : w.pair ≡ pair = omega (arith, place, w.pair_is) in
    let a = (bytes size).again w.key at w.rest (w.len, key_fits) w.parts in
    bind_is _ _ _ (Err fault) a.reads (wrong_key part before pair at.place w.key a.next fault key_fits (subst (λ (p : ℕ). IsWrongKey part before p at.place w.key fault) same w.wrong))

-- ---- a value

decoded_at : {X : Type 0} (text : X → List ℕ) (Fits : X → Type 0) (value : List ℕ) (o : Option X) → ((x : X) → o ≡ Some x → Fits x × (value ≡ text x)) → is_some o ≡ true → (x : X) × Fits x × (value ≡ text x)
decoded_at text Fits value None known some = absurd cc
decoded_at text Fits value (Some x) known some = let k = known x refl in (x, k.0, k.1)

pub decoded : {X : Type 0} (decode : List ℕ → Option X) (text : X → List ℕ) (Fits : X → Type 0) → Decodes decode text Fits → (value : List ℕ) → IsBytes value → is_some (decode value) ≡ true → (x : X) × Fits x × (value ≡ text x)
decoded decode text Fits laws value fits some = decoded_at text Fits value (decode value) (λ x e. laws.takes value x fits e) some

pub encoded : {X : Type 0} (decode : List ℕ → Option X) (text : X → List ℕ) (Fits : X → Type 0) → Decodes decode text Fits → (value : List ℕ) → (x : X) × Fits x × (value ≡ text x) → is_some (decode value) ≡ true
encoded decode text Fits laws value h = ap (λ (l : List ℕ). is_some (decode l)) h.2 ∙ ap is_some (laws.again h.0 h.1)

-- ---- the lengths of numbers and txids

len_of : {X : Type 0} (decode : List ℕ → Option X) (text : X → List ℕ) (Fits : X → Type 0) → Decodes decode text Fits → (n : ℕ) → ((x : X) → Fits x → length (text x) ≡ n) → (value : List ℕ) → IsBytes value → is_some (decode value) ≡ true → length value ≡ n
len_of decode text Fits laws n len value fits some =
    let d = decoded decode text Fits laws value fits some in
    ap (λ (l : List ℕ). length l) d.2 ∙ len d.0 d.1

pub len4 : (value : List ℕ) → IsBytes value → is_some (number32_in value) ≡ true → length value ≡ 4
len4 value fits some = len_of number32_in (to_le_bytes w32) (λ n. n < 2 ^ 32) number32_decodes 4 (λ n small. wide32.len n) value fits some

len8 : (value : List ℕ) → IsBytes value → is_some (number64_in value) ≡ true → length value ≡ 8
len8 value fits some = len_of number64_in (to_le_bytes w64) (λ n. n < 2 ^ 64) number64_decodes 8 (λ n small. wide64.len n) value fits some

len32 : (value : List ℕ) → IsBytes value → is_some (txid_in value) ≡ true → length value ≡ 32
len32 value fits some = len_of txid_in (λ (x : List ℕ). x) IsTxid txid_decodes 32 (λ x is. is.0) value fits some

pub some4 : (value : List ℕ) → IsBytes value → length value ≡ 4 → is_some (number32_in value) ≡ true
some4 value fits len = encoded number32_in (to_le_bytes w32) (λ n. n < 2 ^ 32) number32_decodes value (from_le_bytes w32 value, wide32.below value fits, sym (wide32.back value len fits))

pub some8 : (value : List ℕ) → IsBytes value → length value ≡ 8 → is_some (number64_in value) ≡ true
some8 value fits len = encoded number64_in (to_le_bytes w64) (λ n. n < 2 ^ 64) number64_decodes value (from_le_bytes w64 value, wide64.below value fits, sym (wide64.back value len fits))

pub some32 : (value : List ℕ) → IsBytes value → length value ≡ 32 → is_some (txid_in value) ≡ true
some32 value fits len = encoded txid_in (λ (x : List ℕ). x) IsTxid txid_decodes value (value, (len, fits), refl)

-- ---- a value is as its type asks exactly where it is of the form

pub right_of : (part : Part) (kind : ℕ) (value : List ℕ) → IsBytes value → ValueIs part kind value → IsRightValue part kind value
right_of Global kind value fits is = λ version. len4 value fits (global_fits kind value is version)
right_of Input kind value fits is = (
  λ whole. decoded tx_in text_of IsTransaction tx_decodes value fits (whole_fits kind value is whole),
  λ paid. decoded paid_in output_text IsPaid paid_decodes value fits (paid_fits kind value is paid),
)
right_of Output kind value fits is = tt
right_of InputFields kind value fits is =
    let f = fields_fit kind value is in
    record {
      whole = λ e. decoded tx_in text_of IsTransaction tx_decodes value fits (f.whole e);
      paid = λ e. decoded paid_in output_text IsPaid paid_decodes value fits (f.paid e);
      txid = λ e. len32 value fits (f.txid e);
      index = λ e. len4 value fits (f.index e);
      sequence = λ e. len4 value fits (f.sequence e);
    }
right_of OutputFields kind value fits is = λ amount. len8 value fits (amount_fits kind value is amount)

pub form_of : (part : Part) (kind : ℕ) (value : List ℕ) → IsBytes value → IsRightValue part kind value → ValueIs part kind value
form_of Global kind value fits is = global_value kind value (λ version. some4 value fits (is version))
form_of Input kind value fits is = input_value kind value (λ whole. encoded tx_in text_of IsTransaction tx_decodes value (is.0 whole)) (λ paid. encoded paid_in output_text IsPaid paid_decodes value (is.1 paid))
form_of Output kind value fits is = refl
form_of InputFields kind value fits is = field_value kind value (record {
  whole = λ e. encoded tx_in text_of IsTransaction tx_decodes value (is.whole e);
  paid = λ e. encoded paid_in output_text IsPaid paid_decodes value (is.paid e);
  txid = λ e. some32 value fits (is.txid e);
  index = λ e. some4 value fits (is.index e);
  sequence = λ e. some4 value fits (is.sequence e);
})
form_of OutputFields kind value fits is = output_value kind value (λ amount. some8 value fits (is amount))

wrong_told : (part : Part) (pair kind : ℕ) (value : List ℕ) (fault : PsbtFault) → IsBytes value → value_fits part pair kind value ≡ Err fault → IsWrongValue part kind pair value fault
unfolding value_fits
wrong_told part pair kind value fault fits e =
    let g = met_told (form_fits part kind value) (faults.Field pair) tt fault e in
    (λ right. both_ways (form_fits part kind value) g.0 (form_of part kind value fits right), g.1)

wrong_given : (part : Part) (pair kind : ℕ) (value : List ℕ) (fault : PsbtFault) → IsBytes value → IsWrongValue part kind pair value fault → value_fits part pair kind value ≡ Err fault
unfolding value_fits
wrong_given part pair kind value fault fits w =
    let wrong : form_fits part kind value ≡ false = false_from_ne_true (form_fits part kind value) (λ e. w.0 (right_of part kind value fits e)) in
    rw wrong (ap (λ (f : PsbtFault). Err f) (sym w.1))

abbrev pub value_in : Part → (pair kind size : ℕ) → At → Result (List ℕ × At) PsbtFault
value_in part pair kind size at = cut (bytes_at size at) >>= λ v. value_fits part pair kind v.0 >>= λ _. Ok v

pub value_told : (part : Part) (pair kind since size : ℕ) (at : At) (fault : PsbtFault) → IsBytes at.rest → pair + since ≡ at.place → value_in part pair kind size at ≡ Err fault
    → IsShort faults.Truncated size at.place at.rest fault ⊎ HoldsWrongValue part kind since size at.place at.rest fault
value_told part pair kind since size at fault fits place e = elim (bind_err (cut (bytes_at size at)) _ fault e) [
  | inl now ↦ inl (short_told cut_fault size at _ fault now)
  | inr h ↦
      let t = (bytes size).takes at h.0 fits h.1 in
      let wrong : IsWrongValue part kind pair h.0.0 fault = elim (bind_err (value_fits part pair kind h.0.0) _ fault h.2) [
        | inl now ↦ wrong_told part pair kind h.0.0 fault t.1.1 now
        | inr k ↦ let f = k.2 in absurd cc
      ] in
      inr (record { value = h.0.0; rest = h.0.1.rest; parts = t.0.parts; len = t.1.0; pair = pair; pair_is = place; wrong = wrong })
]

pub value_given : (part : Part) (pair kind since size : ℕ) (at : At) (fault : PsbtFault) → IsBytes at.rest → pair + since ≡ at.place
    → IsShort faults.Truncated size at.place at.rest fault ⊎ HoldsWrongValue part kind since size at.place at.rest fault → value_in part pair kind size at ≡ Err fault
value_given part pair kind since size at fault fits place (inl s) = bind_fails (cut (bytes_at size at)) _ fault (short_given cut_fault size at _ fault s)
value_given part pair kind since size at fault fits place (inr w) =
    let value_fits_bytes : IsBytes w.value = front_fits at.rest w.value w.rest w.parts fits in
    let same : w.pair ≡ pair = omega (arith, place, w.pair_is) in
    let a = (bytes size).again w.value at w.rest (w.len, value_fits_bytes) w.parts in
    let wrong = wrong_given part pair kind w.value fault value_fits_bytes (subst (λ (p : ℕ). IsWrongValue part kind p w.value fault) same w.wrong) in
    bind_is _ _ _ (Err fault) a.reads (bind_fails (value_fits part pair kind w.value) _ fault wrong)
