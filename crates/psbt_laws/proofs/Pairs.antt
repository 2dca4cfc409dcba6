-- Pairs and maps of a PSBT: which of their fields is the first that is broken.
use Rattle.std.proofs.Common.{◌≡◌, ℕ, zero, suc, ◌+◌, ◌^◌, ◌<◌, ◌≤◌, Bool, true, false, cond, List, [], ◌∷◌, ◌++◌, length, Result, Ok, Err, refl, sym, ap, subst, ◌∙◌, append_assoc, arith, inl, inr}
use Rattle.std.specs.Prelude.{Option, Some, None, ◌==◌, ⊤, Contains}
use Rattle.std.specs.List.{flat_map}
use Rattle.std.proofs.lemmas.Bool.{cases_Bool, eqb-true, eqb-false}
use Rattle.std.proofs.lemmas.List.{append-nil, length-append, nil_from_length}
use Rattle.std.proofs.lemmas.List.Concat.{flat_map-cons}
use Rattle.fund_base.specs.declared.cursor.CutFault.{CutFault}
use Rattle.fund_base.specs.CompactSize.{compact, prefixed, IsCut}
use Rattle.fund_base.specs.Cursor.{At, IsBytes, take_at as bytes_at, compact_at}
use Rattle.fund_base.specs.Parsing.{◌>>=◌, string_at}
use Rattle.fund_base.proofs.Laws.{Takes, Again, Reads, reads_told}
use Rattle.fund_base.proofs.LawsOfNumbers.{count_reads}
use Rattle.psbt_codec.specs.declared.fault.PsbtFault.{PsbtFault}
use Rattle.psbt_codec.specs.declared.fault.PsbtFault.TheVariants as faults
use Rattle.psbt_codec.specs.declared.pairs.Part.{Part}
use Rattle.psbt_codec.specs.declared.pairs.Part.TheVariants.{Global, Input, Output, InputFields, OutputFields}
use Rattle.psbt_codec.specs.Fault.{cut_fault}
use Rattle.psbt_codec.specs.Psbt.{Pair, typed, pair_text, map_text, IsKey, IsPair, IsMap}
use Rattle.psbt_codec.specs.Reading.{cut, has_key, kind_in, value_fits, keyed_at, some_pair, pair_at, pairs_within, ends_or, map_at}
use Rattle.psbt_codec.proofs.PairLaws.{types_of, ValueIs, FitsBehind, PairRead, pair_takes, pair_again, end_again, compact_some}
use Rattle.psbt_codec.proofs.MapReads.{MapFits, map_reads}
use Rattle.psbt_codec.proofs.MapMeaning.{map_is, map_fits, typed_is, holds_typed}
use Rattle.tx_laws.specs.Broken.{IsFirst}
use Rattle.tx_laws.proofs.Cuts.{size_told, size_given}
use Rattle.tx_laws.proofs.Judged.{Judged, Either, bind_fails, first, judged_as, judged_is, mapped, never, then, then_from}
use Rattle.tx_laws.proofs.Leaves.{above}
use Rattle.tx_laws.proofs.Parts.{alone}
use Rattle.psbt_laws.specs.Fields.{Field, Breaks, meant, IsRightValue}
use Rattle.psbt_laws.specs.Fields.Field.{KeySize, Key, ValueSize, Value}
use Rattle.psbt_laws.specs.Order.{IsNextKey, PairComes, ArePairs, MapComes, MapThen}
use Rattle.psbt_laws.proofs.Keys.{bytes_of, fresh_not, not_fresh, IsKeyRead, key_in, keys, key_told, key_given, value_in, value_told, value_given, form_of, right_of, same_types}

abbrev IsSize : ℕ → Type 0
IsSize n = n < 2 ^ 64

sizes : Reads (λ at. cut (compact_at at)) compact IsSize
sizes = reads_told cut_fault compact_at compact IsSize count_reads

-- ---- the steps of a pair, one behind the other

keyed_head : {Y E : Type 0} (r : Result (List ℕ × At) E) (test : List ℕ → Bool) (e : E) (m : List ℕ → Result ℕ E) (k : (List ℕ × ℕ) × At → Result Y E)
    → ((r >>= λ key. cond (test key.0) (Err e) (m key.0 >>= λ kind. Ok ((key.0, kind), key.1))) >>= k) ≡ (r >>= λ key. cond (test key.0) (Err e) (m key.0 >>= λ kind. k ((key.0, kind), key.1)))
keyed_head (Err d) test e m k = refl
keyed_head {Y = Y} {E = E} (Ok key) test e m k = by_test (test key.0) (m key.0)
  where
    by_test : (b : Bool) (kind : Result ℕ E) → (cond b (Err e) (kind >>= λ n. Ok ((key.0, n), key.1)) >>= k) ≡ cond b (Err e) (kind >>= λ n. k ((key.0, n), key.1))
    by_test true kind = refl
    by_test false (Ok n) = refl
    by_test false (Err d) = refl

string_head : {Y : Type 0} (r : Result (ℕ × At) CutFault) (f : ℕ × At → Result (List ℕ × At) CutFault) (g : List ℕ × At → Result Y PsbtFault) → (cut r >>= λ n. cut (f n) >>= g) ≡ (cut (r >>= f) >>= g)
string_head (Ok n) f g = refl
string_head (Err d) f g = refl

value_head : {Y E : Type 0} (r : Result (List ℕ × At) E) (m : List ℕ → Result ⊤ E) (g : List ℕ × At → Y) → ((r >>= λ v. m v.0 >>= λ _. Ok v) >>= λ v. Ok (g v)) ≡ (r >>= λ v. m v.0 >>= λ _. Ok (g v))
value_head (Err d) m g = refl
value_head {Y = Y} {E = E} (Ok v) m g = by_value (m v.0)
  where
    by_value : (u : Result ⊤ E) → ((u >>= λ _. Ok v) >>= λ w. Ok (g w)) ≡ (u >>= λ _. Ok (g v))
    by_value (Ok u) = refl
    by_value (Err d) = refl

-- ---- behind the size of a key

-- how many bytes of a pair stand before its value
abbrev before_value : (n m : ℕ) → ℕ
before_value n m = length (compact n) + n + length (compact m)

abbrev ValueParts : Part → (n kind : ℕ) → List ℕ → Field → Type 0
ValueParts part n kind = Either (IsFirst ValueSize) compact IsSize (λ m. IsFirst (Value part kind (before_value n m) m))

abbrev KeyedParts : Part → List Pair → ℕ → List ℕ → Field → Type 0
KeyedParts part before n = Either (IsFirst (Key part before (length (compact n)) n)) bytes_of (IsKeyRead part before n) (λ k. ValueParts part n k.1)

-- what is read behind a key
abbrev rest_of : Part → ℕ → (List ℕ × ℕ) × At → Result (Pair × At) PsbtFault
rest_of part pair k = cut (string_at k.1) >>= λ value. value_fits part pair k.0.1 value.0 >>= λ _. Ok (record { key = k.0.0; value = value.0 }, value.1)

rest_judged : (part : Part) (pair n : ℕ) (k : List ℕ × ℕ) (at : At) → IsBytes at.rest → pair + (length (compact n) + n) ≡ at.place → Judged Breaks (ValueParts part n k.1) at (rest_of part pair (k, at))
unfolding string_at
rest_judged part pair n k at fits place =
    let made : List ℕ × At → Pair × At = λ value. (record { key = k.0; value = value.0 }, value.1) in
    judged_is Breaks (ValueParts part n k.1) at _ _ (string_head (compact_at at) (λ m. bytes_at m.0 m.1) (λ value. value_fits part pair k.1 value.0 >>= λ _. Ok (made value)))
    (then_from Breaks (λ at. cut (compact_at at)) compact IsSize sizes (IsFirst ValueSize) (λ m. IsFirst (Value part k.1 (before_value n m) m)) at (λ m. cut (bytes_at m.0 m.1) >>= λ value. value_fits part pair k.1 value.0 >>= λ _. Ok (made value)) fits
    (first Breaks ValueSize at _ (λ fault. size_told cut_fault at fault fits) (λ fault. size_given cut_fault at fault fits))
    (λ m b small b_fits parts b_place.
    let here : pair + before_value n m ≡ b.place = omega (arith, place, b_place) in
    judged_is Breaks (IsFirst (Value part k.1 (before_value n m) m)) b _ _ (value_head (cut (bytes_at m b)) (λ value. value_fits part pair k.1 value) made)
    (mapped Breaks (IsFirst (Value part k.1 (before_value n m) m)) b (value_in part pair k.1 m b) made
    (first Breaks (Value part k.1 (before_value n m) m) b _ (λ fault. value_told part pair k.1 (before_value n m) m b fault b_fits here) (λ fault. value_given part pair k.1 (before_value n m) m b fault b_fits here)))))

keyed_judged : (part : Part) (before : List Pair) (n pair : ℕ) (at : At) → IsBytes at.rest → pair + length (compact n) ≡ at.place → Judged Breaks (KeyedParts part before n) at (keyed_at part before pair n at)
unfolding keyed_at
keyed_judged part before n pair at fits place =
    judged_is Breaks (KeyedParts part before n) at _ _ (keyed_head (cut (bytes_at n at)) (λ key. has_key key before) (faults.RepeatKey pair) (λ key. kind_in part pair at.place key) (rest_of part pair))
    (then_from Breaks (key_in part before pair n) bytes_of (IsKeyRead part before n) (keys part before pair n) (IsFirst (Key part before (length (compact n)) n)) (λ k. ValueParts part n k.1) at (rest_of part pair) fits
    (first Breaks (Key part before (length (compact n)) n) at _ (λ fault. key_told part before pair (length (compact n)) n at fault fits place) (λ fault. key_given part before pair (length (compact n)) n at fault fits place))
    (λ k a is a_fits parts a_place. rest_judged part pair n k a a_fits (omega (arith, place, a_place, is.len))))

-- ---- a pair

abbrev PairParts : Part → List Pair → List ℕ → Field → Type 0
PairParts part before = Either (IsFirst KeySize) compact IsSize (λ n front field. (0 < n) × KeyedParts part before n front field)

sized_judged : (part : Part) (before : List Pair) (n pair : ℕ) (at : At) → IsBytes at.rest → pair + length (compact n) ≡ at.place
    → Judged Breaks (λ front field. (0 < n) × KeyedParts part before n front field) at (cond (n == 0) (Ok (None, at)) (keyed_at part before pair n at >>= some_pair))
sized_judged part before n pair at fits place = elim (cases_Bool (n == 0)) [
  | inl none ↦ never Breaks (λ front field. (0 < n) × KeyedParts part before n front field) at _ (None, at) (rw none refl) (λ fault b. omega (arith, b.comes.0, eqb-true n 0 none))
  | inr some ↦
      let above : 0 < n = above n (λ none. eqb-false n 0 some none) in
      let same : (keyed_at part before pair n at >>= some_pair) ≡ cond (n == 0) (Ok (None, at)) (keyed_at part before pair n at >>= some_pair) = rw some refl in
      judged_is Breaks (λ front field. (0 < n) × KeyedParts part before n front field) at _ _ same
      (judged_as Breaks (KeyedParts part before n) (λ front field. (0 < n) × KeyedParts part before n front field) at _ fits (λ front field _ c. (above, c)) (λ front field _ c. c.1)
      (mapped Breaks (KeyedParts part before n) at (keyed_at part before pair n at) (λ read. (Some read.0, read.1)) (keyed_judged part before n pair at fits place)))
]

key_same : (p part : Part) (e before : List Pair) (s since size : ℕ) → p ≡ part → e ≡ before → s ≡ since → Key p e s size ≡ Key part before since size
key_same p part e before s since size pe ee se = ap (λ (x : Part). Key x e s size) pe ∙ ap (λ (x : List Pair). Key part x s size) ee ∙ ap (λ (x : ℕ). Key part before x size) se

value_same : (p part : Part) (kind s since size : ℕ) → p ≡ part → s ≡ since → Value p kind s size ≡ Value part kind since size
value_same p part kind s since size pe se = ap (λ (x : Part). Value x kind s size) pe ∙ ap (λ (x : ℕ). Value part kind x size) se

value_to : (part : Part) (before : List Pair) (n : ℕ) (k : List ℕ × ℕ) (front inner : List ℕ) (field : Field) → IsSize n → IsKeyRead part before n k → front ≡ compact n ++ (k.0 ++ inner) → ValueParts part n k.1 inner field → PairComes part before front field
value_to part before n k front inner field small is parts c =
    let text : front ≡ prefixed k.0 ++ inner = parts ∙ sym (append_assoc (compact n) k.0 inner) ∙ ap (λ (m : ℕ). (compact m ++ k.0) ++ inner) (sym is.len) in
    let next : IsNextKey part before k.0 k.1 = record { typed = is.type_of.typed; kind_is = is.type_of.kind_is; fits = (is.fits, omega (arith, is.len, small)); fresh = fresh_not k.0 before is.fresh } in
    by_value text next c
  where
    by_value : front ≡ prefixed k.0 ++ inner → IsNextKey part before k.0 k.1 → ValueParts part n k.1 inner field → PairComes part before front field
    by_value text next (inl c) = first_value c.field_is (k.0, k.1, next, alone front (prefixed k.0) inner text c.front_is)
      where
        first_value : field ≡ ValueSize → PairComes part before front ValueSize → PairComes part before front field
        first_value is c = subst (λ (f : Field). PairComes part before front f) (sym is) c
    by_value text next (inr m) =
        let whole : front ≡ prefixed k.0 ++ compact m.whole = text ∙ ap (λ (l : List ℕ). prefixed k.0 ++ l) (alone inner (compact m.whole) m.inner m.parts m.comes.front_is) in
        let same : length (compact (length k.0)) ≡ length (compact n) = ap (λ (x : ℕ). length (compact x)) is.len in
        let since : before_value n m.whole ≡ length front = omega (arith, ap (λ (l : List ℕ). length l) whole, length-append (prefixed k.0) (compact m.whole), length-append (compact (length k.0)) k.0, is.len, same) in
        subst (λ (f : Field). PairComes part before front f) (sym m.comes.field_is) (record { key = k.0; is = next; parts = whole; small = m.is }, refl, since)

pair_to : (part : Part) (before : List Pair) (front : List ℕ) (field : Field) → PairParts part before front field → PairComes part before front field
pair_to part before front field (inl c) = subst (λ (f : Field). PairComes part before front f) (sym c.field_is) c.front_is
pair_to part before front field (inr h) = keyed_to h.comes.1
  where
    keyed_to : KeyedParts part before h.whole h.inner field → PairComes part before front field
    keyed_to (inl c) =
        let whole : front ≡ compact h.whole = alone front (compact h.whole) h.inner h.parts c.front_is in
        subst (λ (f : Field). PairComes part before front f) (sym c.field_is) (record { parts = whole; some = h.comes.0; small = h.is }, refl, refl, sym (ap (λ (l : List ℕ). length l) whole))
    keyed_to (inr k) = value_to part before h.whole k.whole front k.inner field h.is k.is (h.parts ∙ ap (λ (l : List ℕ). compact h.whole ++ l) k.parts) k.comes

some_key : (part : Part) (key : List ℕ) → IsKey (meant part) key → 0 < length key
some_key part key k = omega (arith, ap (λ (l : List ℕ). length l) k.parts, length-append (compact k.kind) k.key_data, compact_some k.kind)

key_read : (part : Part) (before : List Pair) (key : List ℕ) (kind : ℕ) → IsNextKey part before key kind → IsKeyRead part before (length key) (key, kind)
key_read part before key kind is = record { len = refl; fits = is.fits.0; fresh = not_fresh key before is.fresh; type_of = record { typed = is.typed; kind_is = is.kind_is } }

pair_back : (part : Part) (before : List Pair) (front : List ℕ) (field : Field) → PairComes part before front field → PairParts part before front field
pair_back part before front KeySize c = inl (record { front_is = c; field_is = refl })
pair_back part before front (Key p e since size) c =
    let same : since ≡ length (compact size) = c.3 ∙ ap (λ (l : List ℕ). length l) c.0.parts in
    inr (record {
      whole = size;
      inner = [];
      is = c.0.small;
      parts = c.0.parts ∙ sym (append-nil (compact size));
      comes = (c.0.some, inl (record { front_is = refl; field_is = key_same p part e before since (length (compact size)) size c.1 c.2 same }));
    })
pair_back part before front ValueSize c =
    let key : List ℕ = c.0 in
    inr (record {
      whole = length key;
      inner = key;
      is = c.2.fits.1;
      parts = c.3;
      comes = (some_key part key c.2.typed, inr (record { whole = (key, c.1); inner = []; is = key_read part before key c.1 c.2; parts = sym (append-nil key); comes = inl (record { front_is = refl; field_is = refl }) }));
    })
pair_back part before front (Value p kind since size) c =
    let v = c.0 in
    let key : List ℕ = v.key in
    let same : since ≡ before_value (length key) size = omega (arith, c.2, ap (λ (l : List ℕ). length l) v.parts, length-append (prefixed key) (compact size), length-append (compact (length key)) key) in
    inr (record {
      whole = length key;
      inner = key ++ compact size;
      is = v.is.fits.1;
      parts = v.parts ∙ append_assoc (compact (length key)) key (compact size);
      comes = (
        some_key part key v.is.typed,
        inr (record {
          whole = (key, kind);
          inner = compact size;
          is = key_read part before key kind v.is;
          parts = refl;
          comes = inr (record { whole = size; inner = []; is = v.small; parts = sym (append-nil (compact size)); comes = record { front_is = refl; field_is = value_same p part kind since (before_value (length key) size) size c.1 same } });
        }),
      );
    })
pair_back part before front other c = absurd c

pair_judged : (part : Part) (before : List Pair) (at : At) → IsBytes at.rest → Judged Breaks (PairComes part before) at (pair_at part before at)
unfolding pair_at
pair_judged part before at fits =
    judged_as Breaks (PairParts part before) (PairComes part before) at _ fits (λ front field _ c. pair_to part before front field c) (λ front field _ c. pair_back part before front field c)
    (then_from Breaks (λ at. cut (compact_at at)) compact IsSize sizes (IsFirst KeySize) (λ n front field. (0 < n) × KeyedParts part before n front field) at _ fits
    (first Breaks KeySize at _ (λ fault. size_told cut_fault at fault fits) (λ fault. size_given cut_fault at fault fits))
    (λ n a small a_fits parts place. sized_judged part before n at.place a a_fits (sym place)))

-- ---- a pair, or the end of its map

abbrev option_text : Option Pair → List ℕ
option_text None = 0 ∷ []
option_text (Some p) = pair_text p

abbrev OptionIs : Part → List Pair → Option Pair → Type 0
OptionIs part before None = Unit {0}
OptionIs part before (Some p) = FitsBehind part before p

option_takes : (part : Part) (before : List Pair) (at : At) (o : Option Pair) (next : At) → PairRead part before at (o, next) → Takes at (option_text o) next × OptionIs part before o
option_takes part before at None next t = (t, tt)
option_takes part before at (Some p) next t = t

option_again : (part : Part) (before : List Pair) (o : Option Pair) (at : At) (rest : List ℕ) → OptionIs part before o → at.rest ≡ option_text o ++ rest → Again (pair_at part before at) o rest
option_again part before None at rest is parts = end_again part before at rest parts
option_again part before (Some p) at rest is parts = pair_again part before p at rest is parts

option_reads : (part : Part) (before : List Pair) → Reads (pair_at part before) option_text (OptionIs part before)
option_reads part before = record {
  takes = λ at x fits e. option_takes part before at x.0 x.1 (pair_takes part before at x fits e);
  again = λ o at rest is parts. option_again part before o at rest is parts;
}

-- ---- the pairs of a map

-- behind more pairs of a map, in the next
record InPairs (part : Part) (before : List Pair) (front : List ℕ) (field : Field) : Type 0 where
  items : List Pair
  inner : List ℕ
  fit : MapFits part before items
  parts : front ≡ flat_map pair_text items ++ inner
  comes : PairComes part (before ++ items) inner field

abbrev OptionThen : Part → List Pair → Option Pair → List ℕ → Field → Type 0
OptionThen part before None front field = ⊥
OptionThen part before (Some p) front field = InPairs part (before ++ p ∷ []) front field

abbrev PairsParts : Part → List Pair → List ℕ → Field → Type 0
PairsParts part before = Either (PairComes part before) option_text (OptionIs part before) (OptionThen part before)

option_to : (part : Part) (before : List Pair) (o : Option Pair) (front inner : List ℕ) (field : Field) → OptionIs part before o → front ≡ option_text o ++ inner → OptionThen part before o inner field → InPairs part before front field
option_to part before None front inner field is parts c = absurd c
option_to part before (Some p) front inner field is parts c = record {
  items = p ∷ c.items;
  inner = c.inner;
  fit = (is, c.fit);
  parts = parts ∙ ap (λ (l : List ℕ). pair_text p ++ l) c.parts ∙ sym (append_assoc (pair_text p) (flat_map pair_text c.items) c.inner) ∙ ap (λ (l : List ℕ). l ++ c.inner) (sym (flat_map-cons pair_text p c.items));
  comes = subst (λ (l : List Pair). PairComes part l c.inner field) (append_assoc before (p ∷ []) c.items) c.comes;
}

pairs_to : (part : Part) (before : List Pair) (front : List ℕ) (field : Field) → PairsParts part before front field → InPairs part before front field
pairs_to part before front field (inl c) = record { items = []; inner = front; fit = tt; parts = refl; comes = subst (λ (l : List Pair). PairComes part l front field) (sym (append-nil before)) c }
pairs_to part before front field (inr h) = option_to part before h.whole front h.inner field h.is h.parts h.comes

pairs_back : (part : Part) (before : List Pair) (front : List ℕ) (field : Field) (items : List Pair) (inner : List ℕ) → MapFits part before items → front ≡ flat_map pair_text items ++ inner → PairComes part (before ++ items) inner field → PairsParts part before front field
pairs_back part before front field [] inner fit parts comes =
    let same : PairComes part before inner field = subst (λ (l : List Pair). PairComes part l inner field) (append-nil before) comes in
    inl (subst (λ (l : List ℕ). PairComes part before l field) (sym parts) same)
pairs_back part before front field (p ∷ items) inner fit parts comes =
    inr (record {
      whole = Some p;
      inner = flat_map pair_text items ++ inner;
      is = fit.0;
      parts = parts ∙ ap (λ (l : List ℕ). l ++ inner) (flat_map-cons pair_text p items) ∙ append_assoc (pair_text p) (flat_map pair_text items) inner;
      comes = record { items = items; inner = inner; fit = fit.1; parts = refl; comes = subst (λ (l : List Pair). PairComes part l inner field) (sym (append_assoc before (p ∷ []) items)) comes };
    })

some_text : (p : Pair) → 0 < length (pair_text p)
unfolding pair_text
some_text p = omega (arith, length-append (prefixed p.key) (prefixed p.value), length-append (compact (length p.key)) p.key, compact_some (length p.key))

-- the pairs behind one that was read
abbrev NextJudged : ℕ → Part → List Pair → At → Type 0
NextJudged n part before at = (p : Pair) (next : At) → IsBytes next.rest → length next.rest < length at.rest → Judged Breaks (InPairs part (before ++ p ∷ [])) next (pairs_within n part (before ++ p ∷ []) next)

ends_judged : (n : ℕ) (part : Part) (before : List Pair) (at : At) → NextJudged n part before at → (o : Option Pair) (next : At) → IsBytes next.rest → at.rest ≡ option_text o ++ next.rest
    → Judged Breaks (OptionThen part before o) next (ends_or before (λ pairs later. pairs_within n part pairs later) (λ pairs later. (pairs, later)) (o, next))
ends_judged n part before at others None next fits parts = never Breaks (OptionThen part before None) next _ (before, next) refl (λ fault b. b.comes)
ends_judged n part before at others (Some p) next fits parts =
    others p next fits (omega (arith, ap (λ (l : List ℕ). length l) parts, length-append (pair_text p) next.rest, some_text p))

step : (n : ℕ) (part : Part) (before : List Pair) (at : At) → IsBytes at.rest → NextJudged n part before at → Judged Breaks (InPairs part before) at (pairs_within (suc n) part before at)
unfolding pairs_within
step n part before at fits others =
    judged_as Breaks (PairsParts part before) (InPairs part before) at _ fits (λ front field _ c. pairs_to part before front field c) (λ front field _ c. pairs_back part before front field c.items c.inner c.fit c.parts c.comes)
    (then_from Breaks (pair_at part before) option_text (OptionIs part before) (option_reads part before) (PairComes part before) (OptionThen part before) at _ fits (pair_judged part before at fits) (λ o next is next_fits parts place.
    ends_judged n part before at others o next next_fits parts))

no_bytes : (bytes : List ℕ) → bytes ≡ [] → IsCut bytes
no_bytes bytes none = record { number = 0; more = 0 ∷ []; spelled = inl (omega arith, ap (λ (l : List ℕ). l ++ 0 ∷ []) none); some = λ e. absurd (omega (arith, ap (λ (l : List ℕ). length l) e)) }

-- where no bytes are left, one pair more may be looked for
cut_same : (part : Part) (before : List Pair) (at : At) → IsBytes at.rest → at.rest ≡ [] → pairs_within 1 part before at ≡ pairs_within 0 part before at
unfolding pairs_within pair_at
cut_same part before at fits none =
    let refused : cut (compact_at at) ≡ Err (faults.Truncated at.place) = size_given cut_fault at (faults.Truncated at.place) fits (inl (record { cut = no_bytes at.rest none; is = refl })) in
    bind_fails _ _ (faults.Truncated at.place) (bind_fails _ _ (faults.Truncated at.place) refused)

pairs_judged : (n : ℕ) (part : Part) (before : List Pair) (at : At) → IsBytes at.rest → length at.rest ≤ n → Judged Breaks (InPairs part before) at (pairs_within n part before at)
pairs_judged zero part before at fits room =
    let none : at.rest ≡ [] = nil_from_length at.rest (omega (arith, room)) in
    judged_is Breaks (InPairs part before) at (pairs_within 1 part before at) (pairs_within 0 part before at) (cut_same part before at fits none) (step 0 part before at fits (λ p next _ lt. absurd (omega (arith, lt, room))))
pairs_judged (suc n) part before at fits room =
    let others : NextJudged n part before at = λ p next next_fits lt. pairs_judged n part (before ++ p ∷ []) next next_fits (omega (arith, lt, room)) in
    step n part before at fits others

-- ---- a map

are_pairs : (part : Part) (pairs : List Pair) → MapFits part [] pairs → ArePairs part pairs
are_pairs part pairs fit =
    let m = map_is part pairs fit in
    record {
      pairs_fit = subst (λ (types : List ℕ). IsMap types pairs) (same_types part) m.0;
      values = λ kind value small there.
          let h = holds_typed part pairs m.1 kind small value there in
          right_of part kind value h.0.0 h.1;
    }

there_typed : (part : Part) (pairs : List Pair) (p : Pair) (q : IsPair (types_of part) p) → Contains pairs p → (kind : ℕ) → q.key.kind ≡ kind → Contains (types_of part) kind → Contains pairs (typed kind p.value)
there_typed part pairs p q there kind is listed = subst (λ (x : Pair). Contains pairs x) (typed_is (types_of part) p q.key kind is listed) there

right_there : (part : Part) (pairs : List Pair) → ArePairs part pairs → (p : Pair) (q : IsPair (types_of part) p) → Contains pairs p → IsRightValue part q.key.kind p.value
right_there Global pairs are p q there = λ e. are.values 251 p.value (omega arith) (there_typed Global pairs p q there 251 e (1, omega arith, refl)) refl
right_there Input pairs are p q there = (
  λ e. (are.values 0 p.value (omega arith) (there_typed Input pairs p q there 0 e (0, omega arith, refl))).0 refl,
  λ e. (are.values 1 p.value (omega arith) (there_typed Input pairs p q there 1 e (1, omega arith, refl))).1 refl,
)
right_there Output pairs are p q there = tt
right_there InputFields pairs are p q there = record {
  whole = λ e. (are.values 0 p.value (omega arith) (there_typed InputFields pairs p q there 0 e (0, omega arith, refl))).whole refl;
  paid = λ e. (are.values 1 p.value (omega arith) (there_typed InputFields pairs p q there 1 e (1, omega arith, refl))).paid refl;
  txid = λ e. (are.values 14 p.value (omega arith) (there_typed InputFields pairs p q there 14 e (2, omega arith, refl))).txid refl;
  index = λ e. (are.values 15 p.value (omega arith) (there_typed InputFields pairs p q there 15 e (3, omega arith, refl))).index refl;
  sequence = λ e. (are.values 16 p.value (omega arith) (there_typed InputFields pairs p q there 16 e (4, omega arith, refl))).sequence refl;
}
right_there OutputFields pairs are p q there = λ e. are.values 3 p.value (omega arith) (there_typed OutputFields pairs p q there 3 e (0, omega arith, refl)) refl

value_is : (part : Part) (pairs : List Pair) → ArePairs part pairs → (p : Pair) (q : IsPair (types_of part) p) → Contains pairs p → ValueIs part q.key.kind p.value
value_is part pairs are p q there = form_of part q.key.kind p.value q.value_fits.0 (right_there part pairs are p q there)

pub pairs_fit : (part : Part) (pairs : List Pair) → ArePairs part pairs → MapFits part [] pairs
pairs_fit part pairs are = map_fits part pairs (subst (λ (types : List ℕ). IsMap types pairs) (sym (same_types part)) are.pairs_fit) (value_is part pairs are)

map_judged : (part : Part) (at : At) → IsBytes at.rest → Judged Breaks (MapComes part) at (map_at part at)
map_judged part at fits =
    judged_as Breaks (InPairs part []) (MapComes part) at _ fits
    (λ front field _ c. record { before = c.items; inner = c.inner; parts = c.parts; whole = are_pairs part c.items c.fit; comes = c.comes })
    (λ front field _ c. record { items = c.before; inner = c.inner; fit = pairs_fit part c.before c.whole; parts = c.parts; comes = c.comes })
    (pairs_judged (length at.rest) part [] at fits (omega arith))

maps : (part : Part) → Reads (λ at. map_at part at) map_text (ArePairs part)
maps part = record {
  takes = λ at x fits e.
      let t = (map_reads part).takes at x fits e in
      (t.0, are_pairs part x.0 t.1);
  again = λ pairs at rest is parts. (map_reads part).again pairs at rest (pairs_fit part pairs is) parts;
}

pub map_then : {Y : Type 0} (part : Part) (Then : List Pair → List ℕ → Field → Type 0) (at : At) (f : List Pair × At → Result Y PsbtFault) → IsBytes at.rest → ((pairs : List Pair) (next : At) → ArePairs part pairs → IsBytes next.rest → Judged Breaks (Then pairs) next (f (pairs, next)))
    → Judged Breaks (MapThen part Then) at (map_at part at >>= f)
map_then part Then at f fits later = then Breaks (λ at. map_at part at) map_text (ArePairs part) (maps part) (MapComes part) Then at f fits (map_judged part at fits) later

-- the same where what then comes may depend on where the map ends
pub map_then_from : {Y : Type 0} (part : Part) (Then : List Pair → List ℕ → Field → Type 0) (at : At) (f : List Pair × At → Result Y PsbtFault) → IsBytes at.rest
    → ((pairs : List Pair) (next : At) → ArePairs part pairs → IsBytes next.rest → next.place ≡ at.place + length (map_text pairs) → Judged Breaks (Then pairs) next (f (pairs, next)))
    → Judged Breaks (MapThen part Then) at (map_at part at >>= f)
map_then_from part Then at f fits later = then_from Breaks (λ at. map_at part at) map_text (ArePairs part) (maps part) (MapComes part) Then at f fits (map_judged part at fits) (λ pairs next are next_fits parts place. later pairs next are next_fits place)
