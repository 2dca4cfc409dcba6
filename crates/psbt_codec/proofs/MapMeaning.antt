-- What the pairs of a map tell, as they were read and as a readable map has them.
use Rattle.std.proofs.Common.{◌≡◌, ◌≢◌, ℕ, zero, suc, ◌<◌, ◌^◌, true, false, List, [], ◌∷◌, ◌++◌, length, get_or, All, refl, sym, ap, ◌∙◌, append_assoc, arith, inl, inr, subst}
use Rattle.std.specs.Prelude.{Option, Some, None, option_map, find, bytes_eq, Contains, AllPairs}
use Rattle.std.specs.List.{AllByRecursion}
use Rattle.std.proofs.lemmas.Bool.{cases_Bool, cases_order, both_ways, false_from_ne_true, or_left, or_right}
use Rattle.std.proofs.lemmas.Option.{same_Some}
use Rattle.std.proofs.lemmas.List.{append-nil, get_or_append_left, get_or_at, get_or_default, length-append}
use Rattle.std.proofs.lemmas.List.Elements.{All-contains, All-from_recursion, recursion_from_All, All-weaker, Contains-get_or}
use Rattle.std.proofs.lemmas.List.Folds.{list_any-append, list_any_none}
use Rattle.std.proofs.lemmas.List.Kept.{AllPairs-cons}
use Rattle.fund_base.proofs.Laws.{ok_is}
use Rattle.fund_base.proofs.LawsOfNumbers.{compact1, count_reads}
use Rattle.fund_base.proofs.Lists.{equal_bytes, same_bytes}
use Rattle.fund_base.specs.CompactSize.{compact}
use Rattle.fund_base.specs.Cursor.{At, compact_at}
use Rattle.psbt_codec.specs.declared.pairs.Part.{Part}
use Rattle.psbt_codec.specs.Psbt.{Pair, typed, HaveOtherKeys, IsKey, IsPair, IsMap, IsString, HasKnownPair}
use Rattle.psbt_codec.specs.Reading.{start, has_key, value_of}
use Rattle.psbt_codec.proofs.PairLaws.{types_of, ValueIs, PairFits}
use Rattle.psbt_codec.proofs.MapReads.{MapFits}

-- ---- keys

key_other : (a b : List ℕ) → a ≢ b → bytes_eq a b ≡ false
key_other a b other = false_from_ne_true (bytes_eq a b) (λ e. other (equal_bytes a b e))

-- ---- pairs that were read one after the other are a map

each_fits : (part : Part) (before pairs : List Pair) → MapFits part before pairs → AllByRecursion (PairFits part) pairs
each_fits part before [] fits = tt
each_fits part before (p ∷ pairs) fits = (fits.0.fits, each_fits part (before ++ p ∷ []) pairs fits.1)

still_has : (before : List Pair) (q : Pair) (key : List ℕ) → has_key key before ≡ true → has_key key (before ++ q ∷ []) ≡ true
still_has before q key has = list_any-append (λ (r : Pair). bytes_eq r.key key) before (q ∷ []) ∙ or_left (has_key key before) _ has

-- pairs after these don't have the key of a pair among these
others_differ : (part : Part) (p : Pair) (before pairs : List Pair) → ((key : List ℕ) → p.key ≡ key → has_key key before ≡ true) → MapFits part before pairs → AllByRecursion (HaveOtherKeys p) pairs
others_differ part p before [] has fits = tt
others_differ part p before (q ∷ pairs) has fits =
    (λ same. both_ways (has_key q.key before) fits.0.fresh (has q.key same), others_differ part p (before ++ q ∷ []) pairs (λ key same. still_has before q key (has key same)) fits.1)

last_has : (before : List Pair) (p : Pair) (key : List ℕ) → p.key ≡ key → has_key key (before ++ p ∷ []) ≡ true
last_has before p key same = list_any-append (λ (r : Pair). bytes_eq r.key key) before (p ∷ []) ∙ or_right (has_key key before) _ (or_left (bytes_eq p.key key) false (same_bytes p.key key same))

distinct_keys : (part : Part) (before pairs : List Pair) → MapFits part before pairs → AllPairs HaveOtherKeys pairs
distinct_keys part before [] fits = λ i j d lt end. absurd (omega (arith, end))
distinct_keys part before (p ∷ pairs) fits =
    AllPairs-cons HaveOtherKeys p pairs (All-from_recursion (HaveOtherKeys p) pairs (others_differ part p (before ++ p ∷ []) pairs (last_has before p) fits.1)) (distinct_keys part (before ++ p ∷ []) pairs fits.1)

pub map_is : (part : Part) (pairs : List Pair) → MapFits part [] pairs → IsMap (types_of part) pairs × All (PairFits part) pairs
map_is part pairs fits =
    let each : All (PairFits part) pairs = All-from_recursion (PairFits part) pairs (each_fits part [] pairs fits) in
    (record { each = All-weaker (PairFits part) (IsPair (types_of part)) (λ p fit. fit.is_pair) pairs each; distinct = distinct_keys part [] pairs fits }, each)

-- ---- and a map's pairs are read one after the other

-- a pair that stands after these in a map has another key than they
fresh_behind : (before : List Pair) (p : Pair) (pairs : List Pair) → AllPairs HaveOtherKeys (before ++ p ∷ pairs) → has_key p.key before ≡ false
fresh_behind before p pairs distinct =
    list_any_none (λ (r : Pair). bytes_eq r.key p.key) before (λ i d lt.
    let within : length before < length (before ++ p ∷ pairs) = omega (arith, length-append before (p ∷ pairs)) in
    let other : HaveOtherKeys (get_or (before ++ p ∷ pairs) i d) (get_or (before ++ p ∷ pairs) (length before) d) = distinct i (length before) d lt within in
    let earlier : get_or (before ++ p ∷ pairs) i d ≡ get_or before i d = get_or_append_left before (p ∷ pairs) d i lt in
    let here : get_or (before ++ p ∷ pairs) (length before) d ≡ p = get_or_at before p pairs d (length before) refl in
    key_other (get_or before i d).key p.key (rw (earlier, here) at other))

fit_behind : (part : Part) (before pairs : List Pair) → AllPairs HaveOtherKeys (before ++ pairs) → AllByRecursion (PairFits part) pairs → MapFits part before pairs
fit_behind part before [] distinct fits = tt
fit_behind part before (p ∷ pairs) distinct fits =
    (record { fits = fits.0; fresh = fresh_behind before p pairs distinct }, fit_behind part (before ++ p ∷ []) pairs (rw append_assoc distinct) fits.1)

pub map_fits : (part : Part) (pairs : List Pair) → IsMap (types_of part) pairs → ((p : Pair) (q : IsPair (types_of part) p) → Contains pairs p → ValueIs part q.key.kind p.value) → MapFits part [] pairs
map_fits part pairs is values =
    let each : All (PairFits part) pairs = λ i d lt. record { is_pair = is.each i d lt; value_is = values (get_or pairs i d) (is.each i d lt) (Contains-get_or pairs i d lt) } in
    fit_behind part [] pairs is.distinct (recursion_from_All (PairFits part) pairs each)

-- ---- a value of a type that has a meaning

-- the type of a key that is a type alone
pub kind_of : (meant : List ℕ) (kind : ℕ) (k : IsKey meant (compact kind)) → kind < 2 ^ 64 → k.kind ≡ kind
kind_of meant kind k small =
    let a = count_reads.again k.kind (start (compact kind)) k.key_data k.kind_fits k.parts in
    let b = count_reads.again kind (start (compact kind)) [] small (sym (append-nil (compact kind))) in
    ap (λ (x : ℕ × At). x.0) (ok_is (k.kind, a.next) (kind, b.next) (compact_at (start (compact kind))) a.reads b.reads)

-- a value under a type alone
pub holds_typed : (part : Part) (pairs : List Pair) → All (PairFits part) pairs → (kind : ℕ) → kind < 2 ^ 64 → (value : List ℕ) → Contains pairs (typed kind value) → IsString value × ValueIs part kind value
holds_typed part pairs each kind small value has =
    let p = All-contains (PairFits part) pairs (typed kind value) each has in
    (p.is_pair.value_fits, subst (λ (k : ℕ). ValueIs part k value) (kind_of (types_of part) kind p.is_pair.key small) p.value_is)

-- ---- the value of a type

further : (p q : Pair) (pairs : List Pair) → Contains pairs q → Contains (p ∷ pairs) q
further p q pairs c = (suc c.0, omega (arith, c.1), c.2)

found : (key value : List ℕ) (pairs : List Pair) → option_map (λ (p : Pair). p.value) (find (λ (p : Pair). bytes_eq p.key key) pairs) ≡ Some value → Contains pairs (record { key = key; value = value })
found key value [] e = absurd cc
found key value (p ∷ pairs) e =
    elim (cases_Bool (bytes_eq p.key key)) [
      | inl same ↦
          let v : p.value ≡ value = same_Some p.value value (rw same at e) in
          let k : p.key ≡ key = equal_bytes p.key key same in
          (0, omega arith, ap (λ (x : List ℕ). record { key = x; value = p.value }) k ∙ ap (λ (x : List ℕ). record { key = key; value = x }) v)
      | inr other ↦ further p (record { key = key; value = value }) pairs (found key value pairs (rw other at e))
    ]

missing_at : (key value : List ℕ) (p : Pair) (pairs : List Pair) → bytes_eq p.key key ≡ false → (Contains pairs (record { key = key; value = value }) → ⊥) → (i : ℕ) → i < length (p ∷ pairs) → get_or (p ∷ pairs) i (record { key = key; value = value }) ≡ record { key = key; value = value } → ⊥
missing_at key value p pairs other rest zero lt e = both_ways (bytes_eq p.key key) other (same_bytes p.key key (ap (λ (q : Pair). q.key) e))
missing_at key value p pairs other rest (suc i) lt e = rest (i, omega (arith, lt), e)

missing : (key value : List ℕ) (pairs : List Pair) → option_map (λ (p : Pair). p.value) (find (λ (p : Pair). bytes_eq p.key key) pairs) ≡ None → Contains pairs (record { key = key; value = value }) → ⊥
missing key value [] e c = omega (arith, c.1)
missing key value (p ∷ pairs) e c =
    elim (cases_Bool (bytes_eq p.key key)) [
      | inl same ↦ let none = rw same at e in absurd cc
      | inr other ↦ missing_at key value p pairs other (λ d. missing key value pairs (rw other at e) d) c.0 c.1 c.2
    ]

-- pairs of a map that have one key are one
one_pair : (pairs : List Pair) (p q : Pair) → AllPairs HaveOtherKeys pairs → Contains pairs p → Contains pairs q → p.key ≡ q.key → p ≡ q
one_pair pairs p q distinct a b same =
    let at_b : get_or pairs b.0 p ≡ q = get_or_default pairs b.0 p q b.1 ∙ b.2 in
    elim (cases_order a.0 b.0) [
      | inl one ↦ sym a.2 ∙ ap (λ (i : ℕ). get_or pairs i p) one ∙ at_b
      | inr two ↦ elim two [
        | inl before ↦ absurd (distinct a.0 b.0 p before b.1 (ap (λ (r : Pair). r.key) a.2 ∙ same ∙ ap (λ (r : Pair). r.key) (sym at_b)))
        | inr behind ↦ absurd (distinct b.0 a.0 p behind a.1 (ap (λ (r : Pair). r.key) at_b ∙ sym same ∙ ap (λ (r : Pair). r.key) (sym a.2)))
      ]
    ]

-- a pair whose key is of a type that has a meaning
pub typed_is : (meant : List ℕ) (p : Pair) (k : IsKey meant p.key) (kind : ℕ) → k.kind ≡ kind → Contains meant kind → p ≡ typed kind p.value
typed_is meant p k kind is listed =
    let bare : k.key_data ≡ [] = k.whole (rw is listed) in
    let key : p.key ≡ compact kind = k.parts ∙ ap (λ (l : List ℕ). compact k.kind ++ l) bare ∙ append-nil (compact k.kind) ∙ ap compact is in
    ap (λ (l : List ℕ). record { key = l; value = p.value }) key

pub found_typed : (pairs : List Pair) (kind : ℕ) (value : List ℕ) → kind < 253 → value_of kind pairs ≡ Some value → Contains pairs (typed kind value)
found_typed pairs kind value small e = rw (compact1 kind small) (found (kind ∷ []) value pairs e)

pub missing_typed : (pairs : List Pair) (kind : ℕ) (value : List ℕ) → kind < 253 → value_of kind pairs ≡ None → Contains pairs (typed kind value) → ⊥
missing_typed pairs kind value small e c = missing (kind ∷ []) value pairs e (rw (compact1 kind small) at c)

told_value_at : {X : Type 0} (pairs : List Pair) (kind : ℕ) (text : X → List ℕ) (known : Option X) → kind < 253 → HasKnownPair pairs kind text known → (o : Option (List ℕ)) → value_of kind pairs ≡ o → o ≡ option_map text known
told_value_at pairs kind text known small tells (Some value) e = sym ((tells value).0 (found_typed pairs kind value small e))
told_value_at pairs kind text None small tells None e = refl
told_value_at pairs kind text (Some x) small tells None e = absurd (missing_typed pairs kind (text x) small e ((tells (text x)).1 refl))

-- the value of a type, in a map that tells it
pub told_value : {X : Type 0} (pairs : List Pair) (kind : ℕ) (text : X → List ℕ) (known : Option X) → kind < 253 → HasKnownPair pairs kind text known → value_of kind pairs ≡ option_map text known
told_value pairs kind text known small tells = told_value_at pairs kind text known small tells (value_of kind pairs) refl

tells_value_at : {X : Type 0} (pairs : List Pair) (kind : ℕ) (text : X → List ℕ) (known : Option X) → kind < 253 → AllPairs HaveOtherKeys pairs → (value : List ℕ) → Contains pairs (typed kind value) → (o : Option (List ℕ)) → value_of kind pairs ≡ o → o ≡ option_map text known → option_map text known ≡ Some value
tells_value_at pairs kind text known small distinct value c None is e = absurd (missing_typed pairs kind value small is c)
tells_value_at pairs kind text known small distinct value c (Some other) is e =
    let same = one_pair pairs (typed kind other) (typed kind value) distinct (found_typed pairs kind other small is) c refl in
    sym e ∙ ap (λ (p : Pair). Some p.value) same

-- a map whose value of a type is the text of what is known tells it
pub tells_value : {X : Type 0} (pairs : List Pair) (kind : ℕ) (text : X → List ℕ) (known : Option X) → kind < 253 → AllPairs HaveOtherKeys pairs → value_of kind pairs ≡ option_map text known → HasKnownPair pairs kind text known
tells_value pairs kind text known small distinct e = λ value. (
  λ c. tells_value_at pairs kind text known small distinct value c (value_of kind pairs) refl e,
  λ is. found_typed pairs kind value small (e ∙ is),
)

value_there_at : (pairs : List Pair) (kind : ℕ) (value : List ℕ) → kind < 253 → AllPairs HaveOtherKeys pairs → Contains pairs (typed kind value) → (o : Option (List ℕ)) → value_of kind pairs ≡ o → o ≡ Some value
value_there_at pairs kind value small distinct has None is = absurd (missing_typed pairs kind value small is has)
value_there_at pairs kind value small distinct has (Some other) is = ap (λ (p : Pair). Some p.value) (one_pair pairs (typed kind other) (typed kind value) distinct (found_typed pairs kind other small is) has refl)

-- the value that a type has
pub value_there : (pairs : List Pair) (kind : ℕ) (value : List ℕ) → kind < 253 → AllPairs HaveOtherKeys pairs → Contains pairs (typed kind value) → value_of kind pairs ≡ Some value
value_there pairs kind value small distinct has = value_there_at pairs kind value small distinct has (value_of kind pairs) refl
