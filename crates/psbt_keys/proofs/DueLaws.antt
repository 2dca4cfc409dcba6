-- What is due in a map: no key stands in it twice, and the types of its pairs.
use Rattle.std.proofs.Common.{◌≡◌, ◌≢◌, ◌∙◌, ◌⊎◌, ℕ, Bool, true, false, cond, List, [], ◌∷◌, ◌++◌, map, get_or, Option, Some, None, All, refl, sym, ap, subst, inl, inr}
use Rattle.std.specs.Prelude.{AllPairs, Contains, bytes_eq}
use Rattle.std.proofs.lemmas.List.Elements.{All-append, All-cons, All-contains, All-head, All-nil, All-tail}
use Rattle.std.proofs.lemmas.List.Kept.{AllPairs-cons}
use Rattle.std.proofs.lemmas.Bool.{eqb-false}
use Rattle.std.proofs.lemmas.Slice.Eq.{bytes_eq-Decides}
use Rattle.psbt_codec.specs.Psbt.{HaveOtherKeys, Pair}
use Rattle.keys_text.specs.KeysRules.{AreDistinctKeys, AreDistinctScripts, IsKeys}
use Rattle.keys_text.specs.PlainKeys.{PlainEntry, PlainKeyPath, PlainKeys, PlainScriptKeys}
use Rattle.psbt_keys.specs.Origins.{due_for, entry_of, entry_pairs, global_due, key_pairs, known_pair, path_pair, script_pairs, types_of_input, types_of_output}
use Rattle.psbt_keys.specs.Pairs.{pair_of_type, type_of}
use Rattle.psbt_keys.specs.declared.due.PairTypes.{PairTypes}
use Rattle.psbt_keys.proofs.PlaceLaws.{first_or, has_none, pairs_head, pairs_none, pairs_one, pairs_tail}

-- ---- lists of pairs

pairs_append : {X : Type 0} → (R : X → X → Type 0) (P Q : X → Type 0) (xs ys : List X) → ((x y : X) → P x → Q y → R x y) → All P xs → All Q ys → AllPairs R xs → AllPairs R ys → AllPairs R (xs ++ ys)
pairs_append R P Q [] ys cross of_p of_q left right = right
pairs_append R P Q (x ∷ xs) ys cross of_p of_q left right =
    let here = All-head P x xs of_p in
    AllPairs-cons R x (xs ++ ys)
    (All-append (R x) xs ys (pairs_head R x xs left) (λ k d lt. cross x (get_or ys k d) here (of_q k d lt)))
    (pairs_append R P Q xs ys cross (All-tail P x xs of_p) of_q (pairs_tail R x xs left) right)

pub all_mapped : {X Y : Type 0} → (P : Y → Type 0) (f : X → Y) → ((x : X) → P (f x)) → (xs : List X) → All P (map f xs)
all_mapped P f h [] = All-nil P
all_mapped P f h (x ∷ xs) = All-cons P (f x) (map f xs) (h x) (all_mapped P f h xs)

-- ---- the types of due pairs

abbrev pub HasType : ℕ → Pair → Type 0
HasType kind p = type_of p ≡ kind

abbrev HasOtherType : ℕ → Pair → Type 0
HasOtherType kind p = type_of p ≢ kind

other_keys : (kind : ℕ) (p q : Pair) → HasType kind p → HasOtherType kind q → HaveOtherKeys p q
other_keys kind p q of_p of_q same = of_q (sym (ap (λ (l : List ℕ). let r : Pair = record { key = l; value = [] } in type_of r) same) ∙ of_p)

pub known_types : (kind : ℕ) (o : Option (List ℕ)) → All (HasType kind) (known_pair kind o)
known_types kind None = All-nil (HasType kind)
known_types kind (Some bytes) = All-cons (HasType kind) (pair_of_type kind [] bytes) [] refl (All-nil (HasType kind))

known_alone : (kind : ℕ) (o : Option (List ℕ)) → AllPairs HaveOtherKeys (known_pair kind o)
known_alone kind None = pairs_none HaveOtherKeys
known_alone kind (Some bytes) = pairs_one HaveOtherKeys (pair_of_type kind [] bytes)

same_rest : (kind : ℕ) (k j : List ℕ) → kind ∷ k ≡ kind ∷ j → k ≡ j
same_rest kind k j e = cc

other_paths : (before : List ℕ) (kind : ℕ) (k j : PlainKeyPath) → k.key ≢ j.key → HaveOtherKeys (path_pair before kind k) (path_pair before kind j)
other_paths before kind k j other same = other (same_rest kind k.key j.key same)

other_than : (before : List ℕ) (kind : ℕ) (k : PlainKeyPath) (js : List PlainKeyPath) → All (λ (j : PlainKeyPath). k.key ≢ j.key) js → All (HaveOtherKeys (path_pair before kind k)) (map (path_pair before kind) js)
other_than before kind k [] g = All-nil (HaveOtherKeys (path_pair before kind k))
other_than before kind k (j ∷ js) g =
    All-cons (HaveOtherKeys (path_pair before kind k)) (path_pair before kind j) (map (path_pair before kind) js)
    (other_paths before kind k j (All-head (λ (i : PlainKeyPath). k.key ≢ i.key) j js g))
    (other_than before kind k js (All-tail (λ (i : PlainKeyPath). k.key ≢ i.key) j js g))

paths_alone : (before : List ℕ) (kind : ℕ) (keys : List PlainKeyPath) → AreDistinctKeys keys → AllPairs HaveOtherKeys (map (path_pair before kind) keys)
paths_alone before kind [] h = pairs_none HaveOtherKeys
paths_alone before kind (k ∷ keys) h =
    AllPairs-cons HaveOtherKeys (path_pair before kind k) (map (path_pair before kind) keys)
    (other_than before kind k keys (pairs_head (λ (i j : PlainKeyPath). i.key ≢ j.key) k keys h))
    (paths_alone before kind keys (pairs_tail (λ (i j : PlainKeyPath). i.key ≢ j.key) k keys h))

-- ---- the pairs of a script

-- the types are five
pub record AreTypes (t : PairTypes) : Type 0 where
  pub redeem_witness : t.witness ≢ t.redeem
  pub redeem_internal : t.internal ≢ t.redeem
  pub redeem_key : t.key ≢ t.redeem
  pub redeem_taproot : t.taproot ≢ t.redeem
  pub witness_internal : t.internal ≢ t.witness
  pub witness_key : t.key ≢ t.witness
  pub witness_taproot : t.taproot ≢ t.witness
  pub internal_key : t.key ≢ t.internal
  pub internal_taproot : t.taproot ≢ t.internal

keys_other : (t : PairTypes) (kind : ℕ) (o : Option (List ℕ)) (keys : List PlainKeyPath) → t.key ≢ kind → t.taproot ≢ kind → All (HasOtherType kind) (key_pairs t o keys)
keys_other t kind None keys key taproot = all_mapped (HasOtherType kind) (path_pair [] t.key) (λ k same. key same) keys
keys_other t kind (Some x) keys key taproot = all_mapped (HasOtherType kind) (path_pair (0 ∷ []) t.taproot) (λ k same. taproot same) keys

known_other : (kind other : ℕ) (o : Option (List ℕ)) → other ≢ kind → All (HasOtherType kind) (known_pair other o)
known_other kind other None apart = All-nil (HasOtherType kind)
known_other kind other (Some x) apart = All-cons (HasOtherType kind) (pair_of_type other [] x) [] (λ same. apart same) (All-nil (HasOtherType kind))

keys_alone : (t : PairTypes) (o : Option (List ℕ)) (keys : List PlainKeyPath) → AreDistinctKeys keys → AllPairs HaveOtherKeys (key_pairs t o keys)
keys_alone t None keys h = paths_alone [] t.key keys h
keys_alone t (Some x) keys h = paths_alone (0 ∷ []) t.taproot keys h

script_alone : (t : PairTypes) (s : PlainScriptKeys) → AreTypes t → AreDistinctKeys s.keys → AllPairs HaveOtherKeys (script_pairs t s)
script_alone t s five h =
    let keys = key_pairs t s.internal s.keys in
    let internal = known_pair t.internal s.internal in
    let witness = known_pair t.witness s.witness in
    let redeem = known_pair t.redeem s.redeem in
    let third = pairs_append HaveOtherKeys (HasType t.internal) (HasOtherType t.internal) internal keys (other_keys t.internal) (known_types t.internal s.internal) (keys_other t t.internal s.internal s.keys five.internal_key five.internal_taproot) (known_alone t.internal s.internal) (keys_alone t s.internal s.keys h) in
    let second = pairs_append HaveOtherKeys (HasType t.witness) (HasOtherType t.witness) witness (internal ++ keys) (other_keys t.witness) (known_types t.witness s.witness)
    (All-append (HasOtherType t.witness) internal keys (known_other t.witness t.internal s.internal five.witness_internal) (keys_other t t.witness s.internal s.keys five.witness_key five.witness_taproot))
    (known_alone t.witness s.witness) third in
    pairs_append HaveOtherKeys (HasType t.redeem) (HasOtherType t.redeem) redeem (witness ++ (internal ++ keys)) (other_keys t.redeem) (known_types t.redeem s.redeem)
    (All-append (HasOtherType t.redeem) witness (internal ++ keys) (known_other t.redeem t.witness s.witness five.redeem_witness)
    (All-append (HasOtherType t.redeem) internal keys (known_other t.redeem t.internal s.internal five.redeem_internal) (keys_other t t.redeem s.internal s.keys five.redeem_key five.redeem_taproot)))
    (known_alone t.redeem s.redeem) second

-- ---- the entry of a script

same_entry : (d e : PlainEntry) → Some d ≡ Some e → d ≡ e
same_entry d e h = cc

-- what is found is an entry
found_is : (P : PlainEntry → Type 0) (script : List ℕ) (es : List PlainEntry) (e : PlainEntry) → All P es → entry_of es script ≡ Some e → P e
found_is P script [] e all is = absurd cc
found_is P script (d ∷ ds) e all is = by (bytes_eq d.script script) is (λ rest. found_is P script ds e (All-tail P d ds all) rest)
  where
    by : (b : Bool) → cond b (Some d) (entry_of ds script) ≡ Some e → (entry_of ds script ≡ Some e → P e) → P e
    by true here rest = subst P (same_entry d e here) (All-head P d ds all)
    by false here rest = rest here

pub due_alone : (t : PairTypes) (k : PlainKeys) (script : Option (List ℕ)) → AreTypes t → IsKeys k → AllPairs HaveOtherKeys (due_for t k.scripts script)
due_alone t k None five is = pairs_none HaveOtherKeys
due_alone t k (Some script) five is = by (entry_of k.scripts script) refl
  where
    by : (o : Option PlainEntry) → entry_of k.scripts script ≡ o → AllPairs HaveOtherKeys (entry_pairs t o)
    by None e = pairs_none HaveOtherKeys
    by (Some entry) e = script_alone t entry.known five (found_is (λ (x : PlainEntry). AreDistinctKeys x.known.keys) script k.scripts entry (λ i d lt. (is.scripts i d lt).keys.distinct) e)

pub global_alone : (k : PlainKeys) → IsKeys k → AllPairs HaveOtherKeys (global_due k)
global_alone k is = paths_alone [] 1 k.xpubs is.xpubs.distinct

pub input_types : AreTypes types_of_input
input_types = record {
  redeem_witness = eqb-false 5 4 refl;
  redeem_internal = eqb-false 23 4 refl;
  redeem_key = eqb-false 6 4 refl;
  redeem_taproot = eqb-false 22 4 refl;
  witness_internal = eqb-false 23 5 refl;
  witness_key = eqb-false 6 5 refl;
  witness_taproot = eqb-false 22 5 refl;
  internal_key = eqb-false 6 23 refl;
  internal_taproot = eqb-false 22 23 refl;
}

pub output_types : AreTypes types_of_output
output_types = record {
  redeem_witness = eqb-false 1 0 refl;
  redeem_internal = eqb-false 5 0 refl;
  redeem_key = eqb-false 2 0 refl;
  redeem_taproot = eqb-false 7 0 refl;
  witness_internal = eqb-false 5 1 refl;
  witness_key = eqb-false 2 1 refl;
  witness_taproot = eqb-false 7 1 refl;
  internal_key = eqb-false 2 5 refl;
  internal_taproot = eqb-false 7 5 refl;
}

-- ---- what is known of a script

same_bytes : (a b : List ℕ) → bytes_eq a b ≡ false → a ≢ b
same_bytes a b e same = let equal = (bytes_eq-Decides a b).1 same in absurd cc

pub entry_found : (es : List PlainEntry) (e : PlainEntry) → AreDistinctScripts es → Contains es e → entry_of es e.script ≡ Some e
entry_found [] e h c = absurd (has_none e c)
entry_found (d ∷ ds) e h c = by (bytes_eq d.script e.script) refl (first_or d ds e c) (λ there. entry_found ds e (pairs_tail (λ (x y : PlainEntry). x.script ≢ y.script) d ds h) there)
  where
    by : (b : Bool) → bytes_eq d.script e.script ≡ b → Contains ds e ⊎ (d ≡ e) → (Contains ds e → entry_of ds e.script ≡ Some e) → cond b (Some d) (entry_of ds e.script) ≡ Some e
    by true same (inl there) rest = absurd (All-contains (λ (x : PlainEntry). d.script ≢ x.script) ds e (pairs_head (λ (x y : PlainEntry). x.script ≢ y.script) d ds h) there ((bytes_eq-Decides d.script e.script).0 same))
    by true same (inr is) rest = ap Some is
    by false other (inl there) rest = rest there
    by false other (inr is) rest = absurd (same_bytes d.script e.script other (ap (λ (x : PlainEntry). x.script) is))

pub entry_missing : (es : List PlainEntry) (script : List ℕ) → All (λ (e : PlainEntry). e.script ≢ script) es → entry_of es script ≡ None
entry_missing [] script h = refl
entry_missing (d ∷ ds) script h = by (bytes_eq d.script script) refl (entry_missing ds script (All-tail (λ (e : PlainEntry). e.script ≢ script) d ds h))
  where
    by : (b : Bool) → bytes_eq d.script script ≡ b → entry_of ds script ≡ None → cond b (Some d) (entry_of ds script) ≡ None
    by true same rest = absurd (All-head (λ (e : PlainEntry). e.script ≢ script) d ds h ((bytes_eq-Decides d.script script).0 same))
    by false other rest = rest

-- what is due of a script that has an entry, and of one that has none
pub due_known : (t : PairTypes) (k : PlainKeys) (script : List ℕ) (s : PlainScriptKeys) → IsKeys k → Contains k.scripts (record { script = script; known = s }) → due_for t k.scripts (Some script) ≡ script_pairs t s
due_known t k script s is c = ap (entry_pairs t) (entry_found k.scripts (record { script = script; known = s }) is.distinct c)

pub due_unknown : (t : PairTypes) (k : PlainKeys) (script : List ℕ) → All (λ (e : PlainEntry). e.script ≢ script) k.scripts → due_for t k.scripts (Some script) ≡ []
due_unknown t k script h = ap (entry_pairs t) (entry_missing k.scripts script h)
