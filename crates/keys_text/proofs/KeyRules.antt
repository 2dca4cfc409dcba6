-- What keys with their paths keep once they are read.
use Rattle.std.proofs.Common.{◌≡◌, ◌<◌, ◌≤◌, ◌+◌, ℕ, suc, Bool, true, false, cond, List, [], ◌∷◌, length, nat_lt, not, Option, Some, None, Result, Ok, Err, codes, refl, sym, ap, subst, ◌∙◌, arith}
use Rattle.std.proofs.lemmas.Bool.{ltb-false}
use Rattle.std.proofs.lemmas.List.{get_or_default}
use Rattle.std.proofs.lemmas.List.Elements.{All-nil, All-cons}
use Rattle.std.specs.List.{position_or_len}
use Rattle.std.specs.Option.{ok_or}
use Rattle.std.specs.Prelude.{All, position}
use Rattle.std.specs.Result.{result_ok}
use Rattle.fund_base.proofs.Laws.{bind_ok}
use Rattle.fund_base.specs.Cursor.{IsBytes}
use Rattle.fund_base.specs.Parsing.{◌>>=◌}
use Rattle.hex.proofs.HexLemmas.{decode_sized-twice, decode_sized-ok, decode_of-ok}
use Rattle.hex.specs.Hex.{decode_sized}
use Rattle.hex.specs.declared.error.FromHexError.{FromHexError}
use Rattle.serde_json.specs.Data.{Data}
use Rattle.serde_json.specs.Find.{as_str}
use Rattle.json_fields.proofs.Loops.{each_is}
use Rattle.json_fields.proofs.ValueFacts.{hex_is}
use Rattle.json_fields.specs.Fields.{object_at, member_at, hex_at, entries_at, each_from}
use Rattle.json_fields.specs.declared.fault.FieldFault.{FieldFault}
use Rattle.json_fields.specs.declared.fault.FieldFault.TheVariants.{Kind}
use Rattle.keys_text.specs.KeysRules.{IsKeyPath}
use Rattle.keys_text.specs.KeysText.{path_at, sized_at, path_names, key_path_at, key_paths_at}
use Rattle.keys_text.specs.Paths.{path_in}
use Rattle.keys_text.specs.PlainKeys.{PlainKeyPath}
use Rattle.keys_text.proofs.PathLoop.{IsIndex, path_is}

-- a value that two steps give is given by the second
second : {A B : Type 0} (first : Option A) (read : A → Option B) (fault : FieldFault) (out : B) → (ok_or first fault >>= λ x. ok_or (read x) fault) ≡ Ok out → (x : A) × (read x ≡ Some out)
second None read fault out e = absurd (cc e)
second {A} {B} (Some x) read fault out e = by (read x) refl e
  where
    by : (r : Option B) → read x ≡ r → ok_or r fault ≡ Ok out → (y : A) × (read y ≡ Some out)
    by None is reads = absurd (cc reads)
    by (Some y) is reads = let same : y ≡ out = cc reads in (x, is ∙ ap Some same)

from_ok : (r : Result (List ℕ) FromHexError) (bytes : List ℕ) → result_ok r ≡ Some bytes → r ≡ Ok bytes
from_ok (Ok b) bytes e = let same : b ≡ bytes = cc e in ap Ok same
from_ok (Err f) bytes e = absurd (cc e)

-- so many bytes
pub sized_is : (name : List ℕ) (size : ℕ) (d : Data) (bytes : List ℕ) → sized_at name size d ≡ Ok bytes → (length bytes ≡ size) × IsBytes bytes
unfolding sized_at
sized_is name size d bytes e =
    let s = second (as_str d) (λ text. result_ok (decode_sized text size)) (Kind name) bytes e in
    let read = from_ok (decode_sized s.0 size) bytes s.1 in
    let long = decode_sized-ok s.0 size bytes read in
    let whole = decode_of-ok s.0 bytes (sym (decode_sized-twice s.0 size long) ∙ read) in
    (omega (arith, whole.2, long), λ k d lt. subst (λ b. b < 256) (get_or_default bytes k 0 d lt) (whole.3 k))

path_at_is : (d : Data) (path : List ℕ) → path_at d ≡ Ok path → All IsIndex path × (length path ≤ 255)
unfolding path_at
path_at_is d path e = let s = second (as_str d) path_in (Kind (codes "path")) path e in path_is s.0 path s.1

key_path_is : (whole name : List ℕ) (d : Data) (k : PlainKeyPath) → key_path_at whole name d ≡ Ok k → IsKeyPath k
unfolding key_path_at
key_path_is whole name d k e =
    let a = bind_ok (object_at whole (path_names name) (path_names name) d) _ k e in
    let b = bind_ok (member_at name d) _ k a.2 in
    let key = bind_ok (hex_at name b.0) _ k b.2 in
    let c = bind_ok (member_at (codes "fingerprint") d) _ k key.2 in
    let fingerprint = bind_ok (sized_at (codes "fingerprint") 4 c.0) _ k c.2 in
    let f = bind_ok (member_at (codes "path") d) _ k fingerprint.2 in
    let path = bind_ok (path_at f.0) _ k f.2 in
    let same : record { key = key.0; fingerprint = fingerprint.0; path = path.0 } ≡ k = cc path.2 in
    let four = sized_is (codes "fingerprint") 4 c.0 fingerprint.0 fingerprint.1 in
    let steps = path_at_is f.0 path.0 path.1 in
    subst IsKeyPath same (record {
      key = hex_is name b.0 key.0 key.1;
      fingerprint_len = four.0;
      fingerprint = four.1;
      path = steps.0;
      few = steps.1;
    })

few : (whole : List ℕ) (read ks : List PlainKeyPath) → cond (nat_lt 1_000 (length read)) (Err (Kind whole)) (Ok read) ≡ Ok ks → (read ≡ ks) × (length ks ≤ 1_000)
few whole read ks e = by (nat_lt 1_000 (length read)) refl e
  where
    by : (b : Bool) → nat_lt 1_000 (length read) ≡ b → cond b (Err (Kind whole)) (Ok read) ≡ Ok ks → (read ≡ ks) × (length ks ≤ 1_000)
    by true is reads = absurd (cc reads)
    by false is reads = let same : read ≡ ks = cc reads in (same, subst (λ (l : List PlainKeyPath). length l ≤ 1_000) same (ltb-false 1_000 (length read) is))

pub key_paths_are : (whole name : List ℕ) (d : Data) (ks : List PlainKeyPath) → key_paths_at whole name d ≡ Ok ks → All IsKeyPath ks × (length ks ≤ 1_000)
unfolding key_paths_at
key_paths_are whole name d ks e =
    let a = bind_ok (entries_at whole d) _ ks e in
    let read = bind_ok (each_from (λ _. key_path_at whole name) [] a.0) _ ks a.2 in
    let law = few whole read.0 ks read.2 in
    (subst (All IsKeyPath) law.0 (each_is IsKeyPath (λ _. key_path_at whole name) (λ front x k is. key_path_is whole name x k is) a.0 read.0 read.1), law.1)

all_pass : {X : Type 0} (test : X → Bool) (xs : List X) → length xs ≤ position_or_len (λ x. not (test x)) xs → All (λ x. test x ≡ true) xs
all_pass test [] le = All-nil (λ x. test x ≡ true)
all_pass test (x ∷ xs) le = by (test x) refl le (all_pass test xs)
  where
    by : (b : Bool) → test x ≡ b → suc (length xs) ≤ cond (not (not b)) (1 + position_or_len (λ y. not (test y)) xs) 0 → (length xs ≤ position_or_len (λ y. not (test y)) xs → All (λ y. test y ≡ true) xs) → All (λ y. test y ≡ true) (x ∷ xs)
    by true is long again = All-cons (λ y. test y ≡ true) x xs is (again (omega (arith, long)))
    by false is long again = absurd (omega (arith, long))

-- no item is the first that fails a test
pub none_fails : {X : Type 0} (test : X → Bool) (xs : List X) → position (λ x. not (test x)) xs ≡ None → All (λ x. test x ≡ true) xs
none_fails test xs e = by (nat_lt (position_or_len (λ x. not (test x)) xs) (length xs)) refl e
  where
    by : (b : Bool) → nat_lt (position_or_len (λ x. not (test x)) xs) (length xs) ≡ b → cond b (Some (position_or_len (λ x. not (test x)) xs)) None ≡ None → All (λ x. test x ≡ true) xs
    by true is reads = absurd (cc reads)
    by false is reads = all_pass test xs (ltb-false (position_or_len (λ x. not (test x)) xs) (length xs) is)
