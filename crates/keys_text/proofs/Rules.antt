-- What is read keeps the rules of keys files.
use Rattle.std.proofs.Common.{◌≡◌, ◌≢◌, ◌<◌, ◌≤◌, ℕ, Bool, true, false, cond, ◌&&◌, ◌||◌, not, List, [], length, get_or, nat_lt, nat_le, bytes_eq, is_some, Option, Some, None, Result, Ok, Err, codes, refl, sym, subst, ◌∙◌, true≢false, arith}
use Rattle.std.proofs.lemmas.Bool.{leb-true, ltb-true, and_parts, not-true}
use Rattle.std.proofs.lemmas.List.{get_or-map, length-map}
use Rattle.std.proofs.lemmas.List.Quantifiers.{all_pairs_push}
use Rattle.std.proofs.lemmas.Slice.Eq.{bytes_eq-Decides}
use Rattle.std.specs.Option.{option_map_or}
use Rattle.std.specs.Prelude.{All, ◌↔◌, IfSome, IsSome, IsTrue, position}
use Rattle.fund_base.proofs.Laws.{bind_ok, told_ok}
use Rattle.fund_base.specs.Cursor.{IsBytes}
use Rattle.fund_base.specs.Parsing.{◌>>=◌}
use Rattle.serde_json.specs.Data.{Data}
use Rattle.serde_json.specs.Find.{get}
use Rattle.json_fields.proofs.Loops.{each_keeps, each_is}
use Rattle.json_fields.proofs.Members.{is_among-Contains}
use Rattle.json_fields.proofs.ValueFacts.{hex_is}
use Rattle.json_fields.specs.Fields.{object_at, member_at, optional, hex_at, entries_at, is_among, refuse, IsHash}
use Rattle.json_fields.specs.declared.fault.FieldFault.{FieldFault}
use Rattle.keys_text.specs.Entries.{scripts_of}
use Rattle.keys_text.specs.Judging.{fits_internal, fits_key, fits_redeem, fits_witness, has_script_length, is_xpub, pays_script_hash, pays_taproot, program_of, repeat_from, witness_program}
use Rattle.keys_text.specs.KeysRules.{AreDistinctScripts, AreKeyPaths, IsEntry, IsKeyOf, IsKeyPath, IsKeys}
use Rattle.keys_text.specs.KeysText.{field, told_index, sized_at, key_paths_at, hex_or_none, internal_at, known_at, entry_names, entry_required, entry_at, unless, keys_judged, judged, entry_behind, scripts_at, xpubs_judged, xpubs_at}
use Rattle.keys_text.specs.PlainKeys.{PlainEntry, PlainKeyPath, PlainScriptKeys}
use Rattle.keys_text.specs.declared.fault.KeysFault.{KeysFault}
use Rattle.keys_text.specs.declared.fault.KeysFault.TheVariants.{Field, Script, Redeem, Witness, Internal, Key, Xpub}
use Rattle.keys_text.proofs.KeyRules.{key_paths_are, none_fails, sized_is}
use Rattle.keys_text.proofs.Repeats.{distinct}

pub field_ok : {A B : Type 0} (first : Result A FieldFault) (then : A → Result B KeysFault) (out : B) → (field first >>= then) ≡ Ok out → (x : A) × (first ≡ Ok x) × (then x ≡ Ok out)
field_ok first then out e = let s = bind_ok (field first) then out e in (s.0, told_ok Field first s.0 s.1, s.2)

-- ---- the form of an entry

-- what an entry that is read is before it is judged
record IsFormed (known : PlainScriptKeys) : Type 0 where
  redeem : IfSome known.redeem IsBytes
  witness : IfSome known.witness IsBytes
  internal : IfSome known.internal IsHash
  keys : All IsKeyPath known.keys
  few : length known.keys ≤ 1_000

some_is : {A : Type 0} (P : A → Type 0) (read : Result A FieldFault) (out : Option A) → ((x : A) → read ≡ Ok x → P x) → (read >>= λ x. Ok (Some x)) ≡ Ok out → IfSome out P
some_is P (Ok x) out law e = let same : Some x ≡ out = cc e in subst (λ o. IfSome o P) same (law x refl)
some_is P (Err fault) out law e = absurd (cc e)

hex_or_none_is : (name : List ℕ) (d : Data) (out : Option (List ℕ)) → hex_or_none name d ≡ Ok out → IfSome out IsBytes
unfolding hex_or_none
hex_or_none_is name d out e = by (get name d) e
  where
    by : (o : Option Data) → optional None (λ m. hex_at name m >>= λ bytes. Ok (Some bytes)) o ≡ Ok out → IfSome out IsBytes
    by None reads = let same : None ≡ out = cc reads in subst (λ o. IfSome o IsBytes) same tt
    by (Some m) reads = some_is IsBytes (hex_at name m) out (hex_is name m) reads

internal_is : (d : Data) (out : Option (List ℕ)) → internal_at d ≡ Ok out → IfSome out IsHash
unfolding internal_at
internal_is d out e = by (get (codes "internal") d) e
  where
    by : (o : Option Data) → optional None (λ m. sized_at (codes "internal") 32 m >>= λ key. Ok (Some key)) o ≡ Ok out → IfSome out IsHash
    by None reads = let same : None ≡ out = cc reads in subst (λ o. IfSome o IsHash) same tt
    by (Some m) reads = some_is IsHash (sized_at (codes "internal") 32 m) out (λ key is. let law = sized_is (codes "internal") 32 m key is in record { len = law.0; bytes = law.1 }) reads

known_is : (d : Data) (known : PlainScriptKeys) → known_at d ≡ Ok known → IsFormed known
unfolding known_at
known_is d known e =
    let redeem = bind_ok (hex_or_none (codes "redeem") d) _ known e in
    let witness = bind_ok (hex_or_none (codes "witness") d) _ known redeem.2 in
    let internal = bind_ok (internal_at d) _ known witness.2 in
    let k = bind_ok (member_at (codes "keys") d) _ known internal.2 in
    let keys = bind_ok (key_paths_at (codes "keys") (codes "pubkey") k.0) _ known k.2 in
    let same : record { redeem = redeem.0; witness = witness.0; internal = internal.0; keys = keys.0 } ≡ known = cc keys.2 in
    let law = key_paths_are (codes "keys") (codes "pubkey") k.0 keys.0 keys.1 in
    subst IsFormed same (record {
      redeem = hex_or_none_is (codes "redeem") d redeem.0 redeem.1;
      witness = hex_or_none_is (codes "witness") d witness.0 witness.1;
      internal = internal_is d internal.0 internal.1;
      keys = law.0;
      few = law.1;
    })

entry_is : (d : Data) (e : PlainEntry) → entry_at d ≡ Ok e → IsBytes e.script × IsFormed e.known
unfolding entry_at
entry_is d e is =
    let a = bind_ok (object_at (codes "scripts") entry_names entry_required d) _ e is in
    let s = bind_ok (member_at (codes "script") d) _ e a.2 in
    let script = bind_ok (hex_at (codes "script") s.0) _ e s.2 in
    let known = bind_ok (known_at d) _ e script.2 in
    let same : record { script = script.0; known = known.0 } ≡ e = cc known.2 in
    subst (λ (x : PlainEntry). IsBytes x.script × IsFormed x.known) same (hex_is (codes "script") s.0 script.0 script.1, known_is d known.0 known.1)

-- ---- its rules

passed : (test : Bool) (fault : KeysFault) → unless test fault ≡ Ok tt → test ≡ true
passed true fault e = refl
passed false fault e = absurd (cc e)

not_refused : {A : Type 0} (fault : A → KeysFault) (o : Option A) → refuse fault o ≡ Ok tt → o ≡ None
not_refused fault None e = refl
not_refused fault (Some x) e = absurd (cc e)

pub record KeepsTests (listed : Bool) (e : PlainEntry) : Type 0 where
  pub script : (not listed && has_script_length e.script) ≡ true
  pub redeem : fits_redeem e ≡ true
  pub witness : fits_witness e ≡ true
  pub internal : fits_internal e ≡ true
  pub fit : All (λ (k : PlainKeyPath). fits_key e.known.internal k.key ≡ true) e.known.keys
  pub distinct : repeat_from [] e.known.keys ≡ None

judged_is : (was : Bool) (index : ℕ) (e : PlainEntry) → judged was index e ≡ Ok tt → KeepsTests was e
unfolding judged keys_judged
judged_is was index e is =
    let a = bind_ok (unless (not was && has_script_length e.script) (Script (told_index index))) _ tt is in
    let b = bind_ok (unless (fits_redeem e) (Redeem (told_index index))) _ tt a.2 in
    let c = bind_ok (unless (fits_witness e) (Witness (told_index index))) _ tt b.2 in
    let f = bind_ok (unless (fits_internal e) (Internal (told_index index))) _ tt c.2 in
    let g = bind_ok (refuse (λ i. Key (told_index index) (told_index i)) (position (λ (k : PlainKeyPath). not (fits_key e.known.internal k.key)) e.known.keys)) _ tt f.2 in
    record {
      script = passed _ _ a.1;
      redeem = passed _ _ b.1;
      witness = passed _ _ c.1;
      internal = passed _ _ f.1;
      fit = none_fails (λ (k : PlainKeyPath). fits_key e.known.internal k.key) e.known.keys (not_refused _ _ g.1);
      distinct = not_refused _ _ g.2;
    }

redeem_fits : (known : PlainScriptKeys) (script : List ℕ) (redeem : Option (List ℕ)) → IfSome redeem IsBytes → (not (is_some redeem) || pays_script_hash script) ≡ true → IfSome redeem (λ r. IsBytes r × IsTrue (pays_script_hash script))
redeem_fits known script None bytes test = tt
redeem_fits known script (Some r) bytes test = (bytes, test)

witness_fits : (program : List ℕ) (witness : Option (List ℕ)) → IfSome witness IsBytes → option_map_or (λ w. bytes_eq program (witness_program w)) witness true ≡ true → IfSome witness (λ w. IsBytes w × (program ≡ witness_program w))
witness_fits program None bytes test = tt
witness_fits program (Some w) bytes test = (bytes, (bytes_eq-Decides program (witness_program w)).0 test)

taproot_fits : (internal : Option (List ℕ)) (pays : Bool) → cond (is_some internal) pays (not pays) ≡ true → IsSome internal ↔ IsTrue pays
taproot_fits None true test = absurd (cc test)
taproot_fits None false test = (λ some. absurd (cc some), λ t. absurd (cc t))
taproot_fits (Some x) pays test = (λ _. test, λ _. refl)

key_fits : (internal : Option (List ℕ)) (key : List ℕ) → fits_key internal key ≡ true → IsKeyOf internal key
key_fits None key test = test
key_fits (Some x) key test = (bytes_eq-Decides key x).0 test

pub entry_keeps : (before : List PlainEntry) (d : Data) (e : PlainEntry) → entry_behind before d ≡ Ok e → IsEntry e × (is_among (scripts_of before) e.script ≡ false)
unfolding entry_behind
entry_keeps before d e is =
    let a = field_ok (entry_at d) _ e is in
    let b = bind_ok (judged (is_among (scripts_of before) a.0.script) (length before) a.0) _ e a.2 in
    let same : a.0 ≡ e = cc b.2 in
    let form = entry_is d a.0 a.1 in
    let tests = judged_is (is_among (scripts_of before) a.0.script) (length before) a.0 b.1 in
    let script = and_parts (not (is_among (scripts_of before) a.0.script)) (has_script_length a.0.script) tests.script in
    let lengths = and_parts (nat_lt 0 (length a.0.script)) (nat_le (length a.0.script) 10_000) script.1 in
    subst (λ (x : PlainEntry). IsEntry x × (is_among (scripts_of before) x.script ≡ false)) same (
      record {
        some = ltb-true 0 (length a.0.script) lengths.0;
        most = leb-true (length a.0.script) 10_000 lengths.1;
        script = form.0;
        redeem = redeem_fits a.0.known a.0.script a.0.known.redeem form.1.redeem tests.redeem;
        witness = witness_fits (program_of a.0) a.0.known.witness form.1.witness tests.witness;
        taproot = taproot_fits a.0.known.internal (pays_taproot a.0.script) tests.internal;
        internal = form.1.internal;
        keys = record { each = form.1.keys; few = form.1.few; distinct = distinct a.0.known.keys tests.distinct };
        fit = λ k x lt. key_fits a.0.known.internal (get_or a.0.known.keys k x).key (tests.fit k x lt);
      },
      not-true (is_among (scripts_of before) a.0.script) script.0,
    )

-- ---- lists

apart : (entries : List PlainEntry) (script : List ℕ) → is_among (scripts_of entries) script ≡ false → (k : ℕ) (d : PlainEntry) → k < length entries → (get_or entries k d).script ≢ script
apart entries script new k d lt e =
    let long = length-map entries (λ (x : PlainEntry). x.script) in
    true≢false (sym (is_among-Contains (scripts_of entries) script (k, omega (arith, long), get_or-map (λ (x : PlainEntry). x.script) entries k d script lt ∙ e)) ∙ new)

scripts_are : (d : Data) (es : List PlainEntry) → scripts_at d ≡ Ok es → All IsEntry es × AreDistinctScripts es
unfolding scripts_at
scripts_are d es e =
    let a = field_ok (entries_at (codes "scripts") d) _ es e in (
      each_is IsEntry entry_behind (λ front x entry is. (entry_keeps front x entry is).0) a.0 es a.2,
      each_keeps AreDistinctScripts entry_behind
          (λ front x entry kept is. all_pairs_push (λ (u v : PlainEntry). u.script ≢ v.script) front entry kept (apart front entry.script (entry_keeps front x entry is).1))
          a.0 [] es (λ i j x lt within. absurd (omega arith)) a.2,
    )

xpubs_are : (d : Data) (xs : List PlainKeyPath) → xpubs_at d ≡ Ok xs → AreKeyPaths xs × All (λ x. IsTrue (is_xpub x)) xs
unfolding xpubs_at xpubs_judged
xpubs_are d xs e =
    let a = field_ok (key_paths_at (codes "xpubs") (codes "xpub") d) _ xs e in
    let b = bind_ok (xpubs_judged a.0) _ xs a.2 in
    let same : a.0 ≡ xs = cc b.2 in
    let g = bind_ok (refuse (λ i. Xpub (told_index i)) (position (λ (k : PlainKeyPath). not (is_xpub k)) a.0)) _ tt b.1 in
    let law = key_paths_are (codes "xpubs") (codes "xpub") d a.0 a.1 in
    subst (λ (l : List PlainKeyPath). AreKeyPaths l × All (λ x. IsTrue (is_xpub x)) l) same (
      record { each = law.0; few = law.1; distinct = distinct a.0 (not_refused _ _ g.2) },
      none_fails is_xpub a.0 (not_refused _ _ g.1),
    )

no_xpubs : AreKeyPaths [] × All (λ x. IsTrue (is_xpub x)) []
no_xpubs = (record { each = λ k d lt. absurd (omega arith); few = omega arith; distinct = λ i j d lt within. absurd (omega arith) }, λ k d lt. absurd (omega arith))

xpubs_or_none_are : (o : Option Data) (xs : List PlainKeyPath) → optional [] xpubs_at o ≡ Ok xs → AreKeyPaths xs × All (λ x. IsTrue (is_xpub x)) xs
xpubs_or_none_are None xs e = let same : [] ≡ xs = cc e in subst (λ (l : List PlainKeyPath). AreKeyPaths l × All (λ x. IsTrue (is_xpub x)) l) same no_xpubs
xpubs_or_none_are (Some d) xs e = xpubs_are d xs e

-- of scripts and extended public keys as they are read
pub keys_are : (s d : Data) (scripts : List PlainEntry) (xpubs : List PlainKeyPath) → scripts_at s ≡ Ok scripts → optional [] xpubs_at (get (codes "xpubs") d) ≡ Ok xpubs → IsKeys (record { scripts = scripts; xpubs = xpubs })
keys_are s d scripts xpubs one two =
    let first = scripts_are s scripts one in
    let then = xpubs_or_none_are (get (codes "xpubs") d) xpubs two in
    record { scripts = first.0; distinct = first.1; xpubs = then.0; extended = then.1 }
