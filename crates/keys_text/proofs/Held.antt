-- What a map from scripts holds, as a list of entries.
use Rattle.std.proofs.Common.{◌≡◌, ◌≢◌, ℕ, zero, suc, Bool, true, false, cond, ◌||◌, List, [], ◌∷◌, ◌++◌, length, Vec, Global, is_some, Option, Some, None, Contains, bytes_eq, refl, sym, ap, ◌∙◌, true≢false, arith}
use Rattle.std.proofs.lemmas.List.{length-map, map-append}
use Rattle.std.proofs.lemmas.List.Elements.{All-nil, All-cons}
use Rattle.std.proofs.lemmas.Slice.Eq.{bytes_eq-Decides}
use Rattle.std.specs.Borrow.{Bor}
use Rattle.std.specs.Map.{lookup}
use Rattle.std.specs.Option.{option_copied}
use Rattle.std.specs.Prelude.{All}
use Rattle.indexmap.specs.IndexMap.{insert_entry}
use Rattle.json_fields.specs.Fields.{is_among}
use Rattle.keys_text.specs.Entries.{entries_of, scripts_of}
use Rattle.keys_text.specs.Found.{IsKnown}
use Rattle.keys_text.specs.PlainKeys.{PlainEntry, PlainScriptKeys}

abbrev Held : Type 0
Held = List (Vec ℕ Global × PlainScriptKeys)

-- what is held for a script
abbrev at : Held → List ℕ → Option PlainScriptKeys
at held script = lookup (λ (v : Vec ℕ Global). bytes_eq script v.items) held

-- as many entries as scripts
pub counted : (held : Held) → length (entries_of held) ≡ length held
counted held = length-map held (λ (e : Vec ℕ Global × PlainScriptKeys). let entry : PlainEntry = record { script = e.0.items; known = e.1 } in entry)

pub listed : (held : Held) (script : List ℕ) → is_some (at held script) ≡ is_among (scripts_of (entries_of held)) script
listed [] script = refl
listed (e ∷ held) script = by (bytes_eq script e.0.items) (listed held script)
  where
    by : (b : Bool) → is_some (at held script) ≡ is_among (scripts_of (entries_of held)) script → is_some (cond b (Some e.1) (at held script)) ≡ (b || is_among (scripts_of (entries_of held)) script)
    by true h = refl
    by false h = h

-- a new script goes last
inserted : (held : Held) (k : Vec ℕ Global) (x : PlainScriptKeys) → is_some (at held k.items) ≡ false → insert_entry (λ (v w : Vec ℕ Global). bytes_eq v.items w.items) held k x ≡ held ++ (k, x) ∷ []
inserted [] k x none = refl
inserted (e ∷ held) k x none = by (bytes_eq k.items e.0.items) none (inserted held k x)
  where
    by : (b : Bool) → is_some (cond b (Some e.1) (at held k.items)) ≡ false → (is_some (at held k.items) ≡ false → insert_entry (λ (v w : Vec ℕ Global). bytes_eq v.items w.items) held k x ≡ held ++ (k, x) ∷ [])
        → cond b ((e.0, x) ∷ held) (e ∷ insert_entry (λ (v w : Vec ℕ Global). bytes_eq v.items w.items) held k x) ≡ e ∷ (held ++ (k, x) ∷ [])
    by true h again = absurd (true≢false h)
    by false h again = ap (λ (l : Held). e ∷ l) (again h)

pub added : (held new : Held) (k : Vec ℕ Global) (x : PlainScriptKeys) → is_among (scripts_of (entries_of held)) k.items ≡ false → new ≡ insert_entry (λ (v w : Vec ℕ Global). bytes_eq v.items w.items) held k x
    → entries_of new ≡ entries_of held ++ record { script = k.items; known = x } ∷ []
added held new k x fresh e =
    ap entries_of (e ∙ inserted held k x (listed held k.items ∙ fresh)) ∙ map-append (λ (p : Vec ℕ Global × PlainScriptKeys). let entry : PlainEntry = record { script = p.0.items; known = p.1 } in entry) held ((k, x) ∷ [])

-- what is found is told by an entry
pub told : (held : Held) (script : List ℕ) (x : PlainScriptKeys) → at held script ≡ Some x → Contains (entries_of held) (record { script = script; known = x })
told [] script x e = absurd (cc e)
told (e ∷ held) script x is = by (bytes_eq script e.0.items) refl is (told held script x)
  where
    by : (b : Bool) → bytes_eq script e.0.items ≡ b → cond b (Some e.1) (at held script) ≡ Some x → (at held script ≡ Some x → Contains (entries_of held) (record { script = script; known = x })) → Contains (entries_of (e ∷ held)) (record { script = script; known = x })
    by true same reads again =
        let letters : script ≡ e.0.items = (bytes_eq-Decides script e.0.items).0 same in
        let known : e.1 ≡ x = cc reads in
        (zero, omega arith, cc (letters, known))
    by false same reads again = let c = again reads in (suc c.0, omega (arith, c.1), c.2)

-- and of a script that isn't found there is none
pub untold : (held : Held) (script : List ℕ) → at held script ≡ None → All (λ (e : PlainEntry). e.script ≢ script) (entries_of held)
untold [] script e = All-nil (λ (d : PlainEntry). d.script ≢ script)
untold (e ∷ held) script is = by (bytes_eq script e.0.items) refl is (untold held script)
  where
    by : (b : Bool) → bytes_eq script e.0.items ≡ b → cond b (Some e.1) (at held script) ≡ None → (at held script ≡ None → All (λ (d : PlainEntry). d.script ≢ script) (entries_of held)) → All (λ (d : PlainEntry). d.script ≢ script) (entries_of (e ∷ held))
    by true same reads again = absurd (cc reads)
    by false same reads again =
        All-cons (λ (d : PlainEntry). d.script ≢ script) (record { script = e.0.items; known = e.1 }) (entries_of held)
        (λ (letters : e.0.items ≡ script). true≢false (sym ((bytes_eq-Decides script e.0.items).1 (sym letters)) ∙ same)) (again reads)

-- so what a look-up gives is what is known of the script
pub known : (held : Held) (script : List ℕ) (o : Option (Bor PlainScriptKeys)) → option_copied o ≡ at held script → IsKnown (entries_of held) script o
known held script None e = untold held script (sym e)
known held script (Some x) e = told held script x.now (sym e)
