-- The first fault of members that are read one after the other is the first in the table of their own faults.
use Rattle.std.proofs.Common.{◌≡◌, ℕ, true, List, ◌∷◌, Option, Some, None, Result, Ok, Err, Contains, is_some, refl, ap, ◌∙◌}
use Rattle.std.specs.Option.{ok_or}
use Rattle.std.specs.Result.{result_err, result_unwrap_or}
use Rattle.fund_base.specs.Parsing.{◌>>=◌, fault_as}
use Rattle.serde_json.specs.Data.{Data}
use Rattle.serde_json.specs.Find.{get}
use Rattle.json_fields.specs.Fields.{names_of, object_at, member_at, optional}
use Rattle.json_fields.specs.Rules.{wrong, said, first_some}
use Rattle.json_fields.specs.declared.fault.FieldFault.{FieldFault}
use Rattle.json_fields.specs.declared.fault.FieldFault.TheVariants.{Missing}
use Rattle.json_fields.proofs.Members.{is_among-Contains, is_some-get_member}
use Rattle.json_fields.proofs.ObjectLaws.{taken}

-- one part, and the parts after it
pub part : {A B E : Type 0} (first : Result A E) (then : A → Result B E) (rest : List (Option E)) → ((x : A) → first ≡ Ok x → result_err (then x) ≡ first_some rest) → result_err (first >>= then) ≡ first_some (result_err first ∷ rest)
part (Ok x) then rest h = h x refl
part (Err fault) then rest h = refl

-- a member that is there
pub required : {A B E : Type 0} (tell : FieldFault → E) (name : List ℕ) (reading : Data → Result A E) (then : A → Result B E) (rest : List (Option E)) (d m : Data) → get name d ≡ Some m
    → ((x : A) → reading m ≡ Ok x → result_err (then x) ≡ first_some rest) → result_err (fault_as tell (member_at name d) >>= λ v. reading v >>= then) ≡ first_some (wrong reading (get name d) ∷ rest)
unfolding member_at
required tell name reading then rest d m there h = rw there (part (reading m) then rest h)

-- the same where the member is read first, and then what depends on it
pub grouped : {A B E : Type 0} (tell : FieldFault → E) (name : List ℕ) (reading : Data → Result A E) (then : A → Result B E) (rest : List (Option E)) (d m : Data) → get name d ≡ Some m
    → ((x : A) → reading m ≡ Ok x → result_err (then x) ≡ first_some rest) → result_err (fault_as tell (member_at name d) >>= reading >>= then) ≡ first_some (wrong reading (get name d) ∷ rest)
unfolding member_at
grouped tell name reading then rest d m there h = rw there (part (reading m) then rest h)

-- one that may be left out
pub left_out : {A B E : Type 0} (default : A) (reading : Data → Result A E) (then : A → Result B E) (rest : List (Option E)) (o : Option Data) → ((x : A) → optional default reading o ≡ Ok x → result_err (then x) ≡ first_some rest)
    → result_err (optional default reading o >>= then) ≡ first_some (wrong reading o ∷ rest)
left_out default reading then rest None h = h default refl
left_out default reading then rest (Some m) h = part (reading m) then rest h

-- a member that was read says what was read
pub said_is : {A E : Type 0} (default : A) (reading : Data → Result A E) (o : Option Data) (x : A) → optional default reading o ≡ Ok x → said default reading o ≡ x
said_is default reading o x e = ap (λ r. result_unwrap_or r default) e

-- an object that is taken has each required member
pub there : (whole : List ℕ) (known required : List (List ℕ)) (name : List ℕ) (d : Data) → object_at whole known required d ≡ Ok tt → Contains required name → (m : Data) × (get name d ≡ Some m)
there whole known required name d reads stands =
    let is = taken whole known required d reads in
    some (get name d) (ap (λ v. is_some (get name v)) is.1 ∙ is_some-get_member name is.0 ∙ is_among-Contains (names_of is.0) name (is.2.1 name stands))
  where
    some : (o : Option Data) → is_some o ≡ true → (m : Data) × (o ≡ Some m)
    some None e = absurd (cc e)
    some (Some m) e = (m, refl)

-- ---- what is read

-- after a member that may be left out
pub behind_left_out : {A B E : Type 0} (default : A) (reading : Data → Result A E) (then : A → Result B E) (o : Option Data) (out : B) → (optional default reading o >>= then) ≡ Ok out → then (said default reading o) ≡ Ok out
behind_left_out default reading then None out e = e
behind_left_out {A} {B} {E} default reading then (Some m) out e = by (reading m) e
  where
    by : (r : Result A E) → (r >>= then) ≡ Ok out → then (result_unwrap_or r default) ≡ Ok out
    by (Ok x) reads = reads
    by (Err fault) reads = absurd (cc reads)

-- after one that has to be there, whatever the default
pub behind_required : {A B E : Type 0} (tell : FieldFault → E) (default : A) (name : List ℕ) (reading : Data → Result A E) (then : A → Result B E) (d : Data) (out : B) → (fault_as tell (member_at name d) >>= λ v. reading v >>= then) ≡ Ok out
    → then (said default reading (get name d)) ≡ Ok out
unfolding member_at
behind_required {A} {B} {E} tell default name reading then d out e = by (get name d) e
  where
    by : (o : Option Data) → (fault_as tell (ok_or o (Missing name)) >>= λ v. reading v >>= then) ≡ Ok out → then (said default reading o) ≡ Ok out
    by None reads = absurd (cc reads)
    by (Some m) reads = behind_left_out default reading then (Some m) out reads

-- the same where the member is read first
pub behind_grouped : {A B E : Type 0} (tell : FieldFault → E) (default : A) (name : List ℕ) (reading : Data → Result A E) (then : A → Result B E) (d : Data) (out : B) → (fault_as tell (member_at name d) >>= reading >>= then) ≡ Ok out
    → then (said default reading (get name d)) ≡ Ok out
unfolding member_at
behind_grouped {A} {B} {E} tell default name reading then d out e = by (get name d) e
  where
    by : (o : Option Data) → (fault_as tell (ok_or o (Missing name)) >>= reading >>= then) ≡ Ok out → then (said default reading o) ≡ Ok out
    by None reads = absurd (cc reads)
    by (Some m) reads = behind_left_out default reading then (Some m) out reads
