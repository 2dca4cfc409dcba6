-- The faults of an object of two members, one that hex spells and one that is a whole number.
use Rattle.std.proofs.Common.{◌≡◌, ◌≢◌, ℕ, zero, suc, List, [], ◌∷◌, Some, Result, Ok, Err, refl, sym, ap, subst, ◌∙◌, inl, inr, arith}
use Rattle.std.specs.Bool.{⊤}
use Rattle.std.specs.Option.{ok_or}
use Rattle.std.specs.Prelude.{◌↔◌}
use Rattle.fund_base.specs.Parsing.{◌>>=◌}
use Rattle.json_fields.proofs.HexLaws as hex
use Rattle.json_fields.proofs.ObjectLaws as objects
use Rattle.json_fields.proofs.Tables.{there}
use Rattle.json_fields.specs.Fields.{hex_at, member_at, number_at, object_at}
use Rattle.json_fields.specs.Rules.{HasMembers, IsHexString, IsLeastUnknown}
use Rattle.json_fields.specs.declared.fault.FieldFault.{FieldFault}
use Rattle.json_fields.specs.declared.fault.FieldFault.TheVariants.{Kind, Member, Missing}
use Rattle.serde_json.specs.Data.{Data}
use Rattle.serde_json.specs.Find.{get}
use Rattle.entry_laws.specs.Forms.{HasExactly, IsLacking, IsMiscounted, IsMisspelled, IsWrongKind}
use Rattle.entry_laws.proofs.ObjectFaults.{IsOfForm, kind_only, member_only, missing_only, other_law}
use Rattle.entry_laws.proofs.ValueFaults.{hex_law, hex_wrong, number_law, number_wrong}

-- such an object, and what is made of its members
abbrev pub pair_at : {T : Type 0} → (List ℕ → ℕ → T) → (whole first second : List ℕ) → ℕ → Data → Result T FieldFault
pair_at make whole first second most d =
    object_at whole (first ∷ second ∷ []) (first ∷ second ∷ []) d
    >>= λ _. member_at first d
    >>= λ x. hex_at first x
    >>= λ bytes. member_at second d
    >>= λ y. number_at second most y
    >>= λ n. Ok (make bytes n)

-- what follows an object that is taken
abbrev behind : {T : Type 0} → (List ℕ → ℕ → T) → (first second : List ℕ) → ℕ → Data → Result T FieldFault
behind make first second most d =
    member_at first d
    >>= λ x. hex_at first x
    >>= λ bytes. member_at second d
    >>= λ y. number_at second most y
    >>= λ n. Ok (make bytes n)

member_is : (name : List ℕ) (d x : Data) → get name d ≡ Some x → member_at name d ≡ Ok x
unfolding member_at
member_is name d x is = ap (λ o. ok_or o (Missing name)) is

-- ---- from what is wrong to the fault

taken_at : {T : Type 0} (make : List ℕ → ℕ → T) (whole first second : List ℕ) (most : ℕ) (d : Data) → HasExactly (first ∷ second ∷ []) d → pair_at make whole first second most d ≡ behind make first second most d
taken_at make whole first second most d is = ap (λ r. r >>= λ _. behind make first second most d) (objects.only whole (first ∷ second ∷ []) (first ∷ second ∷ []) d is)

refused_at : {T : Type 0} (make : List ℕ → ℕ → T) (whole first second : List ℕ) (most : ℕ) (d : Data) (fault : FieldFault) → object_at whole (first ∷ second ∷ []) (first ∷ second ∷ []) d ≡ Err fault → pair_at make whole first second most d ≡ Err fault
refused_at make whole first second most d fault e = ap (λ r. r >>= λ _. behind make first second most d) e

misspelled : {T : Type 0} (make : List ℕ → ℕ → T) (whole first second : List ℕ) (most : ℕ) (d : Data) (told : List ℕ) → IsMisspelled first second d told → pair_at make whole first second most d ≡ Err (Kind told)
misspelled make whole first second most d told is =
    taken_at make whole first second most d is.members
    ∙ rw (member_is first d is.value is.stands, hex_wrong first is.value is.wrong) (ap (λ n. Err (Kind n)) (sym is.named))

miscounted : {T : Type 0} (make : List ℕ → ℕ → T) (whole first second : List ℕ) (most : ℕ) (d : Data) (told : List ℕ) → IsMiscounted first second most d told → pair_at make whole first second most d ≡ Err (Kind told)
miscounted make whole first second most d told is =
    let spelled = is.spelled in
    taken_at make whole first second most d is.members
    ∙ rw (member_is first d spelled.0 spelled.1, hex.only first is.bytes spelled.0 spelled.2, member_is second d is.value is.stands, number_wrong second most is.value is.wrong) (ap (λ n. Err (Kind n)) (sym is.named))

-- ---- from the fault to what is wrong

-- a member that a table lists is there in an object that is taken
first_there : (whole first second : List ℕ) (d : Data) → object_at whole (first ∷ second ∷ []) (first ∷ second ∷ []) d ≡ Ok tt → (x : Data) × (get first d ≡ Some x)
first_there whole first second d e = there whole (first ∷ second ∷ []) (first ∷ second ∷ []) first d e (zero, omega arith, refl)

second_there : (whole first second : List ℕ) (d : Data) → object_at whole (first ∷ second ∷ []) (first ∷ second ∷ []) d ≡ Ok tt → (x : Data) × (get second d ≡ Some x)
second_there whole first second d e = there whole (first ∷ second ∷ []) (first ∷ second ∷ []) second d e (suc zero, omega arith, refl)

-- what such an object is read as
pub data Form {T : Type 0} (out : Result T FieldFault) (whole first second : List ℕ) (most : ℕ) (d : Data) : Type 0 where
  fine : (t : T) → out ≡ Ok t → Form out whole first second most d
  no_form : (fault : FieldFault) → object_at whole (first ∷ second ∷ []) (first ∷ second ∷ []) d ≡ Err fault → out ≡ Err fault → Form out whole first second most d
  no_hex : IsMisspelled first second d first → out ≡ Err (Kind first) → Form out whole first second most d
  no_count : IsMiscounted first second most d second → out ≡ Err (Kind second) → Form out whole first second most d

pub form_of : {T : Type 0} (make : List ℕ → ℕ → T) (whole first second : List ℕ) (most : ℕ) (d : Data) → Form (pair_at make whole first second most d) whole first second most d
form_of {T} make whole first second most d = by (object_at whole (first ∷ second ∷ []) (first ∷ second ∷ []) d) refl
  where
    numbered : HasExactly (first ∷ second ∷ []) d → (x y : Data) → get first d ≡ Some x → get second d ≡ Some y → (bytes : List ℕ) → IsHexString x bytes → (r : Result ℕ FieldFault) → number_at second most y ≡ r → Form (pair_at make whole first second most d) whole first second most d
    numbered is x y at_first at_second bytes spelled (Ok n) e =
        fine (make bytes n) (taken_at make whole first second most d is ∙ rw (member_is first d x at_first, hex.only first bytes x spelled, member_is second d y at_second, e) refl)
    numbered is x y at_first at_second bytes spelled (Err f) e =
        let wrong = ((number_law second most y f).0 e).1 in
        let it : IsMiscounted first second most d second = record { named = refl; members = is; bytes = bytes; spelled = (x, at_first, spelled); value = y; stands = at_second; wrong = wrong } in
        no_count it (miscounted make whole first second most d second it)

    spelled : HasExactly (first ∷ second ∷ []) d → (x y : Data) → get first d ≡ Some x → get second d ≡ Some y → (r : Result (List ℕ) FieldFault) → hex_at first x ≡ r → Form (pair_at make whole first second most d) whole first second most d
    spelled is x y at_first at_second (Ok bytes) e = numbered is x y at_first at_second bytes (hex.found first bytes x e) (number_at second most y) refl
    spelled is x y at_first at_second (Err f) e =
        let it : IsMisspelled first second d first = record { named = refl; members = is; value = x; stands = at_first; wrong = ((hex_law first x f).0 e).1 } in
        no_hex it (misspelled make whole first second most d first it)

    by : (r : Result ⊤ FieldFault) → object_at whole (first ∷ second ∷ []) (first ∷ second ∷ []) d ≡ r → Form (pair_at make whole first second most d) whole first second most d
    by (Err fault) e = no_form fault e (refused_at make whole first second most d fault e)
    by (Ok u) e =
        let x = first_there whole first second d e in
        let y = second_there whole first second d e in
        spelled (objects.taken whole (first ∷ second ∷ []) (first ∷ second ∷ []) d e) x.0 y.0 x.1 y.1 (hex_at first x.0) refl

-- ---- each fault

pub kind_law : {T : Type 0} (make : List ℕ → ℕ → T) (whole first second : List ℕ) (most : ℕ) (d : Data) (name : List ℕ) → (pair_at make whole first second most d ≡ Err (Kind name)) ↔ IsWrongKind whole first second most d name
kind_law {T} make whole first second most d name = (λ e. found e (form_of make whole first second most d), only)
  where
    renamed : (told : List ℕ) → told ≡ name → IsWrongKind whole first second most d told → IsWrongKind whole first second most d name
    renamed told same is = subst (λ (n : List ℕ). IsWrongKind whole first second most d n) same is

    found : pair_at make whole first second most d ≡ Err (Kind name) → Form (pair_at make whole first second most d) whole first second most d → IsWrongKind whole first second most d name
    found e (fine t reads) = absurd (cc (e, reads))
    found e (no_form fault bad reads) =
        let same : fault ≡ Kind name = cc (e, reads) in
        let is = objects.kind whole (first ∷ second ∷ []) (first ∷ second ∷ []) d name (bad ∙ ap (λ f. Err f) same) in
        inl (record { named = is.0; wrong = is.1 })
    found e (no_hex is reads) = let same : first ≡ name = cc (e, reads) in renamed first same (inr (inl is))
    found e (no_count is reads) = let same : second ≡ name = cc (e, reads) in renamed second same (inr (inr is))

    only : IsWrongKind whole first second most d name → pair_at make whole first second most d ≡ Err (Kind name)
    only (inl is) = refused_at make whole first second most d (Kind name) (kind_only whole (first ∷ second ∷ []) (first ∷ second ∷ []) d is.wrong ∙ ap (λ n. Err (Kind n)) (sym is.named))
    only (inr (inl is)) = misspelled make whole first second most d name is
    only (inr (inr is)) = miscounted make whole first second most d name is

-- a fault of another variant is that of the object
of_object : {T : Type 0} (make : List ℕ → ℕ → T) (whole first second : List ℕ) (most : ℕ) (d : Data) (fault : FieldFault) → ((name : List ℕ) → fault ≢ Kind name) → pair_at make whole first second most d ≡ Err fault
    → object_at whole (first ∷ second ∷ []) (first ∷ second ∷ []) d ≡ Err fault
of_object {T} make whole first second most d fault other e = by (form_of make whole first second most d)
  where
    by : Form (pair_at make whole first second most d) whole first second most d → object_at whole (first ∷ second ∷ []) (first ∷ second ∷ []) d ≡ Err fault
    by (fine t reads) = absurd (cc (e, reads))
    by (no_form f bad reads) = let same : f ≡ fault = cc (e, reads) in bad ∙ ap (λ x. Err x) same
    by (no_hex is reads) = absurd (other first (cc (e, reads)))
    by (no_count is reads) = absurd (other second (cc (e, reads)))

pub member_law : {T : Type 0} (make : List ℕ → ℕ → T) (whole first second : List ℕ) (most : ℕ) (d : Data) (name : List ℕ) → (pair_at make whole first second most d ≡ Err (Member name)) ↔ HasMembers d (λ ms. IsLeastUnknown (first ∷ second ∷ []) ms name)
member_law make whole first second most d name = (
  λ e. objects.unknown whole (first ∷ second ∷ []) (first ∷ second ∷ []) d name (of_object make whole first second most d (Member name) (λ n same. cc same) e),
  λ is. refused_at make whole first second most d (Member name) (member_only whole (first ∷ second ∷ []) (first ∷ second ∷ []) d name is),
)

pub missing_law : {T : Type 0} (make : List ℕ → ℕ → T) (whole first second : List ℕ) (most : ℕ) (d : Data) (name : List ℕ) → (pair_at make whole first second most d ≡ Err (Missing name)) ↔ IsLacking (first ∷ second ∷ []) (first ∷ second ∷ []) d name
missing_law make whole first second most d name = (
  λ e. objects.missing whole (first ∷ second ∷ []) (first ∷ second ∷ []) d name (of_object make whole first second most d (Missing name) (λ n same. cc same) e),
  λ is. refused_at make whole first second most d (Missing name) (missing_only whole (first ∷ second ∷ []) (first ∷ second ∷ []) d name is),
)

pub form_law : {T : Type 0} (make : List ℕ → ℕ → T) (whole first second : List ℕ) (most : ℕ) (d : Data) (fault : FieldFault) → pair_at make whole first second most d ≡ Err fault → IsOfForm fault
form_law {T} make whole first second most d fault e = by (form_of make whole first second most d)
  where
    by : Form (pair_at make whole first second most d) whole first second most d → IsOfForm fault
    by (fine t reads) = absurd (cc (e, reads))
    by (no_form f bad reads) = let same : f ≡ fault = cc (e, reads) in subst IsOfForm same (other_law whole (first ∷ second ∷ []) (first ∷ second ∷ []) d f bad)
    by (no_hex is reads) = (first, inl (cc (e, reads)))
    by (no_count is reads) = (second, inl (cc (e, reads)))
