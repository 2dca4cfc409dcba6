-- The one fault of an object, from what is wrong with it.
use Rattle.std.proofs.Common.{◌≡◌, ◌≢◌, ℕ, zero, List, [], ◌∷◌, ◌++◌, Option, Some, None, Result, Ok, Err, Contains, refl, sym, ap, subst, ◌∙◌, inl, inr, ◌⊎◌, arith, Ordering, Less, Equal, Greater, is_eq, nat_cmp}
use Rattle.std.specs.Bool.{⊤}
use Rattle.std.specs.Prelude.{◌↔◌}
use Rattle.std.specs.Cmp.Lexicographic.{slice_cmp}
use Rattle.std.specs.Ordering.{ordering_reverse}
use Rattle.std.specs.Option.{ok_or}
use Rattle.std.proofs.lemmas.Cmp.{nat_list_cmp_total}
use Rattle.std.proofs.lemmas.Map.Text.{is_eq-slice_cmp}
use Rattle.std.proofs.lemmas.Slice.Eq.{bytes_eq-Decides}
use Rattle.fund_base.proofs.Lists.{in_tail}
use Rattle.fund_base.specs.Parsing.{◌>>=◌}
use Rattle.json_fields.proofs.ObjectLaws as objects
use Rattle.json_fields.specs.Fields.{names_of, unknown_in, least, refuse, first_missing, object_at}
use Rattle.json_fields.specs.Rules.{HasMembers, AreKnown, HasAll, IsLeastUnknown, IsFirstMissing}
use Rattle.json_fields.specs.declared.fault.FieldFault.{FieldFault}
use Rattle.json_fields.specs.declared.fault.FieldFault.TheVariants.{Kind, Member, Missing}
use Rattle.serde_json.specs.Data.{Data, object, Members}
use Rattle.serde_json.specs.Find.{as_object}
use Rattle.entry_laws.specs.Forms.{IsNoObject, IsLacking}

-- ---- one name alone

-- two names of which neither is less are the same
same_name : (a b : List ℕ) → slice_cmp nat_cmp a b ≢ Less → slice_cmp nat_cmp b a ≢ Less → a ≡ b
same_name a b no_less no_more = by (slice_cmp nat_cmp a b) refl
  where
    by : (o : Ordering) → slice_cmp nat_cmp a b ≡ o → a ≡ b
    by Less e = absurd (no_less e)
    by Equal e = (bytes_eq-Decides a b).0 (sym (is_eq-slice_cmp a b) ∙ ap is_eq e)
    by Greater e = absurd (no_more (nat_list_cmp_total.antisymm b a ∙ ap ordering_reverse e))

unknown_one : (known : List (List ℕ)) (ms : Members) (a b : List ℕ) → IsLeastUnknown known ms a → IsLeastUnknown known ms b → a ≡ b
unknown_one known ms a b is other = same_name a b (other.least a is.stands is.unknown) (is.least b other.stands other.unknown)

-- where two names are the first that are lacking, they are the same
missing_one : (ms : Members) (a b : List ℕ) (front behind front' behind' : List (List ℕ)) → front ++ a ∷ behind ≡ front' ++ b ∷ behind' → HasAll front ms → HasAll front' ms → ¬ Contains (names_of ms) a → ¬ Contains (names_of ms) b → a ≡ b
missing_one ms a b [] behind [] behind' e there there' lacks lacks' = cc
missing_one ms a b [] behind (x ∷ front') behind' e there there' lacks lacks' =
    let same : x ≡ a = cc in
    absurd (lacks (subst (λ n. Contains (names_of ms) n) same (there' x (zero, omega arith, refl))))
missing_one ms a b (x ∷ front) behind [] behind' e there there' lacks lacks' =
    let same : x ≡ b = cc in
    absurd (lacks' (subst (λ n. Contains (names_of ms) n) same (there x (zero, omega arith, refl))))
missing_one ms a b (x ∷ front) behind (y ∷ front') behind' e there there' lacks lacks' =
    let rest : front ++ a ∷ behind ≡ front' ++ b ∷ behind' = cc in
    let first : HasAll front ms = λ n c. there n (in_tail x front n c) in
    let second : HasAll front' ms = λ n c. there' n (in_tail y front' n c) in
    missing_one ms a b front behind front' behind' rest first second lacks lacks'

lacking_one : (required : List (List ℕ)) (ms : Members) (a b : List ℕ) → IsFirstMissing required ms a → IsFirstMissing required ms b → a ≡ b
lacking_one required ms a b is other = missing_one ms a b is.front is.back other.front other.back (sym is.parts ∙ other.parts) is.there other.there is.lacks other.lacks

-- ---- what an object is reported of

-- an object has one list of members
one_members : (d : Data) (ms other : Members) → d ≡ object ms → d ≡ object other → ms ≡ other
one_members d ms other is too = let same : object ms ≡ object other = sym is ∙ too in cc

data Answer (whole : List ℕ) (known required : List (List ℕ)) (d : Data) : Type 0 where
  taken : HasMembers d (λ ms. AreKnown known ms × HasAll required ms) → object_at whole known required d ≡ Ok tt → Answer whole known required d
  no_object : IsNoObject d → object_at whole known required d ≡ Err (Kind whole) → Answer whole known required d
  unknown : (name : List ℕ) → HasMembers d (λ ms. IsLeastUnknown known ms name) → object_at whole known required d ≡ Err (Member name) → Answer whole known required d
  lacking : (name : List ℕ) → IsLacking known required d name → object_at whole known required d ≡ Err (Missing name) → Answer whole known required d

-- the outcome is one of four
data Told (whole : List ℕ) (r : Result ⊤ FieldFault) : Type 0 where
  fine : r ≡ Ok tt → Told whole r
  kind : r ≡ Err (Kind whole) → Told whole r
  member : (name : List ℕ) → r ≡ Err (Member name) → Told whole r
  missing : (name : List ℕ) → r ≡ Err (Missing name) → Told whole r

told : (whole : List ℕ) (known required : List (List ℕ)) (d : Data) → Told whole (object_at whole known required d)
unfolding object_at
told whole known required d = by (as_object d)
  where
    later : (u m : Option (List ℕ)) → Told whole (refuse Member u >>= λ _. refuse Missing m)
    later (Some n) m = member n refl
    later None (Some n) = missing n refl
    later None None = fine refl

    by : (o : Option Members) → Told whole (ok_or o (Kind whole) >>= λ ms. refuse Member (least (unknown_in known ms)) >>= λ _. refuse Missing (first_missing required d))
    by None = kind refl
    by (Some ms) = later (least (unknown_in known ms)) (first_missing required d)

answer : (whole : List ℕ) (known required : List (List ℕ)) (d : Data) → Answer whole known required d
answer whole known required d = by (told whole known required d)
  where
    by : Told whole (object_at whole known required d) → Answer whole known required d
    by (fine e) = taken (objects.taken whole known required d e) e
    by (kind e) = no_object (objects.kind whole known required d whole e).1 e
    by (member name e) = unknown name (objects.unknown whole known required d name e) e
    by (missing name e) = lacking name (objects.missing whole known required d name e) e

-- ---- from what is wrong to the fault

pub kind_only : (whole : List ℕ) (known required : List (List ℕ)) (d : Data) → IsNoObject d → object_at whole known required d ≡ Err (Kind whole)
kind_only whole known required d none = by (answer whole known required d)
  where
    by : Answer whole known required d → object_at whole known required d ≡ Err (Kind whole)
    by (taken is e) = absurd (none is.0 is.1)
    by (no_object is e) = e
    by (unknown name is e) = absurd (none is.0 is.1)
    by (lacking name is e) = absurd (none is.0 is.1)

pub member_only : (whole : List ℕ) (known required : List (List ℕ)) (d : Data) (name : List ℕ) → HasMembers d (λ ms. IsLeastUnknown known ms name) → object_at whole known required d ≡ Err (Member name)
member_only whole known required d name has = by (answer whole known required d)
  where
    -- its members aren't all known
    never : (ms : Members) → d ≡ object ms → AreKnown known ms → ⊥
    never ms is are =
        let same : ms ≡ has.0 = one_members d ms has.0 is has.1 in
        has.2.unknown (are name (subst (λ (l : Members). Contains (names_of l) name) (sym same) has.2.stands))

    by : Answer whole known required d → object_at whole known required d ≡ Err (Member name)
    by (taken is e) = absurd (never is.0 is.1 is.2.0)
    by (no_object is e) = absurd (is has.0 has.1)
    by (unknown other is e) =
        let same : is.0 ≡ has.0 = one_members d is.0 has.0 is.1 has.1 in
        let least : IsLeastUnknown known has.0 other = subst (λ (l : Members). IsLeastUnknown known l other) same is.2 in
        e ∙ ap (λ n. Err (Member n)) (unknown_one known has.0 other name least has.2)
    by (lacking other is e) = absurd (never is.0 is.1 is.2.0)

pub missing_only : (whole : List ℕ) (known required : List (List ℕ)) (d : Data) (name : List ℕ) → IsLacking known required d name → object_at whole known required d ≡ Err (Missing name)
missing_only whole known required d name has = by (answer whole known required d)
  where
    alike : (ms : Members) → d ≡ object ms → ms ≡ has.0
    alike ms is = one_members d ms has.0 is has.1

    -- the name stands in the table that is all there
    listed : Contains required name
    listed = subst (λ (l : List (List ℕ)). Contains l name) (sym has.2.1.parts) (between has.2.1.front)
      where
        between : (front : List (List ℕ)) → Contains (front ++ name ∷ has.2.1.back) name
        between [] = (zero, omega arith, refl)
        between (x ∷ front) = in_tail x (front ++ name ∷ has.2.1.back) name (between front)

    by : Answer whole known required d → object_at whole known required d ≡ Err (Missing name)
    by (taken is e) = absurd (has.2.1.lacks (subst (λ (l : Members). Contains (names_of l) name) (alike is.0 is.1) (is.2.1 name listed)))
    by (no_object is e) = absurd (is has.0 has.1)
    by (unknown other is e) = absurd (is.2.unknown (has.2.0 other (subst (λ (l : Members). Contains (names_of l) other) (alike is.0 is.1) is.2.stands)))
    by (lacking other is e) =
        let first : IsFirstMissing required has.0 other = subst (λ (l : Members). IsFirstMissing required l other) (alike is.0 is.1) is.2.1 in
        e ∙ ap (λ n. Err (Missing n)) (lacking_one required has.0 other name first has.2.1)

-- ---- the law

pub kind_law : (whole : List ℕ) (known required : List (List ℕ)) (d : Data) (name : List ℕ) → (object_at whole known required d ≡ Err (Kind name)) ↔ ((name ≡ whole) × IsNoObject d)
kind_law whole known required d name = (λ e. objects.kind whole known required d name e, λ is. kind_only whole known required d is.1 ∙ ap (λ n. Err (Kind n)) (sym is.0))

pub member_law : (whole : List ℕ) (known required : List (List ℕ)) (d : Data) (name : List ℕ) → (object_at whole known required d ≡ Err (Member name)) ↔ HasMembers d (λ ms. IsLeastUnknown known ms name)
member_law whole known required d name = (λ e. objects.unknown whole known required d name e, λ is. member_only whole known required d name is)

pub missing_law : (whole : List ℕ) (known required : List (List ℕ)) (d : Data) (name : List ℕ) → (object_at whole known required d ≡ Err (Missing name)) ↔ IsLacking known required d name
missing_law whole known required d name = (λ e. objects.missing whole known required d name e, λ is. missing_only whole known required d name is)

-- a fault of the form: one of three
abbrev pub IsOfForm : FieldFault → Type 0
IsOfForm fault = (name : List ℕ) × ((fault ≡ Kind name) ⊎ ((fault ≡ Member name) ⊎ (fault ≡ Missing name)))

pub other_law : (whole : List ℕ) (known required : List (List ℕ)) (d : Data) (fault : FieldFault) → object_at whole known required d ≡ Err fault → IsOfForm fault
other_law whole known required d fault reads = by (told whole known required d)
  where
    by : Told whole (object_at whole known required d) → IsOfForm fault
    by (fine e) = absurd (cc (e, reads))
    by (kind e) = (whole, inl (cc (e, reads)))
    by (member name e) = (name, inr (inl (cc (e, reads))))
    by (missing name e) = (name, inr (inr (cc (e, reads))))
