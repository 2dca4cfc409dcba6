-- What an object is reported of.
use Rattle.std.proofs.Common.{◌≡◌, ◌≢◌, ℕ, zero, suc, ◌<◌, Bool, true, false, cond, List, [], ◌∷◌, ◌++◌, length, get_or, find, not, Option, Some, None, Result, Ok, Err, is_none, is_some, Contains, refl, sym, ap, subst, ◌∙◌, true≢false, arith}
use Rattle.std.specs.Bool.{⊤}
use Rattle.fund_base.proofs.Lists.{in_tail}
use Rattle.fund_base.specs.Parsing.{◌>>=◌}
use Rattle.serde_json.specs.Data.{Data, null, boolean, number, string, array, object, Members}
use Rattle.serde_json.specs.Find.{get_member, as_object}
use Rattle.json_fields.specs.Fields.{names_of, is_among, unknown_in, least, refuse, object_at}
use Rattle.json_fields.specs.Rules.{HasMembers, AreKnown, HasAll, IsLeastUnknown, IsFirstMissing}
use Rattle.json_fields.specs.declared.fault.FieldFault.{FieldFault}
use Rattle.json_fields.specs.declared.fault.FieldFault.TheVariants.{Kind, Member, Missing}
use Rattle.json_fields.proofs.Members.{is_among-Contains, Contains-is_among, is_some-get_member, Contains-filter, from_filter, least-Contains, least_below, least_none}

not_true : (b : Bool) → (b ≡ true → ⊥) → not b ≡ true
not_true true h = absurd (h refl)
not_true false h = refl

not_false : (b : Bool) → not b ≡ true → b ≡ true → ⊥
not_false true h e = true≢false (sym h)
not_false false h e = true≢false (sym e)

-- an unknown name passes the test
unknown_there : (known : List (List ℕ)) (ms : Members) (name : List ℕ) → Contains (names_of ms) name → ¬ Contains known name → Contains (unknown_in known ms) name
unknown_there known ms name h other = Contains-filter (λ n. not (is_among known n)) (names_of ms) name h (not_true (is_among known name) (λ e. other (Contains-is_among known name e)))

is_least : (known : List (List ℕ)) (ms : Members) (name : List ℕ) → least (unknown_in known ms) ≡ Some name → IsLeastUnknown known ms name
is_least known ms name e =
    let stands = from_filter (λ n. not (is_among known n)) (names_of ms) name (least-Contains (unknown_in known ms) name e) in
    record {
      stands = stands.0;
      unknown = λ c. not_false (is_among known name) stands.1 (is_among-Contains known name c);
      least = λ other there apart. least_below (unknown_in known ms) name other e (unknown_there known ms other there apart);
    }

by_test : {P : Type 0} (b : Bool) → (b ≡ true → P) → ((b ≡ false) → P) → P
by_test true f g = f refl
by_test false f g = g refl

are_known : (known : List (List ℕ)) (ms : Members) → least (unknown_in known ms) ≡ None → AreKnown known ms
are_known known ms e name h = by_test (is_among known name) (Contains-is_among known name) (λ no. absurd (least_none (unknown_in known ms) name e (unknown_there known ms name h (λ c. true≢false (sym (is_among-Contains known name c) ∙ no)))))

-- the test of a missing name is exact
is_there : (ms : Members) (name : List ℕ) → is_none (get_member name ms) ≡ false → Contains (names_of ms) name
is_there ms name h = Contains-is_among (names_of ms) name (sym (is_some-get_member name ms) ∙ some (get_member name ms) h)
  where
    some : (o : Option Data) → is_none o ≡ false → is_some o ≡ true
    some None e = absurd (true≢false e)
    some (Some d) e = refl

is_lacking : (ms : Members) (name : List ℕ) → is_none (get_member name ms) ≡ true → ¬ Contains (names_of ms) name
is_lacking ms name h c = none (get_member name ms) h (is_some-get_member name ms ∙ is_among-Contains (names_of ms) name c)
  where
    none : (o : Option Data) → is_none o ≡ true → is_some o ≡ true → ⊥
    none None e f = true≢false (sym f)
    none (Some d) e f = true≢false (sym e)

head_of : (n : List ℕ) (ns : List (List ℕ)) (ms : Members) → Contains (names_of ms) n → HasAll ns ms → HasAll (n ∷ ns) ms
head_of n ns ms here rest name c = at c.0 c.1 c.2
  where
    at : (k : ℕ) → k < length (n ∷ ns) → get_or (n ∷ ns) k name ≡ name → Contains (names_of ms) name
    at zero lt e = subst (λ m. Contains (names_of ms) m) e here
    at (suc k) lt e = rest name (k, omega arith, e)

none_of : (ms : Members) → HasAll [] ms
none_of ms name c = let lt = c.1 in absurd (omega arith)

all_there : (required : List (List ℕ)) (ms : Members) → find (λ name. is_none (get_member name ms)) required ≡ None → HasAll required ms
all_there [] ms e = none_of ms
all_there (n ∷ ns) ms e = by (is_none (get_member n ms)) refl e (all_there ns ms)
  where
    by : (b : Bool) → is_none (get_member n ms) ≡ b → cond b (Some n) (find (λ name. is_none (get_member name ms)) ns) ≡ None → (find (λ name. is_none (get_member name ms)) ns ≡ None → HasAll ns ms) → HasAll (n ∷ ns) ms
    by true is none rest = absurd (cc none)
    by false is none rest = head_of n ns ms (is_there ms n is) (rest none)

is_first : (required : List (List ℕ)) (ms : Members) (name : List ℕ) → find (λ other. is_none (get_member other ms)) required ≡ Some name → IsFirstMissing required ms name
is_first [] ms name e = absurd (cc e)
is_first (n ∷ ns) ms name e = by (is_none (get_member n ms)) refl e (is_first ns ms name)
  where
    by : (b : Bool) → is_none (get_member n ms) ≡ b → cond b (Some n) (find (λ other. is_none (get_member other ms)) ns) ≡ Some name → (find (λ other. is_none (get_member other ms)) ns ≡ Some name → IsFirstMissing ns ms name) → IsFirstMissing (n ∷ ns) ms name
    by true is found rest = let same : n ≡ name = cc found in subst (λ m. IsFirstMissing (n ∷ ns) ms m) same (record { front = []; back = ns; parts = refl; there = none_of ms; lacks = is_lacking ms n is })
    by false is found rest =
        let more = rest found in
        record { front = n ∷ more.front; back = more.back; parts = ap (λ r. n ∷ r) more.parts; there = head_of n more.front ms (is_there ms n is) more.there; lacks = more.lacks }

-- what reading an object answers, where it is one
abbrev answer : List (List ℕ) → List (List ℕ) → Members → Result ⊤ FieldFault
answer known required ms = refuse Member (least (unknown_in known ms)) >>= λ _. refuse Missing (find (λ name. is_none (get_member name ms)) required)

-- and where it isn't
not_object : (d : Data) → as_object d ≡ None → (ms : Members) → d ≢ object ms
not_object d none ms is = let e : as_object d ≡ Some ms = ap as_object is in cc (none, e)

taken_of : (known required : List (List ℕ)) (ms : Members) → answer known required ms ≡ Ok tt → AreKnown known ms × HasAll required ms
taken_of known required ms e = by (least (unknown_in known ms)) refl (find (λ name. is_none (get_member name ms)) required) refl e
  where
    by : (u : Option (List ℕ)) → least (unknown_in known ms) ≡ u → (m : Option (List ℕ)) → find (λ name. is_none (get_member name ms)) required ≡ m → (refuse Member u >>= λ _. refuse Missing m) ≡ Ok tt → AreKnown known ms × HasAll required ms
    by (Some n) is m missing reads = absurd (cc reads)
    by None is (Some n) missing reads = absurd (cc reads)
    by None is None missing reads = (are_known known ms is, all_there required ms missing)

stands_between : (front : List (List ℕ)) (name : List ℕ) (back : List (List ℕ)) → Contains (front ++ name ∷ back) name
stands_between [] name back = (zero, omega arith, refl)
stands_between (f ∷ front) name back = in_tail f (front ++ name ∷ back) name (stands_between front name back)

only_of : (known required : List (List ℕ)) (ms : Members) → AreKnown known ms → HasAll required ms → answer known required ms ≡ Ok tt
only_of known required ms are there = by (least (unknown_in known ms)) refl (find (λ name. is_none (get_member name ms)) required) refl
  where
    by : (u : Option (List ℕ)) → least (unknown_in known ms) ≡ u → (m : Option (List ℕ)) → find (λ name. is_none (get_member name ms)) required ≡ m → (refuse Member u >>= λ _. refuse Missing m) ≡ Ok tt
    by (Some n) is m missing = let first = is_least known ms n is in absurd (first.unknown (are n first.stands))
    by None is (Some n) missing = let first = is_first required ms n missing in absurd (first.lacks (there n (subst (λ names. Contains names n) (sym first.parts) (stands_between first.front n first.back))))
    by None is None missing = refl

member_of : (known required : List (List ℕ)) (ms : Members) (name : List ℕ) → answer known required ms ≡ Err (Member name) → IsLeastUnknown known ms name
member_of known required ms name e = by (least (unknown_in known ms)) refl (find (λ other. is_none (get_member other ms)) required) e
  where
    by : (u : Option (List ℕ)) → least (unknown_in known ms) ≡ u → (m : Option (List ℕ)) → (refuse Member u >>= λ _. refuse Missing m) ≡ Err (Member name) → IsLeastUnknown known ms name
    by (Some n) is m reads = let same : n ≡ name = cc reads in is_least known ms name (is ∙ ap Some same)
    by None is (Some n) reads = absurd (cc reads)
    by None is None reads = absurd (cc reads)

missing_of : (known required : List (List ℕ)) (ms : Members) (name : List ℕ) → answer known required ms ≡ Err (Missing name) → AreKnown known ms × IsFirstMissing required ms name
missing_of known required ms name e = by (least (unknown_in known ms)) refl (find (λ other. is_none (get_member other ms)) required) refl e
  where
    by : (u : Option (List ℕ)) → least (unknown_in known ms) ≡ u → (m : Option (List ℕ)) → find (λ other. is_none (get_member other ms)) required ≡ m → (refuse Member u >>= λ _. refuse Missing m) ≡ Err (Missing name) → AreKnown known ms × IsFirstMissing required ms name
    by (Some n) is m missing reads = absurd (cc reads)
    by None is None missing reads = absurd (cc reads)
    by None is (Some n) missing reads = let same : n ≡ name = cc reads in (are_known known ms is, is_first required ms name (missing ∙ ap Some same))

never_kind : (known required : List (List ℕ)) (ms : Members) (name : List ℕ) → answer known required ms ≡ Err (Kind name) → ⊥
never_kind known required ms name e = by (least (unknown_in known ms)) (find (λ other. is_none (get_member other ms)) required) e
  where
    by : (u m : Option (List ℕ)) → (refuse Member u >>= λ _. refuse Missing m) ≡ Err (Kind name) → ⊥
    by (Some n) m reads = cc reads
    by None None reads = cc reads
    by None (Some n) reads = cc reads

pub taken : (whole : List ℕ) (known required : List (List ℕ)) (d : Data) → object_at whole known required d ≡ Ok tt → HasMembers d (λ ms. AreKnown known ms × HasAll required ms)
unfolding object_at
taken whole known required (object ms) e = (ms, refl, taken_of known required ms e)
taken whole known required null e = absurd (cc e)
taken whole known required (boolean b) e = absurd (cc e)
taken whole known required (number n) e = absurd (cc e)
taken whole known required (string s) e = absurd (cc e)
taken whole known required (array ds) e = absurd (cc e)

pub only : (whole : List ℕ) (known required : List (List ℕ)) (d : Data) → HasMembers d (λ ms. AreKnown known ms × HasAll required ms) → object_at whole known required d ≡ Ok tt
unfolding object_at
only whole known required d is = rw is.1 (only_of known required is.0 is.2.0 is.2.1)

pub kind : (whole : List ℕ) (known required : List (List ℕ)) (d : Data) (name : List ℕ) → object_at whole known required d ≡ Err (Kind name) → (name ≡ whole) × ((ms : Members) → d ≢ object ms)
unfolding object_at
kind whole known required (object ms) name e = absurd (never_kind known required ms name e)
kind whole known required null name e = (cc e, not_object null refl)
kind whole known required (boolean b) name e = (cc e, not_object (boolean b) refl)
kind whole known required (number n) name e = (cc e, not_object (number n) refl)
kind whole known required (string s) name e = (cc e, not_object (string s) refl)
kind whole known required (array ds) name e = (cc e, not_object (array ds) refl)

pub unknown : (whole : List ℕ) (known required : List (List ℕ)) (d : Data) (name : List ℕ) → object_at whole known required d ≡ Err (Member name) → HasMembers d (λ ms. IsLeastUnknown known ms name)
unfolding object_at
unknown whole known required (object ms) name e = (ms, refl, member_of known required ms name e)
unknown whole known required null name e = absurd (cc e)
unknown whole known required (boolean b) name e = absurd (cc e)
unknown whole known required (number n) name e = absurd (cc e)
unknown whole known required (string s) name e = absurd (cc e)
unknown whole known required (array ds) name e = absurd (cc e)

pub missing : (whole : List ℕ) (known required : List (List ℕ)) (d : Data) (name : List ℕ) → object_at whole known required d ≡ Err (Missing name) → HasMembers d (λ ms. AreKnown known ms × IsFirstMissing required ms name)
unfolding object_at
missing whole known required (object ms) name e = (ms, refl, missing_of known required ms name e)
missing whole known required null name e = absurd (cc e)
missing whole known required (boolean b) name e = absurd (cc e)
missing whole known required (number n) name e = absurd (cc e)
missing whole known required (string s) name e = absurd (cc e)
missing whole known required (array ds) name e = absurd (cc e)
