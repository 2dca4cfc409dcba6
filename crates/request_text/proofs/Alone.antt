-- No coins stand beside a bump.
use Rattle.std.proofs.Common.{◌≡◌, ℕ, Bool, true, false, cond, List, [], ◌∷◌, length, not, codes, is_some, Option, Some, None, Ok, Err, nat_cmp, refl, sym, ap, ◌∙◌, Ordering, Less, Equal, Greater, is_eq}
use Rattle.std.proofs.lemmas.Map.Text.{is_eq-slice_cmp}
use Rattle.std.proofs.lemmas.Slice.Eq.{bytes_eq-Decides}
use Rattle.std.specs.Cmp.Lexicographic.{slice_cmp}
use Rattle.std.specs.Ordering.{match_ordering}
use Rattle.fund_base.specs.declared.outpoint.OutPoint.{OutPoint}
use Rattle.serde_json.specs.Data.{Data, null, boolean, number, string, array, object, Members, no_members, member}
use Rattle.serde_json.specs.Find.{get, get_member}
use Rattle.json_fields.specs.Fields.{is_among, unknown_in, least, object_at, optional}
use Rattle.json_fields.specs.declared.fault.FieldFault.TheVariants.{Member}
use Rattle.request_text.specs.RequestText.{coins_at, known_in, names_but_coins, or_else, required_in}

-- where there is no least unknown name, none is unknown
none_unknown : (names : List (List ℕ)) → least names ≡ None → names ≡ []
none_unknown [] h = refl
none_unknown (n ∷ ns) h = absurd (cc h)

-- a name that isn't known has no member where no name is unknown
no_member : (known : List (List ℕ)) (name : List ℕ) (ms : Members) → is_among known name ≡ false → unknown_in known ms ≡ [] → get_member name ms ≡ None
no_member known name no_members h none = refl
no_member known name (member l x ms) h none = by (slice_cmp nat_cmp name l) refl (no_member known name ms h (rest_of (not (is_among known l)) none))
  where
    rest_of : (b : Bool) → cond b (l ∷ unknown_in known ms) (unknown_in known ms) ≡ [] → unknown_in known ms ≡ []
    rest_of true e = absurd (cc e)
    rest_of false e = e

    by : (o : Ordering) → slice_cmp nat_cmp name l ≡ o → get_member name ms ≡ None → match_ordering o (get_member name ms) (Some x) (get_member name ms) ≡ None
    by Less e rest = rest
    by Greater e rest = rest
    by Equal e rest =
        let same : name ≡ l = (bytes_eq-Decides name l).0 (sym (is_eq-slice_cmp name l) ∙ ap is_eq e) in
        let unknown : is_among known l ≡ false = ap (is_among known) (sym same) ∙ h in
        let stands : l ∷ unknown_in known ms ≡ [] = ap (λ b. cond (not b) (l ∷ unknown_in known ms) (unknown_in known ms)) (sym unknown) ∙ none in
        absurd (cc stands)

-- of an object that is taken
pub unknown_absent : (whole : List ℕ) (known required : List (List ℕ)) (name : List ℕ) (d : Data) → is_among known name ≡ false → object_at whole known required d ≡ Ok tt → get name d ≡ None
unfolding object_at
unknown_absent whole known required name null h e = refl
unknown_absent whole known required name (boolean b) h e = refl
unknown_absent whole known required name (number n) h e = refl
unknown_absent whole known required name (string s) h e = refl
unknown_absent whole known required name (array ds) h e = refl
unknown_absent whole known required name (object ms) h e = no_member known name ms h (none_unknown (unknown_in known ms) (by (least (unknown_in known ms)) refl))
  where
    by : (o : Option (List ℕ)) → least (unknown_in known ms) ≡ o → o ≡ None
    by None f = refl
    by (Some n) f =
        let fails : object_at whole known required (object ms) ≡ Err (Member n) = rw f refl in
        absurd (cc (fails, e))

known_beside : (d : Data) → is_some (get (codes "bump") d) ≡ true → known_in d ≡ names_but_coins
unfolding known_in
known_beside d h = rw h refl

-- the listed coins beside a bump are none
pub alone : (d : Data) (coins : List OutPoint) → object_at (codes "root") (known_in d) (required_in d) d ≡ Ok tt → is_some (get (codes "bump") d) ≡ true
    → or_else [] coins_at (codes "coins") d ≡ Ok coins → length coins ≡ 0
alone d coins whole bump read =
    let taken : object_at (codes "root") names_but_coins (required_in d) d ≡ Ok tt = rw (known_beside d bump) at whole in
    let absent : get (codes "coins") d ≡ None = unknown_absent (codes "root") names_but_coins (required_in d) (codes "coins") d refl taken in
    by (get (codes "coins") d) absent read
  where
    by : (o : Option Data) → o ≡ None → optional [] coins_at o ≡ Ok coins → length coins ≡ 0
    by None e r = let same : coins ≡ [] = cc r in ap length same
    by (Some m) e r = absurd (cc e)
