-- Which texts are read as paths.
use Rattle.std.proofs.Common.{◌≡◌, ◌<◌, ◌≤◌, ◌+◌, ◌-◌, ◌^◌, ℕ, Bool, true, false, cond, ◌==◌, ◌||◌, List, [], ◌∷◌, ◌++◌, length, get_or, take, slice_get, Option, Some, None, option_and_then, inl, inr, refl, sym, ap, subst, ◌∙◌, append_assoc, lit<, arith}
use Rattle.std.proofs.Math.Seq.{take-append_seam, take-length}
use Rattle.std.proofs.lemmas.Bool.{cases_Bool, eqb-true, le-leb, leb-true, or_parts}
use Rattle.std.proofs.lemmas.Fmt.{decimal_is_IsNumeral}
use Rattle.std.proofs.lemmas.List.{append-nil, get_or_default, length_push, take_more}
use Rattle.std.proofs.lemmas.List.Folds.{list_any-append}
use Rattle.std.proofs.lemmas.Option.{slice_get_within, slice_get-get_or}
use Rattle.std.proofs.lemmas.Str.Parse.{digit_at}
use Rattle.std.specs.Fmt.{decimal}
use Rattle.std.specs.Int.{IsInRange}
use Rattle.std.specs.List.{flat_map, list_any, AllZip}
use Rattle.std.specs.Option.{option_map, option_map_or}
use Rattle.std.specs.Prelude.{nat_le}
use Rattle.std.specs.Str.Parse.{AllDigits}
use Rattle.fund_base.proofs.Decimals as decimals
use Rattle.keys_text.specs.Paths.{IsMark, IsPathText, IsStepText, few_steps, is_marked, path_in, step_in, step_number, steps_behind, steps_from}

abbrev is_slash : ℕ → Bool
is_slash b = b == 47

abbrev is_mark : ℕ → Bool
is_mark b = (b == 104) || (b == 39)

abbrev slashed : List ℕ → List ℕ
slashed step = 47 ∷ step

-- ---- letters

-- a letter of this range is none outside
other : (b letter : ℕ) → IsInRange 48 57 b → (IsInRange 48 57 letter → ⊥) → (b == letter) ≡ false
other b letter digit outside = elim (cases_Bool (b == letter)) [
  | inl e ↦ absurd (outside (subst (IsInRange 48 57) (eqb-true b letter e) digit))
  | inr e ↦ e
]

no_slash : (b : ℕ) → IsInRange 48 57 b → is_slash b ≡ false
no_slash b digit = other b 47 digit (λ r. omega (arith, r.0))

no_mark : (b : ℕ) → IsInRange 48 57 b → is_mark b ≡ false
no_mark b digit = rw (other b 104 digit (λ r. omega (arith, r.1)), other b 39 digit (λ r. omega (arith, r.0))) refl

mark_of : (b : ℕ) → is_mark b ≡ true → IsMark b
mark_of b e = by (b == 104) refl e
  where
    by : (t : Bool) → (b == 104) ≡ t → (t || (b == 39)) ≡ true → IsMark b
    by true is reads = inl (eqb-true b 104 is)
    by false is reads = inr (eqb-true b 39 reads)

mark_is : (b : ℕ) → IsMark b → (is_mark b ≡ true) × (is_slash b ≡ false)
mark_is b (inl e) = subst (λ m. (is_mark m ≡ true) × (is_slash m ≡ false)) (sym e) (refl, refl)
mark_is b (inr e) = subst (λ m. (is_mark m ≡ true) × (is_slash m ≡ false)) (sym e) (refl, refl)

-- ---- digits

digits_plain : (ds : List ℕ) → AllDigits 10 ds → list_any is_slash ds ≡ false
digits_plain [] all = refl
digits_plain (d ∷ ds) all = ap (λ t. t || list_any is_slash ds) (no_slash d (digit_at (d ∷ []) 0 (all.0, tt) (omega arith))) ∙ digits_plain ds all.1

unmarked : (ds : List ℕ) → AllDigits 10 ds → is_marked ds ≡ false
unmarked ds all = by (slice_get ds (length ds - 1)) refl
  where
    by : (o : Option ℕ) → slice_get ds (length ds - 1) ≡ o → option_map_or is_mark o false ≡ false
    by None is = refl
    by (Some b) is =
        let lt = slice_get_within ds (length ds - 1) b is in
        let read : get_or ds (length ds - 1) b ≡ b = cc (slice_get-get_or ds (length ds - 1) b lt, is) in
        no_mark b (subst (IsInRange 48 57) (get_or_default ds (length ds - 1) 0 b lt ∙ read) (digit_at ds (length ds - 1) all lt))

at_end : (ds : List ℕ) (m : ℕ) → slice_get (ds ++ m ∷ []) (length ds) ≡ Some m
at_end [] m = refl
at_end (d ∷ ds) m = at_end ds m

before_end : (ds : List ℕ) (m : ℕ) → length (ds ++ m ∷ []) - 1 ≡ length ds
before_end ds m = let long = length_push ds m in omega (arith, long)

marked : (ds : List ℕ) (m : ℕ) → is_marked (ds ++ m ∷ []) ≡ is_mark m
marked ds m = ap (λ k. option_map_or is_mark (slice_get (ds ++ m ∷ []) k) false) (before_end ds m) ∙ ap (λ o. option_map_or is_mark o false) (at_end ds m)

unended : (ds : List ℕ) (m : ℕ) → take (length (ds ++ m ∷ []) - 1) (ds ++ m ∷ []) ≡ ds
unended ds m = ap (λ k. take k (ds ++ m ∷ [])) (before_end ds m) ∙ take-append_seam ds (m ∷ [])

ended : (text : List ℕ) (b : ℕ) → slice_get text (length text - 1) ≡ Some b → text ≡ take (length text - 1) text ++ b ∷ []
ended text b is =
    let lt = slice_get_within text (length text - 1) b is in
    let read : get_or text (length text - 1) b ≡ b = cc (slice_get-get_or text (length text - 1) b lt, is) in
    let whole : length text ≡ (length text - 1) + 1 = omega (arith, lt) in
    sym (take-length text) ∙ ap (λ k. take k text) whole ∙ take_more text (length text - 1) b lt ∙ ap (λ x. take (length text - 1) text ++ x ∷ []) read

-- ---- a step

step_found : (text : List ℕ) (index : ℕ) → step_in text ≡ Some index → IsStepText text index
unfolding step_in
step_found text index e = by (is_marked text) refl e
  where
    over : (o : Option ℕ) → slice_get text (length text - 1) ≡ o → option_map_or is_mark o false ≡ true → (p : Option ℕ) → step_number (take (length text - 1) text) ≡ p → option_map (λ n. n + 2_147_483_648) p ≡ Some index → IsStepText text index
    over None is test p number reads = absurd (cc test)
    over (Some b) is test None number reads = absurd (cc reads)
    over (Some b) is test (Some n) number reads =
        let law = decimals.found 2_147_483_647 (take (length text - 1) text) n number in
        let most = law.1 in
        let same : n + 2_147_483_648 ≡ index = cc reads in
        inr (n, b, omega (arith, most), mark_of b test, ended text b is ∙ ap (λ ds. ds ++ b ∷ []) law.0, sym same)

    by : (t : Bool) → is_marked text ≡ t → cond t (option_map (λ n. n + 2_147_483_648) (step_number (take (length text - 1) text))) (step_number text) ≡ Some index → IsStepText text index
    by true is reads = over (slice_get text (length text - 1)) refl is (step_number (take (length text - 1) text)) refl reads
    by false is reads = let law = decimals.found 2_147_483_647 text index reads in let most = law.1 in inl (omega (arith, most), law.0)

small : (n : ℕ) → n < 2_147_483_648 → n < 2 ^ 64
small n lt = omega (arith, lt)

numbered : (n : ℕ) (text : List ℕ) → n < 2_147_483_648 → text ≡ decimal n → step_number text ≡ Some n
numbered n text lt e = decimals.only 2_147_483_647 n text (lit< tt) (omega (arith, lt)) e

step_only : (text : List ℕ) (index : ℕ) → IsStepText text index → (step_in text ≡ Some index) × (list_any is_slash text ≡ false)
unfolding step_in
step_only text index (inl is) =
    let digits = (decimal_is_IsNumeral index (small index is.0)).0.1 in
    let none : is_marked text ≡ false = ap is_marked is.1 ∙ unmarked (decimal index) digits in
    (rw none (numbered index text is.0 is.1), ap (list_any is_slash) is.1 ∙ digits_plain (decimal index) digits)
step_only text index (inr is) =
    let digits = (decimal_is_IsNumeral is.0 (small is.0 is.2)).0.1 in
    let law = mark_is is.1 is.3 in
    let some : is_marked text ≡ true = ap is_marked is.4 ∙ marked (decimal is.0) is.1 ∙ law.0 in
    let front : take (length text - 1) text ≡ decimal is.0 = ap (λ (t : List ℕ). take (length t - 1) t) is.4 ∙ unended (decimal is.0) is.1 in
    let number : step_number (take (length text - 1) text) ≡ Some is.0 = numbered is.0 (take (length text - 1) text) is.2 front in
    let plain : list_any is_slash (decimal is.0 ++ is.1 ∷ []) ≡ false = list_any-append is_slash (decimal is.0) (is.1 ∷ []) ∙ ap (λ t. t || list_any is_slash (is.1 ∷ [])) (digits_plain (decimal is.0) digits) ∙ ap (λ t. t || false) law.1 in
    (rw (some, number) (ap (λ (i : ℕ). Some i) (sym is.5)), ap (list_any is_slash) is.4 ∙ plain)

-- ---- all steps

-- these indices are those of the steps whose letters these are, with a slash between any two
record IsRead (letters indices : List ℕ) : Type 0 where
  steps : List (List ℕ)
  spelling : 47 ∷ letters ≡ flat_map slashed steps
  each : AllZip IsStepText steps indices

abbrev IsFound : List ℕ → List ℕ → List ℕ → Type 0
IsFound before path letters = (indices : List ℕ) × (path ≡ before ++ indices) × IsRead letters indices

steps_found : (before step text path : List ℕ) → steps_from before step text ≡ Some path → IsFound before path (step ++ text)
unfolding steps_from
steps_found before step [] path e = by (step_in step) refl e
  where
    by : (o : Option ℕ) → step_in step ≡ o → option_map (λ index. before ++ index ∷ []) o ≡ Some path → IsFound before path (step ++ [])
    by None is reads = absurd (cc reads)
    by (Some index) is reads =
        let same : before ++ index ∷ [] ≡ path = cc reads in
        (index ∷ [], sym same, record { steps = step ∷ []; spelling = refl; each = (step_found step index is, tt) })
steps_found before step (b ∷ bs) path e = by (b == 47) refl e (λ index. steps_found (before ++ index ∷ []) [] bs path) (steps_found before (step ++ b ∷ []) bs path)
  where
    over : b ≡ 47 → (o : Option ℕ) → step_in step ≡ o → option_and_then (λ index. steps_from (before ++ index ∷ []) [] bs) o ≡ Some path
        → ((index : ℕ) → steps_from (before ++ index ∷ []) [] bs ≡ Some path → IsFound (before ++ index ∷ []) path bs) → IsFound before path (step ++ b ∷ bs)
    over here None is reads again = absurd (cc reads)
    over here (Some index) is reads again =
        let later = again index reads in
        let text : b ∷ bs ≡ flat_map slashed later.2.steps = ap (λ x. x ∷ bs) here ∙ later.2.spelling in
        (index ∷ later.0, later.1 ∙ append_assoc before (index ∷ []) later.0, record { steps = step ∷ later.2.steps; spelling = ap (λ rest. 47 ∷ (step ++ rest)) text; each = (step_found step index is, later.2.each) })

    by : (t : Bool) → (b == 47) ≡ t → cond t (option_and_then (λ index. steps_from (before ++ index ∷ []) [] bs) (step_in step)) (steps_from before (step ++ b ∷ []) bs) ≡ Some path
        → ((index : ℕ) → steps_from (before ++ index ∷ []) [] bs ≡ Some path → IsFound (before ++ index ∷ []) path bs) → (steps_from before (step ++ b ∷ []) bs ≡ Some path → IsFound before path ((step ++ b ∷ []) ++ bs)) → IsFound before path (step ++ b ∷ bs)
    by true is reads again later = over (eqb-true b 47 is) (step_in step) refl reads again
    by false is reads again later = subst (IsFound before path) (append_assoc step (b ∷ []) bs) (later reads)

letters : (before step front rest : List ℕ) → list_any is_slash front ≡ false → steps_from before step (front ++ rest) ≡ steps_from before (step ++ front) rest
unfolding steps_from
letters before step [] rest e = ap (λ s. steps_from before s rest) (sym (append-nil step))
letters before step (b ∷ bs) rest e =
    let parts = or_parts (b == 47) (list_any is_slash bs) e in
    let one : steps_from before step (b ∷ (bs ++ rest)) ≡ steps_from before (step ++ b ∷ []) (bs ++ rest) = rw parts.0 refl in
    one ∙ letters before (step ++ b ∷ []) bs rest parts.1 ∙ ap (λ s. steps_from before s rest) (append_assoc step (b ∷ []) bs)

steps_only : (before step : List ℕ) (index : ℕ) (steps : List (List ℕ)) (indices : List ℕ) → IsStepText step index → AllZip IsStepText steps indices → steps_from before [] (step ++ flat_map slashed steps) ≡ Some (before ++ index ∷ indices)
unfolding steps_from
steps_only before step index [] [] is each =
    let law = step_only step index is in
    letters before [] step [] law.1 ∙ rw law.0 refl
steps_only before step index (s ∷ steps) [] is each = absurd each
steps_only before step index [] (i ∷ indices) is each = absurd each
steps_only before step index (s ∷ steps) (i ∷ indices) is each =
    let law = step_only step index is in
    let next : steps_from before step (47 ∷ (s ++ flat_map slashed steps)) ≡ steps_from (before ++ index ∷ []) [] (s ++ flat_map slashed steps) = rw law.0 refl in
    letters before [] step (47 ∷ (s ++ flat_map slashed steps)) law.1 ∙ next ∙ steps_only (before ++ index ∷ []) s i steps indices each.0 each.1
    ∙ ap (λ (l : List ℕ). Some l) (append_assoc before (index ∷ []) (i ∷ indices))

-- ---- the whole

few : (read path : List ℕ) → few_steps read ≡ Some path → (read ≡ path) × (length path ≤ 255)
few read path e = by (nat_le (length read) 255) refl e
  where
    by : (b : Bool) → nat_le (length read) 255 ≡ b → cond b (Some read) None ≡ Some path → (read ≡ path) × (length path ≤ 255)
    by true is reads = let same : read ≡ path = cc reads in (same, subst (λ (p : List ℕ). length p ≤ 255) same (leb-true (length read) 255 is))
    by false is reads = absurd (cc reads)

behind_found : (rest path : List ℕ) → steps_behind rest ≡ Some path → (steps : List (List ℕ)) × (rest ≡ flat_map slashed steps) × AllZip IsStepText steps path × (length path ≤ 255)
behind_found [] path e = let same : [] ≡ path = cc e in subst (λ (p : List ℕ). (steps : List (List ℕ)) × ([] ≡ flat_map slashed steps) × AllZip IsStepText steps p × (length p ≤ 255)) same ([], refl, tt, omega arith)
behind_found (b ∷ rest) path e = by (b == 47) refl (steps_from [] [] rest) refl e
  where
    by : (t : Bool) → (b == 47) ≡ t → (o : Option (List ℕ)) → steps_from [] [] rest ≡ o → cond t (option_and_then few_steps o) None ≡ Some path → (steps : List (List ℕ)) × (b ∷ rest ≡ flat_map slashed steps) × AllZip IsStepText steps path × (length path ≤ 255)
    by false is o read reads = absurd (cc reads)
    by true is None read reads = absurd (cc reads)
    by true is (Some p) read reads =
        let short = few p path reads in
        let law = steps_found [] [] rest path (read ∙ ap (λ (l : List ℕ). Some l) short.0) in
        (law.2.steps, ap (λ x. x ∷ rest) (eqb-true b 47 is) ∙ law.2.spelling, subst (AllZip IsStepText law.2.steps) (sym law.1) law.2.each, short.1)

pub found : (text path : List ℕ) → path_in text ≡ Some path → IsPathText text path
unfolding path_in
found [] path e = absurd (cc e)
found (b ∷ rest) path e = by (b == 109) refl e
  where
    by : (t : Bool) → (b == 109) ≡ t → cond t (steps_behind rest) None ≡ Some path → IsPathText (b ∷ rest) path
    by false is reads = absurd (cc reads)
    by true is reads =
        let law = behind_found rest path reads in
        record { steps = law.0; spelling = ap (λ x. x ∷ rest) (eqb-true b 109 is) ∙ ap (λ (l : List ℕ). 109 ∷ l) law.1; each = law.2; few = law.3 }

behind_only : (steps : List (List ℕ)) (path : List ℕ) → AllZip IsStepText steps path → length path ≤ 255 → steps_behind (flat_map slashed steps) ≡ Some path
behind_only [] [] each most = refl
behind_only [] (i ∷ path) each most = absurd each
behind_only (s ∷ steps) [] each most = absurd each
behind_only (s ∷ steps) (i ∷ path) each most =
    ap (option_and_then few_steps) (steps_only [] s i steps path each.0 each.1) ∙ ap (λ b. cond b (Some (i ∷ path)) None) (le-leb (length (i ∷ path)) 255 most)

pub only : (text path : List ℕ) → IsPathText text path → path_in text ≡ Some path
unfolding path_in
only text path is = rw is.spelling (behind_only is.steps path is.each is.few)
