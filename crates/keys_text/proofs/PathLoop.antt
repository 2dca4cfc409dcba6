-- The steps of a path, as a loop reads them, and what every path keeps.
use Rattle.std.proofs.Common.{◌≡◌, ◌≢◌, ◌<◌, ◌≤◌, ◌+◌, ◌-◌, ◌^◌, ℕ, Bool, true, false, cond, ◌==◌, inl, inr, List, [], ◌∷◌, ◌++◌, length, get_or, take, drop, Option, Some, None, option_and_then, refl, sym, ap, subst, ◌∙◌, arith}
use Rattle.std.proofs.Math.ListN.{drop_of_length-le}
use Rattle.std.proofs.lemmas.List.{drop_more, get_or-drop, length-drop, take_all, take_more}
use Rattle.std.proofs.lemmas.List.Elements.{All-nil, All-push}
use Rattle.std.proofs.lemmas.Bool.{cases_Bool, eqb-true, leb-true}
use Rattle.std.specs.List.{slice_range}
use Rattle.std.specs.Option.{option_map}
use Rattle.std.specs.Prelude.{All, nat_le}
use Rattle.fund_base.proofs.Decimals as decimals
use Rattle.keys_text.specs.Paths.{few_steps, is_marked, path_in, step_in, step_number, steps_behind, steps_from}

-- ---- the loop

-- the letters of a step, one more
pub letter_more : (text : List ℕ) (start i : ℕ) (d : ℕ) → start ≤ i → i < length text → slice_range text start i ++ get_or text i d ∷ [] ≡ slice_range text start (i + 1)
letter_more text start i d le lt =
    let long = length-drop start text in
    let read : get_or (drop start text) (i - start) d ≡ get_or text i d = get_or-drop start text (i - start) d ∙ ap (λ k. get_or text k d) (omega arith) in
    let more : take ((i - start) + 1) (drop start text) ≡ take (i - start) (drop start text) ++ get_or (drop start text) (i - start) d ∷ [] = take_more (drop start text) (i - start) d (omega (arith, long)) in
    ap (λ (b : ℕ). slice_range text start i ++ b ∷ []) (sym read) ∙ sym more ∙ ap (λ n. take n (drop start text)) (omega arith)

is_47 : (b : ℕ) → b ≡ 47 → (b == 47) ≡ true
is_47 b e = ap (λ x. x == 47) e

isnt_47 : (b : ℕ) → b ≢ 47 → (b == 47) ≡ false
isnt_47 b other = elim (cases_Bool (b == 47)) [
  | inl e ↦ absurd (other (eqb-true b 47 e))
  | inr e ↦ e
]

-- a letter that is no slash
pub letter : (text before : List ℕ) (start i : ℕ) (total : Option (List ℕ)) → start ≤ i → i < length text → get_or text i 0 ≢ 47
    → steps_from before (slice_range text start i) (drop i text) ≡ total → steps_from before (slice_range text start (i + 1)) (drop (i + 1) text) ≡ total
unfolding steps_from
letter text before start i total le lt other so_far =
    let one : steps_from before (slice_range text start i) (drop i text) ≡ steps_from before (slice_range text start i ++ get_or text i 0 ∷ []) (drop (i + 1) text) = rw (drop_more text i 0 lt, isnt_47 (get_or text i 0) other) refl in
    ap (λ step. steps_from before step (drop (i + 1) text)) (sym (letter_more text start i 0 le lt)) ∙ sym one ∙ so_far

-- no letters behind a slash
none_yet : (text : List ℕ) (i : ℕ) → slice_range text i i ≡ []
none_yet text i = by (drop i text) (i - i) (omega arith)
  where
    by : (rest : List ℕ) (n : ℕ) → n ≡ 0 → take n rest ≡ []
    by rest n e = ap (λ k. take k rest) e

-- a slash behind a step
pub slash : (text before : List ℕ) (start i index : ℕ) (total : Option (List ℕ)) → i < length text → get_or text i 0 ≡ 47 → Some index ≡ step_in (slice_range text start i)
    → steps_from before (slice_range text start i) (drop i text) ≡ total → steps_from (before ++ index ∷ []) (slice_range text (i + 1) (i + 1)) (drop (i + 1) text) ≡ total
unfolding steps_from
slash text before start i index total lt is reads so_far =
    let one : steps_from before (slice_range text start i) (drop i text) ≡ steps_from (before ++ index ∷ []) [] (drop (i + 1) text) = rw (drop_more text i 0 lt, is_47 (get_or text i 0) is, sym reads) refl in
    ap (λ step. steps_from (before ++ index ∷ []) step (drop (i + 1) text)) (none_yet text (i + 1)) ∙ sym one ∙ so_far

-- a slash behind what is no step
pub refused : (text before : List ℕ) (start i : ℕ) (total : Option (List ℕ)) → i < length text → get_or text i 0 ≡ 47 → None ≡ step_in (slice_range text start i)
    → steps_from before (slice_range text start i) (drop i text) ≡ total → None ≡ total
unfolding steps_from
refused text before start i total lt is none so_far =
    let one : steps_from before (slice_range text start i) (drop i text) ≡ None = rw (drop_more text i 0 lt, is_47 (get_or text i 0) is, sym none) refl in
    sym one ∙ so_far

-- the last step
last : (text before : List ℕ) (start i : ℕ) (total : Option (List ℕ)) → length text ≤ i
    → steps_from before (slice_range text start i) (drop i text) ≡ total → option_map (λ index. before ++ index ∷ []) (step_in (slice_range text start (length text))) ≡ total
unfolding steps_from
last text before start i total le so_far =
    let long = length-drop start text in
    let whole : slice_range text start i ≡ slice_range text start (length text) = take_all (i - start) (drop start text) (omega (arith, long, le)) ∙ sym (take_all (length text - start) (drop start text) (omega (arith, long))) in
    let one : steps_from before (slice_range text start i) (drop i text) ≡ option_map (λ index. before ++ index ∷ []) (step_in (slice_range text start i)) = rw (drop_of_length-le text le) refl in
    ap (λ step. option_map (λ index. before ++ index ∷ []) (step_in step)) (sym whole) ∙ sym one ∙ so_far

pub last_some : (text before : List ℕ) (start i index : ℕ) (total : Option (List ℕ)) → length text ≤ i → Some index ≡ step_in (slice_range text start (length text))
    → steps_from before (slice_range text start i) (drop i text) ≡ total → Some (before ++ index ∷ []) ≡ total
last_some text before start i index total le reads so_far = ap (option_map (λ n. before ++ n ∷ [])) reads ∙ last text before start i total le so_far

pub last_none : (text before : List ℕ) (start i : ℕ) (total : Option (List ℕ)) → length text ≤ i → None ≡ step_in (slice_range text start (length text))
    → steps_from before (slice_range text start i) (drop i text) ≡ total → None ≡ total
last_none text before start i total le none so_far = ap (option_map (λ n. before ++ n ∷ [])) none ∙ last text before start i total le so_far

-- ---- what a path keeps

abbrev pub IsIndex : ℕ → Type 0
IsIndex index = index < 2 ^ 32

step_is : (text : List ℕ) (index : ℕ) → step_in text ≡ Some index → IsIndex index
unfolding step_in
step_is text index e = by (is_marked text) e
  where
    plain : (digits : List ℕ) (n : ℕ) → step_number digits ≡ Some n → n ≤ 2_147_483_647
    plain digits n is = (decimals.found 2_147_483_647 digits n is).1

    over : (digits : List ℕ) (o : Option ℕ) → step_number digits ≡ o → option_map (λ n. n + 2_147_483_648) o ≡ Some index → IsIndex index
    over digits None is reads = absurd (cc reads)
    over digits (Some n) is reads =
        let same : n + 2_147_483_648 ≡ index = cc reads in
        let most = plain digits n is in
        omega (arith, same, most)

    by : (b : Bool) → cond b (option_map (λ n. n + 2_147_483_648) (step_number (take (length text - 1) text))) (step_number text) ≡ Some index → IsIndex index
    by true reads = over (take (length text - 1) text) (step_number (take (length text - 1) text)) refl reads
    by false reads = let most = plain text index reads in omega (arith, most)

steps_are : (before step text path : List ℕ) → All IsIndex before → steps_from before step text ≡ Some path → All IsIndex path
unfolding steps_from
steps_are before step [] path kept e = by (step_in step) refl e
  where
    by : (o : Option ℕ) → step_in step ≡ o → option_map (λ index. before ++ index ∷ []) o ≡ Some path → All IsIndex path
    by None is reads = absurd (cc reads)
    by (Some index) is reads = let same : before ++ index ∷ [] ≡ path = cc reads in subst (All IsIndex) same (All-push IsIndex before index kept (step_is step index is))
steps_are before step (b ∷ bs) path kept e = by (b == 47) e (λ index more. steps_are (before ++ index ∷ []) [] bs path more) (steps_are before (step ++ b ∷ []) bs path kept)
  where
    over : (o : Option ℕ) → step_in step ≡ o → option_and_then (λ index. steps_from (before ++ index ∷ []) [] bs) o ≡ Some path
        → ((index : ℕ) → All IsIndex (before ++ index ∷ []) → steps_from (before ++ index ∷ []) [] bs ≡ Some path → All IsIndex path) → All IsIndex path
    over None is reads again = absurd (cc reads)
    over (Some index) is reads again = again index (All-push IsIndex before index kept (step_is step index is)) reads

    by : (t : Bool) → cond t (option_and_then (λ index. steps_from (before ++ index ∷ []) [] bs) (step_in step)) (steps_from before (step ++ b ∷ []) bs) ≡ Some path
        → ((index : ℕ) → All IsIndex (before ++ index ∷ []) → steps_from (before ++ index ∷ []) [] bs ≡ Some path → All IsIndex path) → (steps_from before (step ++ b ∷ []) bs ≡ Some path → All IsIndex path) → All IsIndex path
    by true reads again later = over (step_in step) refl reads again
    by false reads again later = later reads

few : (read : List ℕ) (path : List ℕ) → few_steps read ≡ Some path → (read ≡ path) × (length path ≤ 255)
few read path e = by (nat_le (length read) 255) refl e
  where
    by : (b : Bool) → nat_le (length read) 255 ≡ b → cond b (Some read) None ≡ Some path → (read ≡ path) × (length path ≤ 255)
    by true is reads = let same : read ≡ path = cc reads in (same, subst (λ (p : List ℕ). length p ≤ 255) same (leb-true (length read) 255 is))
    by false is reads = absurd (cc reads)

behind_is : (text path : List ℕ) → steps_behind text ≡ Some path → All IsIndex path × (length path ≤ 255)
behind_is [] path e = let same : [] ≡ path = cc e in subst (λ (p : List ℕ). All IsIndex p × (length p ≤ 255)) same (All-nil IsIndex, omega arith)
behind_is (b ∷ steps) path e = by (b == 47) (steps_from [] [] steps) refl e
  where
    by : (t : Bool) (o : Option (List ℕ)) → steps_from [] [] steps ≡ o → cond t (option_and_then few_steps o) None ≡ Some path → All IsIndex path × (length path ≤ 255)
    by false o is reads = absurd (cc reads)
    by true None is reads = absurd (cc reads)
    by true (Some read) is reads = let law = few read path reads in (subst (All IsIndex) law.0 (steps_are [] [] steps read (All-nil IsIndex) is), law.1)

pub path_is : (text path : List ℕ) → path_in text ≡ Some path → All IsIndex path × (length path ≤ 255)
unfolding path_in
path_is [] path e = absurd (cc e)
path_is (b ∷ rest) path e = by (b == 109) e
  where
    by : (t : Bool) → cond t (steps_behind rest) None ≡ Some path → All IsIndex path × (length path ≤ 255)
    by true reads = behind_is rest path reads
    by false reads = absurd (cc reads)
