-- Shares, and what is left of amounts that bore them.
use Rattle.std.specs.Prelude.{ℕ, zero, suc, ◌≡◌, ◌≤◌, ◌<◌, ◌+◌, ◌-◌, ◌*◌, ◌/◌, ◌%◌, ◌++◌, List, [], ◌∷◌, length, map, sum, slice_index}
use Rattle.std.proofs.Common.{sym, ap, subst, ◌∙◌, arith, inl, inr}
use Rattle.std.proofs.Math.Nat.{add-mul, div-add-mod}
use Rattle.std.proofs.lemmas.Bool.{cases_lt}
use Rattle.std.proofs.lemmas.Bool.Decides.{nat_tests}
use Rattle.std.proofs.lemmas.List.{get_or-map, length-map}
use Rattle.std.proofs.lemmas.List.Sums.{sum_by-cons}
use Rattle.psbt_codec.specs.Fault.{shown}
use Rattle.fee_sharing.specs.Shares.{AllReach, AreLeft, IsFirstShort, IsFirstShortAt, left_of, less_parts, share_of}

no_less : (a b : ℕ) → (a < b → ⊥) → b ≤ a
no_less a b h =
    elim (cases_lt a b) [
      | inl less ↦ absurd (h less)
      | inr more ↦ more
    ]

sum_cons : (n : ℕ) (ns : List ℕ) → sum (n ∷ ns) ≡ n + sum ns
sum_cons n ns = sum_by-cons (λ (m : ℕ). m) n ns

-- each amount is at least an equal part
abbrev AreAbove : ℕ → List ℕ → Type 0
AreAbove part ns = (k : ℕ) → k < length ns → part ≤ slice_index ns k

-- one more part
one_more : (k part : ℕ) → (k + 1) * part ≡ k * part + part
one_more k part = omega (arith, add-mul k 1 part)

-- amounts that are all at least so much, each less that
sum_less : (part : ℕ) (ns : List ℕ) → AreAbove part ns → sum (map (λ n. n - part) ns) + length ns * part ≡ sum ns
sum_less part [] above = omega arith
sum_less part (n ∷ ns) above =
    let first : part ≤ n = above 0 (omega arith) in
    let others = sum_less part ns (λ k below. above (suc k) (omega (arith, below))) in
    let count : length (n ∷ ns) * part ≡ length ns * part + part = ap (λ (m : ℕ). m * part) (longer n ns) ∙ one_more (length ns) part in
    omega (arith, first, others, count, sum_cons n ns, sum_cons (n - part) (map (λ m. m - part) ns))
  where
    longer : (n : ℕ) (ns : List ℕ) → length (n ∷ ns) ≡ length ns + 1
    longer n ns = omega arith

-- what amounts bear is shared out whole
sum_left : (borne part over : ℕ) (first : ℕ) (others : List ℕ) → part + over ≤ first → AreAbove part others → length (first ∷ others) * part + over ≡ borne
    → sum (less_parts part over (first ∷ others)) + borne ≡ sum (first ∷ others)
sum_left borne part over first others low above whole =
    let rest = sum_less part others above in
    let count : length (first ∷ others) * part ≡ length others * part + part = ap (λ (m : ℕ). m * part) (longer first others) ∙ one_more (length others) part in
    let lost : sum (less_parts part over (first ∷ others)) ≡ (first - (part + over)) + sum (map (λ n. n - part) others) = sum_cons (first - (part + over)) (map (λ n. n - part) others) in
    omega (arith, rest, whole, low, count, lost, sum_cons first others)
  where
    longer : (n : ℕ) (ns : List ℕ) → length (n ∷ ns) ≡ length ns + 1
    longer n ns = omega arith

-- a later recipient bears an equal part alone
later_share : (borne count k : ℕ) → share_of borne count (suc k) ≡ borne / count
later_share borne count k = grind (arith, nat_tests)

-- the places of what is left
each_left : (part : ℕ) (others : List ℕ) (k : ℕ) → k < length others → part ≤ slice_index others k → slice_index (map (λ n. n - part) others) k + part ≡ slice_index others k
each_left part others k below above =
    let here : slice_index (map (λ n. n - part) others) k ≡ slice_index others k - part = get_or-map (λ (n : ℕ). n - part) others k 0 0 below in
    omega (arith, here, above)

-- an amount that reaches is no less than its share and its dust threshold together
reached : (borne : ℕ) (amounts dusts : List ℕ) (k : ℕ) → AllReach borne amounts dusts → k < length amounts → share_of borne (length amounts) k + slice_index dusts k ≤ slice_index amounts k
reached borne amounts dusts k reach below = no_less (slice_index amounts k) (share_of borne (length amounts) k + slice_index dusts k) (reach k below)

-- the first one
first_above : (borne : ℕ) (first : ℕ) (others : List ℕ) (dusts : List ℕ) → AllReach borne (first ∷ others) dusts → borne / length (first ∷ others) + borne % length (first ∷ others) ≤ first
first_above borne first others dusts reach =
    let n = length (first ∷ others) in
    let low : (borne / n + borne % n) + slice_index dusts 0 ≤ first = reached borne (first ∷ others) dusts 0 reach (omega arith) in
    omega (arith, low)

-- and the others
others_above : (borne : ℕ) (first : ℕ) (others : List ℕ) (dusts : List ℕ) → AllReach borne (first ∷ others) dusts → AreAbove (borne / length (first ∷ others)) others
others_above borne first others dusts reach k below =
    let n = length (first ∷ others) in
    let low : share_of borne n (suc k) + slice_index dusts (suc k) ≤ slice_index others k = reached borne (first ∷ others) dusts (suc k) reach (omega (arith, below)) in
    omega (arith, low, later_share borne n k)

places_left : (borne : ℕ) (first : ℕ) (others : List ℕ) (dusts : List ℕ) → AllReach borne (first ∷ others) dusts
    → (k : ℕ) → k < length (first ∷ others) → slice_index (less_parts (borne / length (first ∷ others)) (borne % length (first ∷ others)) (first ∷ others)) k + share_of borne (length (first ∷ others)) k ≡ slice_index (first ∷ others) k
places_left borne first others dusts reach zero below =
    let n = length (first ∷ others) in
    let low = first_above borne first others dusts reach in
    let whole : (first - (borne / n + borne % n)) + (borne / n + borne % n) ≡ first = omega (arith, low) in
    whole
places_left borne first others dusts reach (suc k) below =
    let n = length (first ∷ others) in
    let short : k < length others = omega (arith, below) in
    let here = each_left (borne / n) others k short (others_above borne first others dusts reach k short) in
    let whole : slice_index (map (λ m. m - borne / n) others) k + share_of borne n (suc k) ≡ slice_index others k = omega (arith, here, later_share borne n k) in
    whole

left_by : (borne : ℕ) (first : ℕ) (others : List ℕ) (dusts : List ℕ) → AllReach borne (first ∷ others) dusts → AreLeft borne (first ∷ others) dusts (left_of borne (first ∷ others))
unfolding left_of
left_by borne first others dusts reach =
    let n = length (first ∷ others) in
    let each = places_left borne first others dusts reach in
    let count : length (map (λ (m : ℕ). m - borne / n) others) ≡ length others = length-map others (λ (m : ℕ). m - borne / n) in
    record {
      count = longer (first - (borne / n + borne % n)) first (map (λ (m : ℕ). m - borne / n) others) others count;
      each = each;
      dust = λ k below. at_least (slice_index (first ∷ others) k) (share_of borne n k) (slice_index dusts k) (slice_index (less_parts (borne / n) (borne % n) (first ∷ others)) k) (each k below) (reached borne (first ∷ others) dusts k reach below);
      together = sum_left borne (borne / n) (borne % n) first others (first_above borne first others dusts reach) (others_above borne first others dusts reach) (div-add-mod borne n);
    }
  where
    longer : (m n : ℕ) (ms ns : List ℕ) → length ms ≡ length ns → length (m ∷ ms) ≡ length (n ∷ ns)
    longer m n ms ns e = omega (arith, e)

    at_least : (amount share dust left : ℕ) → left + share ≡ amount → share + dust ≤ amount → dust ≤ left
    at_least amount share dust left e low = omega (arith, e, low)

some_left : (borne : ℕ) (amounts dusts : List ℕ) → 0 < length amounts → AllReach borne amounts dusts → AreLeft borne amounts dusts (left_of borne amounts)
some_left borne [] dusts some reach = absurd (omega (arith, some))
some_left borne (first ∷ others) dusts some reach = left_by borne first others dusts reach

-- what is left of amounts that reach
pub are_left : (borne : ℕ) (amounts dusts left : List ℕ) → 0 < length amounts → AllReach borne amounts dusts → left ≡ left_of borne amounts → AreLeft borne amounts dusts left
are_left borne amounts dusts left some reach is = subst (AreLeft borne amounts dusts) (sym is) (some_left borne amounts dusts some reach)

-- the first that falls short, by the index that a fault shows
pub first_at : (borne : ℕ) (amounts dusts : List ℕ) (place index : ℕ) → IsFirstShort borne amounts dusts place → index ≡ shown place → IsFirstShortAt borne amounts dusts index
first_at borne amounts dusts place index first is = record { place = place; first = first; index_is = is }

-- ---- as it is worked out

pub none_left : (borne : ℕ) (amounts left : List ℕ) → length amounts ≡ 0 → left ≡ [] → left ≡ left_of borne amounts
unfolding left_of
none_left borne [] left none is = is
none_left borne (first ∷ others) left none is = absurd (omega (arith, none))

pub some_are_left : (borne first : ℕ) (amounts others old mid left : List ℕ) (value bears : ℕ) → amounts ≡ first ∷ others → old ≡ [] → mid ≡ old ++ value ∷ [] → value ≡ first - bears → bears ≡ share_of borne (length amounts) 0
    → left ≡ mid ++ map (λ n. n - borne / length amounts) others → left ≡ left_of borne amounts
unfolding left_of
some_are_left borne first amounts others old mid left value bears parts none put is bears_is appended =
    let tail = map (λ (n : ℕ). n - borne / length amounts) others in
    appended
    ∙ ap (λ (l : List ℕ). l ++ tail) (put ∙ ap (λ (l : List ℕ). l ++ value ∷ []) none)
    ∙ ap (λ (n : ℕ). n ∷ tail) (is ∙ ap (λ (n : ℕ). first - n) bears_is)
    ∙ ap (λ (ns : List ℕ). (first - share_of borne (length ns) 0) ∷ map (λ (n : ℕ). n - borne / length ns) others) parts
    ∙ ap (λ (ns : List ℕ). less_parts (borne / length ns) (borne % length ns) ns) (sym parts)
