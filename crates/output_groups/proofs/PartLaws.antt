-- The hundreds of a list of coins.
use Rattle.std.specs.Prelude.{◌≡◌, ℕ, ◌*◌, ◌<◌, ◌≤◌, Bool, true, false, List, [], ◌∷◌, map, filter, All, drop, length}
use Rattle.std.specs.List.{range_with_len}
use Rattle.std.specs.Int.{div_ceil}
use Rattle.std.proofs.Common.{refl, sym, subst, ap, arith}
use Rattle.std.proofs.lemmas.List.{length-take, length-drop}
use Rattle.std.proofs.lemmas.List.Elements.{All-drop, All-head, All-tail, All-take}
use Rattle.std.proofs.lemmas.List.FromFn.{get_or-map-range_with_len, length-map-range_with_len}
use Rattle.coin_candidates.specs.declared.candidate.Candidate.{Candidate}
use Rattle.output_groups.specs.Forming.{hundred, part_at, parts_of, pays_to, starts_with}
use Rattle.output_groups.specs.Part.{Part}

pub filter_all : {X : Type 0} (p : X → Bool) (xs : List X) → All (λ x. p x ≡ true) xs → filter p xs ≡ xs
filter_all p [] all = refl
filter_all {X} p (x ∷ xs) all =
    let P : X → Type 0 = λ y. p y ≡ true in
    let here : p x ≡ true = All-head P x xs all in
    rw here (ap (λ (ys : List X). x ∷ ys) (filter_all p xs (All-tail P x xs all)))

pub filter_none : {X : Type 0} (p : X → Bool) (xs : List X) → All (λ x. p x ≡ false) xs → filter p xs ≡ []
filter_none p [] all = refl
filter_none {X} p (x ∷ xs) all =
    let P : X → Type 0 = λ y. p y ≡ false in
    let here : p x ≡ false = All-head P x xs all in
    rw here (filter_none p xs (All-tail P x xs all))

-- 1 to 100 coins that all have a property
pub record IsFull (P : Candidate → Type 0) (g : List Candidate) : Type 0 where
  pub some : 0 < length g
  pub few : length g ≤ 100
  pub each : All P g

-- what holds at each place holds of each element
pub all_places : {X : Type 0} (Q : X → Type 0) (f : ℕ → X) (n : ℕ) → ((k : ℕ) → k < n → Q (f k)) → All Q (map f (range_with_len 0 n))
all_places Q f n at k d below =
    let within : k < n = omega (arith, below, length-map-range_with_len f 0 n) in
    subst Q (sym (get_or-map-range_with_len f 0 n k k d within (omega arith))) (at k within)

pub place_within : (n k : ℕ) → k < div_ceil n 100 → 100 * k < n
place_within n k below = grind (arith)

hundred_full : (P : Candidate → Type 0) (cs : List Candidate) (k : ℕ) → All P cs → 100 * k < length cs → IsFull P (hundred cs k)
hundred_full P cs k all within = record {
  some = omega (arith, length-take 100 (drop (100 * k) cs), length-drop (100 * k) cs, within);
  few = omega (arith, length-take 100 (drop (100 * k) cs));
  each = All-take P 100 (drop (100 * k) cs) (All-drop P (100 * k) cs all);
}

-- each hundred has 1 to 100 coins of the list
pub parts_full : (P : Candidate → Type 0) (cs : List Candidate) → All P cs → All (λ (p : Part). IsFull P p.coins) (parts_of cs)
unfolding parts_of
parts_full P cs all =
    all_places (λ (p : Part). IsFull P p.coins) (part_at cs) (div_ceil (length cs) 100)
    (λ k below. hundred_full P cs k all (place_within (length cs) k below))

-- no coins have no parts
pub parts_of_none : parts_of [] ≡ []
unfolding parts_of
parts_of_none = refl

-- whose coins all pay to a script starts with it, and whose coins all don't, doesn't
pub starts_full : (script : List ℕ) (b : Bool) (g : List Candidate) → IsFull (λ c. pays_to script c ≡ b) g → starts_with script g ≡ b
starts_full script b [] full = absurd (omega (arith, full.some))
starts_full script b (c ∷ cs) full = All-head (λ (x : Candidate). pays_to script x ≡ b) c cs full.each
