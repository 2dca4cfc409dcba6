-- The groups that a row keeps are the same ones, in whatever order they were formed.
use Rattle.std.specs.Prelude.{◌≡◌, ℕ, zero, suc, ◌+◌, ◌<◌, ◌≤◌, ◌&&◌, Bool, true, false, not, List, [], ◌∷◌, map, filter, count_by, sum_by, All, length}
use Rattle.std.proofs.Common.{refl, sym, subst, cond, ap, ◌∙◌, arith, inl, inr}
use Rattle.std.proofs.lemmas.List.Elements.{All-filter, All-head, All-weaker}
use Rattle.std.proofs.lemmas.List.Filters.{sum_by-filter_both}
use Rattle.std.proofs.lemmas.List.Folds.{fold-map}
use Rattle.std.proofs.lemmas.List.Sums.{count_by-le-length, length-filter, sum_by-cons}
use Rattle.std.proofs.lemmas.Bool.{cases_Bool}
use Rattle.coin_candidates.specs.declared.candidate.Candidate.{Candidate}
use Rattle.output_groups.specs.Forming.{AreParts, IsGrouping, starts_with}
use Rattle.output_groups.specs.Pool.{AreKept, CountsKept, keeps}
use Rattle.output_groups.specs.Part.{Part}
use Rattle.output_groups.specs.declared.rows.Row.{Row}
use Rattle.output_groups.proofs.GroupLaws.{first_script, starts_first}
use Rattle.output_groups.proofs.PartLaws.{filter_all}

-- each test passes as many elements of the one list as of the other
pub record AreSame {X : Type 0} (xs ys : List X) : Type 0 where
  pub counts : (p : X → Bool) → count_by p xs ≡ count_by p ys

-- two filters may be taken in cases_Bool order
swapped : {X : Type 0} (p q : X → Bool) (xs : List X) → filter p (filter q xs) ≡ filter q (filter p xs)
swapped p q [] = refl
swapped {X} p q (x ∷ xs) =
    let rest = swapped p q xs in
    elim (cases_Bool (p x)) [
      | inl holds ↦ elim (cases_Bool (q x)) [ inl also ↦ simp (holds, also) (ap (λ (ys : List X). x ∷ ys) rest) | inr lacks ↦ simp (holds, lacks) rest ]
      | inr not_p ↦ elim (cases_Bool (q x)) [ inl also ↦ simp (not_p, also) rest | inr lacks ↦ simp (not_p, lacks) rest ]
    ]

-- what fails a test that the head passes is less than the list
rest_shorter : {X : Type 0} (p : X → Bool) (x : X) (xs : List X) (n : ℕ) → p x ≡ true → length (x ∷ xs) ≤ suc n → length (filter (λ y. not (p y)) (x ∷ xs)) ≤ n
rest_shorter {X} p x xs n passes short =
    let fails : X → Bool = λ y. not (p y) in
    rw passes (omega (arith, short, length-filter fails xs, count_by-le-length fails xs))

-- lists that agree on the elements of each key, where each element has a key, are the same
pub same_by_keys : {X K : Type 0} (is : K → X → Bool) (n : ℕ) (xs ys : List X) → length xs ≤ n → All (λ x. (k : K) × (is k x ≡ true)) xs → All (λ y. (k : K) × (is k y ≡ true)) ys → ((k : K) → filter (is k) xs ≡ filter (is k) ys) → AreSame xs ys
same_by_keys is n [] [] short keyed keyed_too agree = record { counts = λ p. refl }
same_by_keys {X} {K} is n [] (y ∷ ys) short keyed keyed_too agree =
    let key : (k : K) × (is k y ≡ true) = All-head (λ z. (k : K) × (is k z ≡ true)) y ys keyed_too in
    let bad : [] ≡ y ∷ filter (is key.0) ys = rw key.1 at (agree key.0) in
    absurd cc
same_by_keys is zero (x ∷ xs) ys short keyed keyed_too agree = absurd (omega (arith, short))
same_by_keys {X} {K} is (suc n) (x ∷ xs) ys short keyed keyed_too agree =
    let Keyed : X → Type 0 = λ z. (k : K) × (is k z ≡ true) in
    let key : (k : K) × (is k x ≡ true) = All-head Keyed x xs keyed in
    let passes : X → Bool = is key.0 in
    let fails : X → Bool = λ z. not (is key.0 z) in
    let rest : AreSame (filter fails (x ∷ xs)) (filter fails ys) =
    same_by_keys is n (filter fails (x ∷ xs)) (filter fails ys) (rest_shorter passes x xs n key.1 short) (All-filter fails Keyed (x ∷ xs) keyed) (All-filter fails Keyed ys keyed_too)
    (λ k. swapped (is k) fails (x ∷ xs) ∙ ap (filter fails) (agree k) ∙ sym (swapped (is k) fails ys)) in
    record {
      counts = λ p.
          let f : X → ℕ = λ z. cond (p z) 1 0 in
          let alike : sum_by f (filter passes (x ∷ xs)) ≡ sum_by f (filter passes ys) = ap (sum_by f) (agree key.0) in
          let others : sum_by f (filter fails (x ∷ xs)) ≡ sum_by f (filter fails ys) = rest.counts p in
          let whole = sum_by-filter_both passes fails (λ z. refl) f (x ∷ xs) in
          let whole_too = sum_by-filter_both passes fails (λ z. refl) f ys in
          sym whole ∙ ap (λ (n : ℕ). n + sum_by f (filter fails (x ∷ xs))) alike ∙ ap (λ (n : ℕ). sum_by f (filter passes ys) + n) others ∙ whole_too;
    }

counted_map : {X Y : Type 0} (f : X → Y) (p : Y → Bool) (xs : List X) → count_by p (map f xs) ≡ count_by (λ x. p (f x)) xs
counted_map f p xs = fold-map (λ (n : ℕ) y. n + cond (p y) 1 0) f 0 xs

counted_filter : {X : Type 0} (q p : X → Bool) (xs : List X) → count_by p (filter q xs) ≡ count_by (λ x. q x && p x) xs
counted_filter q p [] = refl
counted_filter {X} q p (x ∷ xs) =
    let rest = counted_filter q p xs in
    let f : X → ℕ = λ y. cond (p y) 1 0 in
    let g : X → ℕ = λ y. cond (q y && p y) 1 0 in
    elim (cases_Bool (q x)) [
      | inl holds ↦
          let head : g x ≡ f x = rw holds refl in
          let kept : filter q (x ∷ xs) ≡ x ∷ filter q xs = rw holds refl in
          ap (sum_by f) kept ∙ sum_by-cons f x (filter q xs) ∙ ap (λ (n : ℕ). f x + n) rest ∙ ap (λ (n : ℕ). n + sum_by g xs) (sym head) ∙ sym (sum_by-cons g x xs)
      | inr fails ↦
          let head : g x ≡ 0 = rw fails refl in
          let left : filter q (x ∷ xs) ≡ filter q xs = rw fails refl in
          ap (sum_by f) left ∙ rest ∙ omega (arith, head, sum_by-cons g x xs)
    ]

pub same_length : {X : Type 0} (xs ys : List X) → AreSame xs ys → length xs ≡ length ys
same_length {X} xs ys same =
    let any : X → Bool = λ x. true in
    let long : (zs : List X) → length zs ≡ count_by any zs = λ zs. ap length (sym (filter_all any zs (λ k d below. refl))) ∙ length-filter any zs in
    long xs ∙ same.counts any ∙ sym (long ys)

pub same_parts : (group : Bool) (cs : List Candidate) (parts others : List Part) → AreParts group cs parts → AreParts group cs others → AreSame parts others
same_parts true cs parts others formed formed_too =
    let starts : List ℕ → Part → Bool = λ s (p : Part). starts_with s p.coins in
    let keyed : (ps : List Part) → IsGrouping cs ps → All (λ p. (s : List ℕ) × (starts s p ≡ true)) ps =
    λ ps is. All-weaker (λ (p : Part). 0 < length p.coins) (λ p. (s : List ℕ) × (starts s p ≡ true)) (λ p some. (first_script p.coins, starts_first p.coins some)) ps is.filled in
    same_by_keys starts (length parts) parts others (omega arith) (keyed parts formed) (keyed others formed_too) (λ s. formed.each s ∙ sym (formed_too.each s))
same_parts false cs parts others formed formed_too =
    let P : List Part → Type 0 = λ ps. AreSame parts ps in
    subst P (formed ∙ sym formed_too) (record { counts = λ p. refl })

pub same_kept : (group : Bool) (row : Row) (rate : ℕ) (cs : List Candidate) (kept others : List (List Candidate)) → AreKept group row rate cs kept → AreKept group row rate cs others → AreSame kept others
same_kept group row rate cs kept others are are_too =
    let same = same_parts group _ are.parts are_too.parts are.formed are_too.formed in
    let coins_of : Part → List Candidate = λ p. p.coins in
    record {
      counts = λ p.
          let counted : (ps : List Part) → count_by p (map coins_of (filter (keeps row) ps)) ≡ count_by (λ q. keeps row q && p (coins_of q)) ps =
          λ ps. counted_map coins_of p (filter (keeps row) ps) ∙ counted_filter (keeps row) (λ q. p (coins_of q)) ps in
          ap (count_by p) are.kept_are ∙ counted are.parts ∙ same.counts (λ q. keeps row q && p (coins_of q)) ∙ sym (counted are_too.parts) ∙ ap (count_by p) (sym are_too.kept_are);
    }

pub one_count : (group : Bool) (row : Row) (rate : ℕ) (cs : List Candidate) (m n : ℕ) → CountsKept group row rate cs m → CountsKept group row rate cs n → m ≡ n
one_count group row rate cs m n is is_too = sym is.count ∙ same_length is.kept is_too.kept (same_kept group row rate cs is.kept is_too.kept is.are_kept is_too.are_kept) ∙ is_too.count
