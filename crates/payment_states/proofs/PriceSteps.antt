-- What shares of places come to over a place and its ancestors.
use Rattle.std.proofs.Common.{◌≡◌, ◌∙◌, ◌⊎◌, inl, inr, ℕ, zero, suc, ◌+◌, ◌-◌, ◌<◌, ◌≤◌, ◌==◌, ◌||◌, Bool, true, false, cond, List, [], ◌∷◌, length, map, filter, get_or, min, Option, Some, None, Contains, refl, sym, ap, subst, arith}
use Rattle.std.specs.Prelude.{slice_get, sum_by}
use Rattle.std.specs.List.{list_all, list_any}
use Rattle.std.specs.Option.{option_map_or}
use Rattle.std.proofs.lemmas.Bool.{and_parts, eqb-true, true≢false, cases_lt}
use Rattle.std.proofs.lemmas.List.Sums.{sum_by-append, sum_by-cons}
use Rattle.std.proofs.lemmas.List.{get_or_past}
use Rattle.wallet_text.specs.PlainWallet.{PlainWallet}
use Rattle.coin_book.specs.History.{History}
use Rattle.known_fees.specs.Missing.{missing_of}
use Rattle.payment_states.specs.ByPlace.{number_at}
use Rattle.payment_states.specs.Candidates.{is_pending, price_at, prices_in, share_at}
use Rattle.payment_states.specs.Counts.{are_one, share_in, sum_over}
use Rattle.payment_states.specs.Graph.{IsInOrder, below, kin, steps, within}
use Rattle.payment_states.specs.PendingView.{graph, no_tx, view_of}
use Rattle.payment_states.proofs.AbandonedSteps.{kin_within}
use Rattle.payment_states.proofs.Below.{below_more, filter_one, get_or-map_below, length-map_below, map_below_same}
use Rattle.payment_states.proofs.FactSteps.{graph_count}
use Rattle.payment_states.proofs.Paths.{parent_before, within_step}
use Rattle.payment_states.proofs.ReachSteps.{later}

-- ---- sums

pub sum_agree : {X : Type 0} (f h : X → ℕ) (xs : List X) → ((x : X) → Contains xs x → f x ≡ h x) → sum_by f xs ≡ sum_by h xs
sum_agree f h [] same = refl
sum_agree f h (x ∷ xs) same =
    sum_by-cons f x xs
    ∙ (λ k. same x (0, omega arith, refl) k + sum_agree f h xs (λ y c. same y (suc c.0, omega arith, c.2)) k)
    ∙ sym (sum_by-cons h x xs)

-- of those that pass a test
pub sum_filter : {X : Type 0} (f : X → ℕ) (p : X → Bool) (xs : List X) → sum_by f (filter p xs) ≡ sum_by (λ x. cond (p x) (f x) 0) xs
sum_filter f p [] = refl
sum_filter {X = X} f p (x ∷ xs) = by (p x) (sum_filter f p xs) ∙ sym (sum_by-cons (λ x. cond (p x) (f x) 0) x xs)
  where
    by : (b : Bool) → sum_by f (filter p xs) ≡ sum_by (λ x. cond (p x) (f x) 0) xs → sum_by f (cond b (x ∷ filter p xs) (filter p xs)) ≡ cond b (f x) 0 + sum_by (λ x. cond (p x) (f x) 0) xs
    by true e = sum_by-cons f x (filter p xs) ∙ ap (λ n. f x + n) e
    by false e = e ∙ (let z : sum_by (λ x. cond (p x) (f x) 0) xs ≡ 0 + sum_by (λ x. cond (p x) (f x) 0) xs = omega arith in z)

pub sum_both : {X : Type 0} (f h : X → ℕ) (xs : List X) → sum_by (λ x. f x + h x) xs ≡ sum_by f xs + sum_by h xs
sum_both f h [] = refl
sum_both f h (x ∷ xs) = omega (arith, sum_both f h xs, sum_by-cons (λ x. f x + h x) x xs, sum_by-cons f x xs, sum_by-cons h x xs)

pub sum_rises : {X : Type 0} (f h : X → ℕ) (xs : List X) → ((x : X) → f x ≤ h x) → sum_by f xs ≤ sum_by h xs
sum_rises f h [] le = omega arith
sum_rises f h (x ∷ xs) le = omega (arith, sum_rises f h xs le, le x, sum_by-cons f x xs, sum_by-cons h x xs)

pub sum_one : {X : Type 0} (f : X → ℕ) (x : X) → sum_by f (x ∷ []) ≡ f x
sum_one f x = omega (arith, sum_by-cons f x [])

-- one number more
pub sum_more : (f : ℕ → ℕ) (n : ℕ) → sum_by f (below (n + 1)) ≡ sum_by f (below n) + f n
sum_more f n = ap (sum_by f) (below_more n) ∙ sum_by-append f (below n) (n ∷ []) ∙ ap (λ m. sum_by f (below n) + m) (sum_one f n)

-- nothing before, and nothing after
pub sum_none : (f : ℕ → ℕ) (n : ℕ) → ((j : ℕ) → j < n → f j ≡ 0) → sum_by f (below n) ≡ 0
unfolding below
sum_none f zero h = refl
sum_none f (suc n) h =
    let e : suc n ≡ n + 1 = omega arith in
    ap (λ m. sum_by f (below m)) e ∙ sum_more f n ∙ (λ k. sum_none f n (λ j lt. h j (omega arith)) k + h n (omega arith) k)

pub sum_behind : (f : ℕ → ℕ) (m n : ℕ) → ((j : ℕ) → m ≤ j → f j ≡ 0) → sum_by f (below (m + n)) ≡ sum_by f (below m)
sum_behind f m zero h = let e : m + 0 ≡ m = omega arith in ap (λ k. sum_by f (below k)) e
sum_behind f m (suc n) h =
    let e : m + suc n ≡ (m + n) + 1 = omega arith in
    ap (λ k. sum_by f (below k)) e ∙ sum_more f (m + n)
    ∙ (λ k. sum_behind f m n h k + h (m + n) (omega arith) k)
    ∙ (let z : sum_by f (below m) + 0 ≡ sum_by f (below m) = omega arith in z)

pub sum_to : (f : ℕ → ℕ) (m n : ℕ) → m ≤ n → ((j : ℕ) → m ≤ j → f j ≡ 0) → sum_by f (below n) ≡ sum_by f (below m)
sum_to f m n le h = let e : n ≡ m + (n - m) = omega arith in ap (λ k. sum_by f (below k)) e ∙ sum_behind f m (n - m) h

-- one number beside others
sum_beside : (f : ℕ → ℕ) (w : ℕ → Bool) (i n : ℕ) → i < n → w i ≡ false → sum_by f (filter (λ j. (i == j) || w j) (below n)) ≡ f i + sum_by f (filter w (below n))
sum_beside f w i n lt out =
    sum_filter f (λ j. (i == j) || w j) (below n)
    ∙ sum_agree (λ j. cond ((i == j) || w j) (f j) 0) (λ j. cond (i == j) (f j) 0 + cond (w j) (f j) 0) (below n) (λ j c. parted j (i == j) (w j) refl refl)
    ∙ sum_both (λ j. cond (i == j) (f j) 0) (λ j. cond (w j) (f j) 0) (below n)
    ∙ (λ k. (sym (sum_filter f (λ j. i == j) (below n)) ∙ ap (sum_by f) (filter_one n i lt) ∙ sum_one f i) k + sym (sum_filter f w (below n)) k)
  where
    parted : (j : ℕ) (a b : Bool) → (i == j) ≡ a → w j ≡ b → cond (a || b) (f j) 0 ≡ cond a (f j) 0 + cond b (f j) 0
    parted j true true is at = absurd (true≢false (sym at ∙ ap w (sym (eqb-true i j is)) ∙ out))
    parted j true false is at = omega arith
    parted j false true is at = omega arith
    parted j false false is at = omega arith

-- ---- ancestors

-- the places of one parent reach what that one reaches
any_one : (p : ℕ) (ps : List ℕ) (w : ℕ → Bool) → list_all (λ q. q == p) ps ≡ true → list_any w (p ∷ ps) ≡ w p
any_one p [] w one = or_none (w p)
  where
    or_none : (b : Bool) → (b || false) ≡ b
    or_none true = refl
    or_none false = refl
any_one p (q ∷ ps) w one =
    let parts = and_parts (q == p) (list_all (λ q. q == p) ps) one in
    let rest = any_one p ps w parts.1 in
    twice (w p) (w q) (list_any w ps) (ap w (eqb-true q p parts.0)) rest
  where
    twice : (a b c : Bool) → b ≡ a → (a || c) ≡ a → (a || (b || c)) ≡ a
    twice true b c e r = refl
    twice false true c e r = e
    twice false false c e r = r

-- the sum at a place whose parents are all one
pub one_parent : (g : List (List ℕ)) (f : ℕ → ℕ) (i : ℕ) (ps : List ℕ) → IsInOrder g → i < length g → steps g i ≡ ps → are_one ps ≡ true
    → sum_by f (kin g i) ≡ option_map_or (λ p. sum_by f (kin g p)) (slice_get ps 0) 0 + f i
one_parent g f i [] order lt is one =
    ap (sum_by f) (same_filter (within g (length g) i) (λ j. (i == j) || false) (below (length g)) (λ j. within_step g i j order lt ∙ ap (λ (qs : List ℕ). (i == j) || list_any (λ p. within g (length g) p j) qs) is))
    ∙ sum_beside f (λ j. false) i (length g) lt refl
    ∙ (let z : f i + sum_by f (filter (λ j. false) (below (length g))) ≡ 0 + f i = omega (arith, none (below (length g))) in z)
  where
    same_filter : (p q : ℕ → Bool) (xs : List ℕ) → ((x : ℕ) → p x ≡ q x) → filter p xs ≡ filter q xs
    same_filter p q [] same = refl
    same_filter p q (x ∷ xs) same = (λ k. cond (same x k) (x ∷ same_filter p q xs same k) (same_filter p q xs same k))

    none : (xs : List ℕ) → sum_by f (filter (λ j. false) xs) ≡ 0
    none [] = refl
    none (x ∷ xs) = none xs
one_parent g f i (p ∷ ps) order lt is one =
    let before : p < i = parent_before g i p order lt (subst (λ (qs : List ℕ). Contains qs p) (sym is) (0, omega arith, refl)) in
    ap (sum_by f) (same_filter (within g (length g) i) (λ j. (i == j) || within g (length g) p j) (below (length g))
    (λ j. within_step g i j order lt ∙ ap (λ (qs : List ℕ). (i == j) || list_any (λ q. within g (length g) q j) qs) is ∙ ap (λ b. (i == j) || b) (any_one p ps (λ q. within g (length g) q j) one)))
    ∙ sum_beside f (within g (length g) p) i (length g) lt (later g p i order (omega arith) before)
    ∙ (let z : f i + sum_by f (kin g p) ≡ sum_by f (kin g p) + f i = omega arith in z)
  where
    same_filter : (p q : ℕ → Bool) (xs : List ℕ) → ((x : ℕ) → p x ≡ q x) → filter p xs ≡ filter q xs
    same_filter p q [] same = refl
    same_filter p q (x ∷ xs) same = (λ k. cond (same x k) (x ∷ same_filter p q xs same k) (same_filter p q xs same k))

-- ---- with a greatest sum

pub cap : (a b : ℕ) → min 2_100_000_000_000_000 (min 2_100_000_000_000_000 a + b) ≡ min 2_100_000_000_000_000 (a + b)
cap a b = omega arith

-- the sum at a place whose parents are all one, from the sums of the places before it
pub sum_known : (g : List (List ℕ)) (shares sums : List ℕ) (i : ℕ) (ps : List ℕ) → IsInOrder g → i < length g → steps g i ≡ ps → are_one ps ≡ true → sums ≡ map (sum_over g shares) (below i)
    → min 2_100_000_000_000_000 (number_at sums (slice_get ps 0) + share_in shares i) ≡ sum_over g shares i
sum_known g shares sums i [] order lt is one told = ap (λ n. min 2_100_000_000_000_000 n) (sym (one_parent g (share_in shares) i [] order lt is one))
sum_known g shares sums i (p ∷ ps) order lt is one told =
    let before : p < i = parent_before g i p order lt (subst (λ (qs : List ℕ). Contains qs p) (sym is) (0, omega arith, refl)) in
    let at : get_or sums p 0 ≡ sum_over g shares p = ap (λ (l : List ℕ). get_or l p 0) told ∙ get_or-map_below (sum_over g shares) i p 0 before in
    ap (λ n. min 2_100_000_000_000_000 (n + share_in shares i)) at
    ∙ cap (sum_by (share_in shares) (kin g p)) (share_in shares i)
    ∙ ap (λ n. min 2_100_000_000_000_000 n) (sym (one_parent g (share_in shares) i (p ∷ ps) order lt is one))

-- the sum of the marked shares, where just a place and its ancestors are marked
pub sum_of_marks : (g : List (List ℕ)) (shares : List ℕ) (marks : List Bool) (i : ℕ) → length marks ≡ length g → ((j : ℕ) → get_or marks j false ≡ within g (length g) i j)
    → sum_by (λ j. cond (get_or marks j false) (share_in shares j) 0) (below (length marks)) ≡ sum_by (share_in shares) (kin g i)
sum_of_marks g shares marks i long is =
    ap (λ n. sum_by (λ j. cond (get_or marks j false) (share_in shares j) 0) (below n)) long
    ∙ sum_agree (λ j. cond (get_or marks j false) (share_in shares j) 0) (λ j. cond (within g (length g) i j) (share_in shares j) 0) (below (length g)) (λ j c. ap (λ b. cond b (share_in shares j) 0) (is j))
    ∙ sym (sum_filter (share_in shares) (within g (length g) i) (below (length g)))

-- a sum that is known is no greater than the greatest
pub number_most : (g : List (List ℕ)) (shares sums : List ℕ) (i : ℕ) (r : Option ℕ) → sums ≡ map (sum_over g shares) (below i) → number_at sums r ≤ 2_100_000_000_000_000
number_most g shares sums i None told = omega arith
number_most g shares sums i (Some p) told = subst (λ (n : ℕ). n ≤ 2_100_000_000_000_000) (sym (ap (λ (l : List ℕ). get_or l p 0) told)) (by (cases_lt p i))
  where
    by : (p < i) ⊎ (i ≤ p) → get_or (map (sum_over g shares) (below i)) p 0 ≤ 2_100_000_000_000_000
    by (inl lt) = subst (λ (n : ℕ). n ≤ 2_100_000_000_000_000) (sym (get_or-map_below (sum_over g shares) i p 0 lt)) (omega arith)
    by (inr le) = subst (λ (n : ℕ). n ≤ 2_100_000_000_000_000) (sym (get_or_past (map (sum_over g shares) (below i)) p 0 (subst (λ (n : ℕ). n ≤ p) (sym (length-map_below (sum_over g shares) i)) le))) (omega arith)

-- ---- the prices

-- at each place the share, where the transaction is Pending
abbrev pub shares_by : PlainWallet → History → (rate : ℕ) → List Bool → List ℕ
shares_by w h rate flags = map (λ i. cond (get_or flags i false) (missing_of rate h w.pending (get_or w.pending i no_tx)) 0) (below (length w.pending))

module _ (w : PlainWallet) (h : History) (rate : ℕ) (flags : List Bool) (flags_are : flags ≡ map (is_pending (view_of w h)) (below (length w.pending))) where
  share_is : (j : ℕ) → j < length w.pending → share_in (shares_by w h rate flags) j ≡ cond (is_pending (view_of w h) j) (share_at w h rate j) 0
  share_is j lt =
      get_or-map_below (λ i. cond (get_or flags i false) (missing_of rate h w.pending (get_or w.pending i no_tx)) 0) (length w.pending) j 0 lt
      ∙ ap (λ b. cond b (share_at w h rate j) 0) (ap (λ (l : List Bool). get_or l j false) flags_are ∙ get_or-map_below (is_pending (view_of w h)) (length w.pending) j false lt)

  sum_is : (i : ℕ) → sum_over (graph (view_of w h)) (shares_by w h rate flags) i ≡ price_at w h rate i
  unfolding price_at
  sum_is i =
      let g = graph (view_of w h) in
      ap (λ n. min 2_100_000_000_000_000 n)
      (sum_agree (share_in (shares_by w h rate flags)) (λ j. cond (is_pending (view_of w h) j) (share_at w h rate j) 0) (kin g i)
      (λ j c. let n = graph_count (view_of w h) in let lt = kin_within g i j c in share_is j (omega arith))
      ∙ sym (sum_filter (share_at w h rate) (is_pending (view_of w h)) (kin g i)))

  pub prices_are : (g : List (List ℕ)) (shares : List ℕ) → g ≡ graph (view_of w h) → shares ≡ shares_by w h rate flags → map (sum_over g shares) (below (length g)) ≡ prices_in w h rate
  prices_are g shares g_is shares_are =
      (λ k. map (sum_over (g_is k) (shares_are k)) (below (length (g_is k))))
      ∙ map_below_same (sum_over (graph (view_of w h)) (shares_by w h rate flags)) (price_at w h rate) (length (graph (view_of w h))) (λ i lt. sum_is i)
      ∙ ap (λ n. map (price_at w h rate) (below n)) (graph_count (view_of w h))
