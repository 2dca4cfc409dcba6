-- Coins in the order of their outpoints, and coins that are among others.
use Rattle.std.specs.Prelude.{ℕ, suc, ◌≡◌, ◌<◌, ◌≤◌, ◌+◌, ◌⊎◌, ◌↔◌, Bool, IsTrue, List, [], ◌∷◌, length, All, Result, Ok, Err, is_ok}
use Rattle.std.specs.List.Sorted.{IsBinarySearchResult, IsNonDecreasingBy, IsPartitionPoint, IsSearchInRange}
use Rattle.std.specs.Ordering.{ordering_index}
use Rattle.std.specs.declared.cmp.Ordering.{Ordering}
use Rattle.std.specs.declared.cmp.Ordering.TheVariants.{Less, Equal, Greater}
use Rattle.std.proofs.Common.{refl, sym, ap, subst, inl, inr, ◌∙◌, arith, drop, get_or}
use Rattle.std.proofs.lemmas.Bool.{both_ways, cases_lt, cases_order}
use Rattle.std.proofs.lemmas.Cmp.{tied_itself}
use Rattle.std.proofs.lemmas.List.{drop_all, get_or_default}
use Rattle.std.proofs.lemmas.List.Elements.{All-cons, All-head, All-nil, All-tail}
use Rattle.std.proofs.lemmas.List.Kept.{AllPairs-cons}
use Rattle.fund_base.proofs.OutpointLaws.{outpoint_equal, outpoint_total}
use Rattle.fund_base.specs.Outpoints.{outpoint_cmp}
use Rattle.coin_candidates.specs.declared.candidate.Candidate.{Candidate}
use Rattle.fund_base.specs.declared.outpoint.OutPoint.{OutPoint}
use Rattle.fund_steps.specs.Selection.{AreSorted}
use Rattle.report_check.specs.Paying.{HasCoinOf, HasEach, IsBelow}
use Rattle.report_check.proofs.SliceLaws.{drop_step}

-- ---- sorted

abbrev Below : Candidate → Candidate → Type 0
Below a b = outpoint_cmp a.coin b.coin ≡ Less

-- of pairs in a list with one more in front, those of the rest
pairs_tail : (c : Candidate) (cs : List Candidate) → AreSorted (c ∷ cs) → AreSorted cs
pairs_tail c cs h i j d up below = h (suc i) (suc j) d (omega (arith, up)) (omega (arith, below))

pairs_head : (c d : Candidate) (ds : List Candidate) → AreSorted (c ∷ d ∷ ds) → Below c d
pairs_head c d ds h = h 0 1 c (omega arith) (omega arith)

-- the first of sorted coins comes before all others
all_below : (c d : Candidate) (ds : List Candidate) → Below c d → AreSorted (d ∷ ds) → All (Below c) (d ∷ ds)
all_below c d [] first h = All-cons (Below c) d [] first (All-nil (Below c))
all_below c d (e ∷ es) first h =
    let next : Below c e = outpoint_total.trans c.coin d.coin e.coin first (pairs_head d e es h) in
    All-cons (Below c) d (e ∷ es) first (all_below c e es next (pairs_tail d (e ∷ es) h))

sorted_cons : (c : Candidate) (cs : List Candidate) → IsBelow c cs → AreSorted cs → AreSorted (c ∷ cs)
sorted_cons c [] h k = AllPairs-cons Below c [] (All-nil (Below c)) k
sorted_cons c (d ∷ ds) h k = AllPairs-cons Below c (d ∷ ds) (all_below c d ds h k) k

sorted_uncons : (c : Candidate) (cs : List Candidate) → AreSorted (c ∷ cs) → IsBelow c cs
sorted_uncons c [] h = tt
sorted_uncons c (d ∷ ds) h = pairs_head c d ds h

none_sorted : AreSorted []
none_sorted i j d up below = absurd (omega (arith, below))

-- the coins from a place on are sorted exactly where all are
pub sorted_next : (coins : List Candidate) (i : ℕ) (c : Candidate) → i < length coins → c ≡ get_or coins i c → (AreSorted (drop i coins) ↔ AreSorted coins) → IsBelow c (drop (i + 1) coins) → (AreSorted (drop (i + 1) coins) ↔ AreSorted coins)
sorted_next coins i c below is h first =
    let same = drop_step coins i c below is in (
      λ k. h.0 (subst AreSorted (sym same) (sorted_cons c (drop (i + 1) coins) first k)),
      λ k. pairs_tail c (drop (i + 1) coins) (subst AreSorted same (h.1 k)),
    )

pub sorted_halt : (coins : List Candidate) (i : ℕ) (c : Candidate) → i < length coins → c ≡ get_or coins i c → (AreSorted (drop i coins) ↔ AreSorted coins) → (IsBelow c (drop (i + 1) coins) → ⊥) → AreSorted coins → ⊥
sorted_halt coins i c below is h apart k = apart (sorted_uncons c (drop (i + 1) coins) (subst AreSorted (drop_step coins i c below is) (h.1 k)))

pub sorted_over : (coins : List Candidate) (i : ℕ) → length coins ≤ i → (AreSorted (drop i coins) ↔ AreSorted coins) → AreSorted coins
sorted_over coins i end h = h.0 (subst AreSorted (sym (drop_all i coins end)) none_sorted)

-- ---- a search among sorted coins

at_most : (o : Ordering) → ordering_index o ≤ 2
at_most Less = omega arith
at_most Equal = omega arith
at_most Greater = omega arith

-- how one coin and a later one compare with an outpoint
compared : (a b : Candidate) (point : OutPoint) → Below a b → ordering_index (outpoint_cmp a.coin point) ≤ ordering_index (outpoint_cmp b.coin point)
compared a b point under = by (outpoint_cmp b.coin point) refl
  where
    by : (o : Ordering) → outpoint_cmp b.coin point ≡ o → ordering_index (outpoint_cmp a.coin point) ≤ ordering_index o
    by Less e = let first : outpoint_cmp a.coin point ≡ Less = outpoint_total.trans a.coin b.coin point under e in omega (arith, ap ordering_index first)
    by Equal e =
        let first : outpoint_cmp a.coin point ≡ Less = subst (λ (p : OutPoint). outpoint_cmp a.coin p ≡ Less) (outpoint_equal b.coin point e) under in
        omega (arith, ap ordering_index first)
    by Greater e = at_most (outpoint_cmp a.coin point)

rising : (coins : List Candidate) (point : OutPoint) → AreSorted coins → IsNonDecreasingBy (λ (c : Candidate). ordering_index (outpoint_cmp c.coin point)) coins
rising coins point h i j d up below = by (cases_order i j)
  where
    by : (i ≡ j) ⊎ ((i < j) ⊎ (j < i)) → ordering_index (outpoint_cmp (get_or coins i d).coin point) ≤ ordering_index (outpoint_cmp (get_or coins j d).coin point)
    by (inl e) = omega (arith, ap (λ (k : ℕ). ordering_index (outpoint_cmp (get_or coins k d).coin point)) e)
    by (inr (inl before)) = compared (get_or coins i d) (get_or coins j d) point (h i j d before below)
    by (inr (inr behind)) = absurd (omega (arith, up, behind))

-- a coin at an outpoint neither comes before it nor after it
not_before : (c : Candidate) (point : OutPoint) → c.coin ≡ point → outpoint_cmp c.coin point ≡ Less → ⊥
not_before c point at less = omega (arith, ap ordering_index (sym less ∙ (ap (λ (p : OutPoint). outpoint_cmp p point) at ∙ tied_itself outpoint_total point)))

not_behind : (c : Candidate) (point : OutPoint) → c.coin ≡ point → outpoint_cmp c.coin point ≡ Greater → ⊥
not_behind c point at more = omega (arith, ap ordering_index (sym more ∙ (ap (λ (p : OutPoint). outpoint_cmp p point) at ∙ tied_itself outpoint_total point)))

-- where a search ends without one, none is there
none_found : (coins : List Candidate) (c : Candidate) (i : ℕ) → AreSorted coins → IsBinarySearchResult (λ (d : Candidate). outpoint_cmp d.coin c.coin) coins (Err i) → HasCoinOf coins c → ⊥
none_found coins c i h parted (d, (k, below, is), at) = by (cases_lt k i)
  where
    parts : IsPartitionPoint (λ (e : Candidate). outpoint_cmp e.coin c.coin ≡ Less) (λ (e : Candidate). outpoint_cmp e.coin c.coin ≡ Greater) coins i
    parts = parted (rising coins c.coin h)

    by : (k < i) ⊎ (i ≤ k) → ⊥
    by (inl before) = not_before d c.coin at (subst (λ (e : Candidate). outpoint_cmp e.coin c.coin ≡ Less) is (parts.0 k d (omega arith) before))
    by (inr behind) = not_behind d c.coin at (subst (λ (e : Candidate). outpoint_cmp e.coin c.coin ≡ Greater) is (parts.1 k d behind below))

-- a search tells whether a coin is there
pub searched : (coins : List Candidate) (c : Candidate) (r : Result ℕ ℕ) (b : Bool) → AreSorted coins → IsSearchInRange r (length coins) → IsBinarySearchResult (λ (d : Candidate). outpoint_cmp d.coin c.coin) coins r → b ≡ is_ok r → (IsTrue b ↔ HasCoinOf coins c)
searched coins c (Ok i) b h below at is =
    let own : Candidate = get_or coins i c in
    (λ t. (own, (i, below, get_or_default coins i own c below), outpoint_equal own.coin c.coin (at c)), λ there. is)
searched coins c (Err i) b h bound parted is = (λ t. absurd (both_ways b is t), λ there. absurd (none_found coins c i h parted there))

-- ---- each is there

pub each_next : (coins given : List Candidate) (i : ℕ) (c : Candidate) → i < length given → c ≡ get_or given i c → (HasEach coins (drop i given) ↔ HasEach coins given) → HasCoinOf coins c → (HasEach coins (drop (i + 1) given) ↔ HasEach coins given)
each_next coins given i c below is h here =
    let same = drop_step given i c below is in (
      λ k. h.0 (subst (HasEach coins) (sym same) (All-cons (HasCoinOf coins) c (drop (i + 1) given) here k)),
      λ k. All-tail (HasCoinOf coins) c (drop (i + 1) given) (subst (HasEach coins) same (h.1 k)),
    )

pub each_halt : (coins given : List Candidate) (i : ℕ) (c : Candidate) → i < length given → c ≡ get_or given i c → (HasEach coins (drop i given) ↔ HasEach coins given) → (HasCoinOf coins c → ⊥) → HasEach coins given → ⊥
each_halt coins given i c below is h none k = none (All-head (HasCoinOf coins) c (drop (i + 1) given) (subst (HasEach coins) (drop_step given i c below is) (h.1 k)))

pub each_over : (coins given : List Candidate) (i : ℕ) → length given ≤ i → (HasEach coins (drop i given) ↔ HasEach coins given) → HasEach coins given
each_over coins given i end h = h.0 (subst (HasEach coins) (sym (drop_all i given end)) (All-nil (HasCoinOf coins)))
