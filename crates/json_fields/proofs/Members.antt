-- Names in lists, and the least of them.
use Rattle.std.proofs.Common.{◌≡◌, ◌≢◌, ℕ, zero, suc, ◌<◌, Bool, true, false, cond, ◌||◌, List, [], ◌∷◌, length, get_or, filter, fold, bytes_eq, is_some, Option, Some, None, Contains, subst, nat_cmp, refl, sym, ap, ◌∙◌, true≢false, arith, Ordering, Less, Equal, Greater, is_eq}
use Rattle.std.proofs.lemmas.Cmp.{nat_list_cmp_total, tied_itself}
use Rattle.std.proofs.lemmas.List.Elements.{All-contains, All-contains_itself, All-filter, filter_passes}
use Rattle.std.proofs.lemmas.Map.Text.{is_eq-slice_cmp}
use Rattle.std.proofs.lemmas.Slice.Eq.{bytes_eq-Decides}
use Rattle.std.specs.Cmp.Lexicographic.{slice_cmp}
use Rattle.std.specs.Ordering.{match_ordering, ordering_reverse}
use Rattle.std.proofs.lemmas.Bool.{or_right}
use Rattle.fund_base.proofs.Lists.{in_tail}
use Rattle.serde_json.specs.Data.{Data, Members, no_members, member}
use Rattle.serde_json.specs.Find.{get_member}
use Rattle.json_fields.specs.Fields.{names_of, is_among, lesser, least}

abbrev cmp : List ℕ → List ℕ → Ordering
cmp a b = slice_cmp nat_cmp a b

among_at : (names : List (List ℕ)) (name : List ℕ) (k : ℕ) → k < length names → get_or names k name ≡ name → is_among names name ≡ true
among_at [] name k lt e = absurd (omega arith)
among_at (n ∷ ns) name zero lt e = ap (λ b. b || is_among ns name) ((bytes_eq-Decides name n).1 (sym e))
among_at (n ∷ ns) name (suc k) lt e = or_right (bytes_eq name n) (is_among ns name) (among_at ns name k (omega arith) e)

-- the test of a name in a list is exact
pub is_among-Contains : (names : List (List ℕ)) (name : List ℕ) → Contains names name → is_among names name ≡ true
is_among-Contains names name h = among_at names name h.0 h.1 h.2

pub Contains-is_among : (names : List (List ℕ)) (name : List ℕ) → is_among names name ≡ true → Contains names name
Contains-is_among [] name h = absurd (true≢false (sym h))
Contains-is_among (n ∷ ns) name h = by (bytes_eq name n) refl h (Contains-is_among ns name)
  where
    by : (b : Bool) → bytes_eq name n ≡ b → (b || is_among ns name) ≡ true → (is_among ns name ≡ true → Contains ns name) → Contains (n ∷ ns) name
    by true e either rest = (zero, omega arith, sym ((bytes_eq-Decides name n).0 e))
    by false e either rest = in_tail n ns name (rest either)

or_some : (o : Ordering) (x : Data) (rest : Option Data) → is_some (match_ordering o rest (Some x) rest) ≡ (is_eq o || is_some rest)
or_some Less x rest = refl
or_some Equal x rest = refl
or_some Greater x rest = refl

-- a member is found exactly where its name stands
pub is_some-get_member : (name : List ℕ) (ms : Members) → is_some (get_member name ms) ≡ is_among (names_of ms) name
is_some-get_member name no_members = refl
is_some-get_member name (member l x ms) = or_some (cmp name l) x (get_member name ms) ∙ ap (λ b. b || is_some (get_member name ms)) (is_eq-slice_cmp name l) ∙ ap (λ b. bytes_eq name l || b) (is_some-get_member name ms)

kept_at : (p : List ℕ → Bool) (names : List (List ℕ)) (name : List ℕ) (k : ℕ) → k < length names → get_or names k name ≡ name → p name ≡ true → Contains (filter p names) name
kept_at p [] name k lt e passes = absurd (omega arith)
kept_at p (n ∷ ns) name zero lt e passes = by (p n) (ap p e ∙ passes)
  where
    by : (b : Bool) → b ≡ true → Contains (cond b (n ∷ filter p ns) (filter p ns)) name
    by true same = (zero, omega arith, e)
    by false same = absurd (true≢false (sym same))
kept_at p (n ∷ ns) name (suc k) lt e passes = by (p n) (kept_at p ns name k (omega arith) e passes)
  where
    by : (b : Bool) → Contains (filter p ns) name → Contains (cond b (n ∷ filter p ns) (filter p ns)) name
    by true rest = in_tail n (filter p ns) name rest
    by false rest = rest

-- what passes and stands in a list is kept
pub Contains-filter : (p : List ℕ → Bool) (names : List (List ℕ)) (name : List ℕ) → Contains names name → p name ≡ true → Contains (filter p names) name
Contains-filter p names name h passes = kept_at p names name h.0 h.1 h.2 passes

-- and what is kept does both
pub from_filter : (p : List ℕ → Bool) (names : List (List ℕ)) (name : List ℕ) → Contains (filter p names) name → Contains names name × (p name ≡ true)
from_filter p names name h = (All-contains (Contains names) (filter p names) name (All-filter p (Contains names) names (All-contains_itself names)) h, All-contains (λ n. p n ≡ true) (filter p names) name (filter_passes p names) h)

-- the least of names isn't above the first of them
least_head : (a : List ℕ) (names : List (List ℕ)) → cmp a (fold lesser a names) ≢ Less
least_head a [] = λ h. cc (h, tied_itself nat_list_cmp_total a)
least_head a (n ∷ ns) = by (cmp a n) refl (least_head a ns) (least_head n ns)
  where
    by : (o : Ordering) → cmp a n ≡ o → cmp a (fold lesser a ns) ≢ Less → cmp n (fold lesser n ns) ≢ Less → cmp a (fold lesser (match_ordering o a a n) ns) ≢ Less
    by Less e first second = first
    by Equal e first second = first
    by Greater e first second = λ h. second (nat_list_cmp_total.trans n a (fold lesser n ns) (nat_list_cmp_total.antisymm n a ∙ ap ordering_reverse e) h)

-- nor above any other
least_other : (a : List ℕ) (names : List (List ℕ)) (k : ℕ) (d : List ℕ) → k < length names → cmp (get_or names k d) (fold lesser a names) ≢ Less
least_other a [] k d lt = absurd (omega arith)
least_other a (n ∷ ns) zero d lt = by (cmp a n) refl
  where
    by : (o : Ordering) → cmp a n ≡ o → cmp n (fold lesser (match_ordering o a a n) ns) ≢ Less
    by Less e = λ h. least_head a ns (nat_list_cmp_total.trans a n (fold lesser a ns) e h)
    by Equal e = λ h. least_head a ns (nat_list_cmp_total.congr a n (fold lesser a ns) e ∙ h)
    by Greater e = least_head n ns
least_other a (n ∷ ns) (suc k) d lt = least_other (lesser a n) ns k d (omega arith)

-- and it is one of them
least_stands : (a : List ℕ) (names : List (List ℕ)) → Contains (a ∷ names) (fold lesser a names)
least_stands a [] = (zero, omega arith, refl)
least_stands a (n ∷ ns) = by (cmp a n) (least_stands a ns) (least_stands n ns)
  where
    among : (least : List ℕ) → Contains (a ∷ ns) least → Contains (a ∷ n ∷ ns) least
    among least h = at h.0 h.1 h.2
      where
        at : (k : ℕ) → k < length (a ∷ ns) → get_or (a ∷ ns) k least ≡ least → Contains (a ∷ n ∷ ns) least
        at zero lt e = (zero, omega arith, e)
        at (suc k) lt e = (suc (suc k), omega arith, e)

    by : (o : Ordering) → Contains (a ∷ ns) (fold lesser a ns) → Contains (n ∷ ns) (fold lesser n ns) → Contains (a ∷ n ∷ ns) (fold lesser (match_ordering o a a n) ns)
    by Less first second = among (fold lesser a ns) first
    by Equal first second = among (fold lesser a ns) first
    by Greater first second = in_tail a (n ∷ ns) (fold lesser n ns) second

-- the least of names stands among them, and none is less
pub least-Contains : (names : List (List ℕ)) (name : List ℕ) → least names ≡ Some name → Contains names name
least-Contains [] name h = absurd (cc h)
least-Contains (n ∷ ns) name h = let e : fold lesser n ns ≡ name = cc h in subst (λ m. Contains (n ∷ ns) m) e (least_stands n ns)

pub least_below : (names : List (List ℕ)) (name other : List ℕ) → least names ≡ Some name → Contains names other → cmp other name ≢ Less
least_below [] name other h c = absurd (cc h)
least_below (n ∷ ns) name other h c = let e : fold lesser n ns ≡ name = cc h in subst (λ m. cmp other m ≢ Less) e (at c.0 c.1 c.2)
  where
    at : (k : ℕ) → k < length (n ∷ ns) → get_or (n ∷ ns) k other ≡ other → cmp other (fold lesser n ns) ≢ Less
    at zero lt is = subst (λ m. cmp m (fold lesser n ns) ≢ Less) is (least_head n ns)
    at (suc k) lt is = subst (λ m. cmp m (fold lesser n ns) ≢ Less) is (least_other n ns k other (omega arith))

-- there is no least only of no names
pub least_none : (names : List (List ℕ)) (name : List ℕ) → least names ≡ None → Contains names name → ⊥
least_none [] name h c = let lt = c.1 in absurd (omega arith)
least_none (n ∷ ns) name h c = absurd (cc h)
