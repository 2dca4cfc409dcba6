-- Coins that are spent together: those of a row's groups, and those that are given.
use Rattle.std.specs.Prelude.{ℕ, suc, ◌≡◌, ◌≢◌, ◌≤◌, ◌<◌, ◌+◌, List, [], ◌∷◌, ◌++◌, All, AllPairs, Contains, fold, length, sum_by, get_or, slice_index_or}
use Rattle.std.proofs.Common.{refl, sym, ap, subst, inl, inr, arith}
use Rattle.std.proofs.lemmas.List.Elements.{All-append, All-contains, All-head, All-nil, All-tail, Contains-append_cases, Contains-append_left, Contains-append_right, Contains-get_or}
use Rattle.std.proofs.lemmas.List.Kept.{AllPairs-cons}
use Rattle.std.proofs.lemmas.List.Sums.{sum_by-append, sum_by-cons}
use Rattle.std.specs.BTreeMap.{insert_entry}
use Rattle.std.specs.Map.{keys_of, values_of}
use Rattle.std.specs.Ordering.{match_ordering}
use Rattle.std.specs.declared.cmp.Ordering.{Ordering}
use Rattle.std.specs.declared.cmp.Ordering.TheVariants.{Less, Equal, Greater}
use Rattle.std.proofs.lemmas.Map.Views.{All-keys-insert_entry}
use Rattle.fund_base.proofs.OutpointLaws.{outpoint_equal}
use Rattle.fund_base.specs.Outpoints.{outpoint_cmp}
use Rattle.fund_base.specs.declared.outpoint.OutPoint.{OutPoint}
use Rattle.fund_steps.specs.Selection.{by_outpoint, in_order}
use Rattle.fund_base.proofs.Lists.{cons_cases, in_tail}
use Rattle.coin_candidates.specs.declared.candidate.Candidate.{Candidate}
use Rattle.output_groups.proofs.Members.{all_from, head_in}
use Rattle.output_groups.specs.Pool.{AreOnce}
use Rattle.pick_problem.specs.Problem.{Rising}
use Rattle.fund_plan.specs.Chosen.{members}

-- ---- coins of different outputs

abbrev pub AreApart : List Candidate → Type 0
AreApart coins = AllPairs (λ (a b : Candidate). a.coin ≢ b.coin) coins

abbrev pub Differs : Candidate → Candidate → Type 0
Differs a b = a.coin ≢ b.coin

apart_head : (c : Candidate) (cs : List Candidate) → AreApart (c ∷ cs) → All (Differs c) cs
apart_head c cs h k d below = h 0 (suc k) d (omega arith) (omega (arith, below))

apart_tail : (c : Candidate) (cs : List Candidate) → AreApart (c ∷ cs) → AreApart cs
apart_tail c cs h i j d up below = h (suc i) (suc j) d (omega arith) (omega (arith, below))

-- apart by themselves and from one another
pub apart_both : (xs ys : List Candidate) → AreApart xs → AreApart ys → ((a b : Candidate) → Contains xs a → Contains ys b → a.coin ≢ b.coin) → AreApart (xs ++ ys)
apart_both [] ys hx hy cross = hy
apart_both (x ∷ xs) ys hx hy cross =
    let here : All (Differs x) (xs ++ ys) = All-append (Differs x) xs ys (apart_head x xs hx) (all_from (Differs x) ys (λ b there. cross x b (head_in x xs) there)) in
    AllPairs-cons Differs x (xs ++ ys) here (apart_both xs ys (apart_tail x xs hx) hy (λ a b first second. cross a b (in_tail x xs a first) second))

-- ---- some of many

-- a list about one of its coins
record IsAbout (ys : List Candidate) (x : Candidate) : Type 0 where
  front : List Candidate
  rest : List Candidate
  parts : ys ≡ front ++ x ∷ rest

about : (ys : List Candidate) (x : Candidate) → Contains ys x → IsAbout ys x
about [] x h = absurd (omega (arith, h.1))
about (y ∷ ys) x h =
    elim (cons_cases y ys x h) [
      | inl same ↦ record { front = []; rest = ys; parts = ap (λ (z : Candidate). z ∷ ys) same }
      | inr there ↦ (let deep = about ys x there in record { front = y ∷ deep.front; rest = deep.rest; parts = ap (λ (zs : List Candidate). y ∷ zs) deep.parts })
    ]

-- another one of them stands before it or behind it
other_in : (front rest : List Candidate) (x y : Candidate) → x.coin ≢ y.coin → Contains (front ++ x ∷ rest) y → Contains (front ++ rest) y
other_in front rest x y other h =
    elim (Contains-append_cases front (x ∷ rest) y h) [
      | inl before ↦ Contains-append_left front rest y before
      | inr from ↦ elim (cons_cases x rest y from) [
        | inl same ↦ absurd (other (ap (λ (c : Candidate). c.coin) same))
        | inr behind ↦ Contains-append_right front rest y behind
      ]
    ]

-- coins of different outputs, all of them among others, are together no more than these
pub some_sum : (f : Candidate → ℕ) (xs ys : List Candidate) → AreApart xs → All (Contains ys) xs → sum_by f xs ≤ sum_by f ys
some_sum f [] ys apart held = omega arith
some_sum f (x ∷ xs) ys apart held =
    let at = about ys x (All-head (Contains ys) x xs held) in
    let others : All (Contains (at.front ++ at.rest)) xs =
    all_from (Contains (at.front ++ at.rest)) xs
    (λ y there.
    other_in at.front at.rest x y (All-contains (Differs x) xs y (apart_head x xs apart) there)
    (subst (λ (zs : List Candidate). Contains zs y) at.parts (All-contains (Contains ys) xs y (All-tail (Contains ys) x xs held) there))) in
    let less = some_sum f xs (at.front ++ at.rest) (apart_tail x xs apart) others in
    omega (
      arith,
      less,
      sum_by-cons f x xs,
      ap (sum_by f) at.parts,
      sum_by-append f at.front (x ∷ at.rest),
      sum_by-append f at.front at.rest,
      sum_by-cons f x at.rest,
    )

pub ones : (xs : List Candidate) → sum_by (λ (c : Candidate). 1) xs ≡ length xs
ones [] = refl
ones (x ∷ xs) = omega (arith, ones xs, sum_by-cons (λ (c : Candidate). 1) x xs)

pub some_count : (xs ys : List Candidate) → AreApart xs → All (Contains ys) xs → length xs ≤ length ys
some_count xs ys apart held = omega (arith, some_sum (λ (c : Candidate). 1) xs ys apart held, ones xs, ones ys)

-- ---- coins in the order of their outpoints

abbrev Entries : Type 0
Entries = List (OutPoint × Candidate)

abbrev ins : Entries → Candidate → Entries
ins es c = insert_entry outpoint_cmp es c.coin c

by_cmp : {X : Type 0} (o : Ordering) (a b d : X) (P : X → Type 0) → (o ≡ Less → P a) → (o ≡ Equal → P b) → (o ≡ Greater → P d) → P (match_ordering o a b d)
by_cmp Less a b d P f g h = f refl
by_cmp Equal a b d P f g h = g refl
by_cmp Greater a b d P f g h = h refl

abbrev Lacks : OutPoint → OutPoint → Type 0
Lacks point k = k ≢ point

-- one more output
sum_new : (f : Candidate → ℕ) (es : Entries) (c : Candidate) → All (Lacks c.coin) (keys_of es) → sum_by f (values_of (ins es c)) ≡ sum_by f (values_of es) + f c
sum_new f [] c fresh = omega (arith, sum_by-cons f c [])
sum_new f (e ∷ es) c fresh =
    let old = sum_by-cons f e.1 (values_of es) in
    by_cmp (outpoint_cmp c.coin e.0) ((c.coin, c) ∷ e ∷ es) ((e.0, c) ∷ es) (e ∷ ins es c) (λ (x : Entries). sum_by f (values_of x) ≡ sum_by f (values_of (e ∷ es)) + f c)
    (λ _. omega (arith, sum_by-cons f c (values_of (e ∷ es))))
    (λ q. absurd (All-head (Lacks c.coin) e.0 (keys_of es) fresh (sym (outpoint_equal c.coin e.0 q))))
    (λ _. omega (arith, old, sum_by-cons f e.1 (values_of (ins es c)), sum_new f es c (All-tail (Lacks c.coin) e.0 (keys_of es) fresh)))

sum_all : (f : Candidate → ℕ) (es : Entries) (coins : List Candidate) → AreApart coins → All (λ (c : Candidate). All (Lacks c.coin) (keys_of es)) coins → sum_by f (values_of (fold ins es coins)) ≡ sum_by f (values_of es) + sum_by f coins
sum_all f es [] apart fresh = omega arith
sum_all f es (c ∷ coins) apart fresh =
    let P : Candidate → Type 0 = λ d. All (Lacks d.coin) (keys_of es) in
    let here : All (Lacks c.coin) (keys_of es) = All-head P c coins fresh in
    let others : All (λ (d : Candidate). All (Lacks d.coin) (keys_of (ins es c))) coins =
    all_from (λ (d : Candidate). All (Lacks d.coin) (keys_of (ins es c))) coins
    (λ d there.
    All-keys-insert_entry outpoint_cmp c.coin c (Lacks d.coin) es (All-contains P coins d (All-tail P c coins fresh) there) (All-contains (Differs c) coins d (apart_head c coins apart) there)) in
    omega (arith, sum_all f (ins es c) coins (apart_tail c coins apart) others, sum_new f es c here, sum_by-cons f c coins)

-- coins of different outputs come to the same in that order
pub order_sum : (f : Candidate → ℕ) (coins : List Candidate) → AreApart coins → sum_by f (in_order coins) ≡ sum_by f coins
unfolding by_outpoint
order_sum f coins apart = omega (arith, sum_all f [] coins apart (λ k d below. All-nil (Lacks (get_or coins k d).coin)))

-- ---- coins of groups at places

group_at : (groups : List (List Candidate)) (j : ℕ) → j < length groups → Contains groups (slice_index_or groups j [])
group_at groups j below = Contains-get_or groups j [] below

-- where a coin of them stands
record StandsIn (groups : List (List Candidate)) (t : ℕ) (c : Candidate) : Type 0 where
  place : ℕ
  low : t ≤ place
  within : place < length groups
  held : Contains (slice_index_or groups place []) c

-- a coin of them is of a group at one of these places
member_of : (groups : List (List Candidate)) (t : ℕ) (places : List ℕ) (c : Candidate) → Rising (length groups) t places → Contains (members groups places) c → StandsIn groups t c
member_of groups t [] c rising h = absurd (omega (arith, h.1))
member_of groups t (j ∷ places) c rising h =
    elim (Contains-append_cases (slice_index_or groups j []) (members groups places) c h) [
      | inl here ↦ record { place = j; low = rising.0; within = rising.1; held = here }
      | inr later ↦ (let deep = member_of groups (j + 1) places c rising.2 later in record { place = deep.place; low = omega (arith, deep.low, rising.0); within = deep.within; held = deep.held })
    ]

-- they are of different outputs
pub members_apart : (cs : List Candidate) (groups : List (List Candidate)) (t : ℕ) (places : List ℕ) → AreOnce cs groups → Rising (length groups) t places → AreApart (members groups places)
members_apart cs groups t [] once rising = λ i j d up below. absurd (omega (arith, below))
members_apart cs groups t (j ∷ places) once rising =
    let here = slice_index_or groups j [] in
    apart_both here (members groups places)
    (once.within j [] rising.1)
    (members_apart cs groups (j + 1) places once rising.2)
    (λ a b first second.
    let deep = member_of groups (j + 1) places b rising.2 second in
    once.between j deep.place [] (omega (arith, deep.low)) deep.within a b first deep.held)

pub members_held : (cs : List Candidate) (groups : List (List Candidate)) (t : ℕ) (places : List ℕ) → AreOnce cs groups → Rising (length groups) t places → All (Contains cs) (members groups places)
members_held cs groups t [] once rising = All-nil (Contains cs)
members_held cs groups t (j ∷ places) once rising =
    All-append (Contains cs) (slice_index_or groups j []) (members groups places) (once.held j [] rising.1) (members_held cs groups (j + 1) places once rising.2)

-- each of them is of a group
pub members_grouped : (groups : List (List Candidate)) (t : ℕ) (places : List ℕ) → Rising (length groups) t places → All (λ (c : Candidate). (g : List Candidate) × Contains groups g × Contains g c) (members groups places)
members_grouped groups t places rising =
    all_from (λ (c : Candidate). (g : List Candidate) × Contains groups g × Contains g c) (members groups places)
    (λ c there. let at = member_of groups t places c rising there in (slice_index_or groups at.place [], group_at groups at.place at.within, at.held))
