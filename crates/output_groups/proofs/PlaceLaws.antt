-- Where a coin stands: in one place of a list, in one hundred, and so in one group.
use Rattle.std.specs.Prelude.{◌≡◌, ◌≢◌, ℕ, ◌+◌, ◌*◌, ◌<◌, true, List, [], ◌∷◌, map, take, drop, AllPairs, Contains, length, get_or}
use Rattle.std.specs.Int.{div_ceil}
use Rattle.std.specs.List.{range_with_len}
use Rattle.std.proofs.Common.{sym, subst, ap, ◌∙◌, arith, inl, inr}
use Rattle.std.proofs.lemmas.Bool.{cases_lt}
use Rattle.std.proofs.lemmas.Grind.{common_steps}
use Rattle.std.proofs.lemmas.List.{length-take, length-drop}
use Rattle.std.proofs.lemmas.List.Elements.{All-contains}
use Rattle.std.proofs.lemmas.Slice.Eq.{bytes_eq-Decides}
use Rattle.fund_base.proofs.Lists.{cons_cases}
use Rattle.coin_candidates.specs.declared.candidate.Candidate.{Candidate}
use Rattle.output_groups.specs.Forming.{IsGrouping, alone, hundred, of_script, part_at, parts_of, pays_to, starts_with}
use Rattle.output_groups.specs.Part.{Part}
use Rattle.output_groups.proofs.GroupLaws.{first_script, part_placed, starts_first}
use Rattle.output_groups.proofs.Members.{from_filter, from_map, none_in}

abbrev pub AreApart : List Candidate → Type 0
AreApart cs = AllPairs (λ (a b : Candidate). a.coin ≢ b.coin) cs

pub one_place : (cs : List Candidate) (i j : ℕ) (d : Candidate) → AreApart cs → i < length cs → j < length cs → (get_or cs i d).coin ≡ (get_or cs j d).coin → i ≡ j
one_place cs i j d apart within within_too same =
    elim (cases_lt i j) [
      | inl before ↦ absurd (apart i j d before within_too same)
      | inr upto ↦ elim (cases_lt j i) [ inl after ↦ absurd (apart j i d after within (sym same)) | inr both ↦ omega arith ]
    ]

pub get_or-any : (cs : List Candidate) (i : ℕ) (d e : Candidate) → i < length cs → get_or cs i d ≡ get_or cs i e
get_or-any cs i d e within = grind (arith, common_steps)

-- coins with one outpoint are one
pub one_coin : (cs : List Candidate) (a b : Candidate) → AreApart cs → Contains cs a → Contains cs b → a.coin ≡ b.coin → a ≡ b
one_coin cs a b apart held held_too same =
    let within : held_too.0 < length cs = held_too.1 in
    let here : get_or cs held.0 a ≡ a = held.2 in
    let there : get_or cs held_too.0 a ≡ b = get_or-any cs held_too.0 a b within ∙ held_too.2 in
    let place : held.0 ≡ held_too.0 = one_place cs held.0 held_too.0 a apart held.1 within (ap (λ (c : Candidate). c.coin) here ∙ same ∙ ap (λ (c : Candidate). c.coin) (sym there)) in
    sym here ∙ ap (λ n. get_or cs n a) place ∙ there

-- where a place of a piece stands in the list
pub record StandsAt (cs : List Candidate) (n m i : ℕ) (d : Candidate) : Type 0 where
  pub short : i < n
  pub within : m + i < length cs
  pub same : get_or (take n (drop m cs)) i d ≡ get_or cs (m + i) d

pub stands_at : (cs : List Candidate) (n m i : ℕ) (d : Candidate) → i < length (take n (drop m cs)) → StandsAt cs n m i d
stands_at cs n m i d below =
    let short : i < n = omega (arith, below, length-take n (drop m cs)) in
    let within : m + i < length cs = omega (arith, below, length-take n (drop m cs), length-drop m cs) in
    record { short = short; within = within; same = grind (arith, common_steps) }

-- a coin stands in one hundred
pub one_hundred : (cs : List Candidate) (j k : ℕ) (c : Candidate) → AreApart cs → Contains (hundred cs j) c → Contains (hundred cs k) c → j ≡ k
one_hundred cs j k c apart held held_too =
    let first = stands_at cs 100 (100 * j) held.0 c held.1 in
    let second = stands_at cs 100 (100 * k) held_too.0 c held_too.1 in
    let here : get_or cs (100 * j + held.0) c ≡ c = sym first.same ∙ held.2 in
    let there : get_or cs (100 * k + held_too.0) c ≡ c = sym second.same ∙ held_too.2 in
    let place : 100 * j + held.0 ≡ 100 * k + held_too.0 = one_place cs (100 * j + held.0) (100 * k + held_too.0) c apart first.within second.within (ap (λ (x : Candidate). x.coin) (here ∙ sym there)) in
    omega (arith, place, first.short, second.short)

pub in_hundred : (cs : List Candidate) (k : ℕ) (c : Candidate) → Contains (hundred cs k) c → Contains cs c
in_hundred cs k c held =
    let at = stands_at cs 100 (100 * k) held.0 c held.1 in
    (100 * k + held.0, at.within, sym at.same ∙ held.2)

pub place_of : (cs : List Candidate) (p : Part) → Contains (parts_of cs) p → (k : ℕ) × (part_at cs k ≡ p)
unfolding parts_of
place_of cs p held =
    let found = from_map (part_at cs) (range_with_len 0 (div_ceil (length cs) 100)) p held in
    (found.0, found.2)

-- the one coin of a list
pub only : (x a : Candidate) → Contains (x ∷ []) a → x ≡ a
only x a held = elim (cons_cases x [] a held) [ inl e ↦ e | inr none ↦ absurd (none_in a none) ]

-- what a group by itself is
pub single_of : (cs : List Candidate) (p : Part) (a : Candidate) → Contains (map alone cs) p → Contains p.coins a → Contains cs a × (p ≡ alone a)
single_of cs p a held has =
    let found = from_map alone cs p held in
    let coins : found.0 ∷ [] ≡ p.coins = ap (λ (x : Part). x.coins) found.2 in
    let e : found.0 ≡ a = only found.0 a (subst (λ (g : List Candidate). Contains g a) (sym coins) has) in
    (subst (λ (x : Candidate). Contains cs x) e found.1, sym found.2 ∙ ap alone e)

-- the hundred of its script that a group is, by one of its coins
pub record IsHundred (cs : List Candidate) (p : Part) (a : Candidate) : Type 0 where
  pub place : ℕ
  pub held : Contains cs a
  pub part : p ≡ part_at (of_script a.script cs) place
  pub starts : starts_with a.script p.coins ≡ true

pub hundred_of : (cs : List Candidate) (parts : List Part) (p : Part) (a : Candidate) → IsGrouping cs parts → Contains parts p → Contains p.coins a → IsHundred cs p a
hundred_of cs parts p a grouping held has =
    let script = first_script p.coins in
    let found = place_of (of_script script cs) p (part_placed cs parts p grouping held) in
    let is : p.coins ≡ hundred (of_script script cs) found.0 = ap (λ (x : Part). x.coins) (sym found.1) in
    let within = from_filter (pays_to script) cs a (in_hundred (of_script script cs) found.0 a (subst (λ (g : List Candidate). Contains g a) is has)) in
    let same : script ≡ a.script = (bytes_eq-Decides script a.script).0 within.1 in
    let filled : 0 < length p.coins = All-contains (λ (q : Part). 0 < length q.coins) parts p grouping.filled held in
    record {
      place = found.0;
      held = within.0;
      part = sym found.1 ∙ ap (λ (s : List ℕ). part_at (of_script s cs) found.0) same;
      starts = subst (λ (s : List ℕ). starts_with s p.coins ≡ true) same (starts_first p.coins filled);
    }
