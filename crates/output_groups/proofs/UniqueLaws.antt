-- Groups that share an outpoint are one, so the pool of a row is one.
use Rattle.std.specs.Prelude.{◌≡◌, ◌≢◌, ℕ, ◌<◌, ◌⊎◌, Bool, true, false, List, [], ◌∷◌, map, filter, fold, Contains, length, count_by, if◌then◌else◌}
use Rattle.std.specs.Ordering.{is_lt}
use Rattle.std.specs.declared.cmp.Ordering.TheVariants.{Equal}
use Rattle.std.proofs.Common.{refl, sym, subst, cond, ap, ◌∙◌, arith, inl, inr}
use Rattle.std.proofs.lemmas.List.Kept.{AllPairs-filter}
use Rattle.std.proofs.lemmas.List.Sorted.{sum_by-IsPermutation, Contains-permutation, IsPermutation-sym}
use Rattle.std.proofs.lemmas.List.Elements.{All-contains}
use Rattle.fund_base.proofs.Lists.{in_tail}
use Rattle.fund_base.specs.Outpoints.{outpoint_cmp}
use Rattle.coin_candidates.specs.Candidates.{AreCandidates}
use Rattle.coin_candidates.specs.declared.candidate.Candidate.{Candidate}
use Rattle.fund_base.specs.declared.outpoint.OutPoint.{OutPoint}
use Rattle.pick_problem.specs.declared.item.Item.{Item}
use Rattle.output_groups.specs.Forming.{AreParts, alone, hundred, of_script, part_at, pays_to}
use Rattle.output_groups.specs.Measures.{IsGroup, is_useful, least_of, lesser}
use Rattle.output_groups.specs.PlainPool.{PlainPool}
use Rattle.output_groups.specs.Pool.{IsPool, group_cmp, item_of, keeps}
use Rattle.output_groups.specs.Part.{Part}
use Rattle.output_groups.specs.declared.rows.Row.{Row}
use Rattle.output_groups.proofs.CountLaws.{same_kept}
use Rattle.output_groups.proofs.GroupLaws.{parts_fine}
use Rattle.output_groups.proofs.Members.{from_filter, from_map, head_in}
use Rattle.output_groups.proofs.PlaceLaws.{AreApart, hundred_of, one_coin, one_hundred, single_of}
use Rattle.output_groups.proofs.OrderLaws.{group_order, group_total, sorted_unique, tie_least, tied}

chosen : (b : Bool) (x y : OutPoint) → ((if b then y else x) ≡ x) ⊎ ((if b then y else x) ≡ y)
chosen true x y = inr refl
chosen false x y = inl refl

lesser_cases : (a b : OutPoint) → (lesser a b ≡ a) ⊎ (lesser a b ≡ b)
lesser_cases a b = chosen (is_lt (outpoint_cmp b a)) a b

least_from : (a : OutPoint) (cs : List Candidate) → (fold (λ m (c : Candidate). lesser m c.coin) a cs ≡ a) ⊎ ((c : Candidate) × Contains cs c × (c.coin ≡ fold (λ m (x : Candidate). lesser m x.coin) a cs))
least_from a [] = inl refl
least_from a (c ∷ cs) =
    let next = lesser a c.coin in
    elim (least_from next cs) [
      | inl e ↦ elim (lesser_cases a c.coin) [ inl old ↦ inl (e ∙ old) | inr new ↦ inr (c, head_in c cs, sym (e ∙ new)) ]
      | inr found ↦ inr (found.0, in_tail c cs found.0 found.1, found.2)
    ]

-- the least outpoint is that of a coin
pub least_in : (g : List Candidate) → 0 < length g → (c : Candidate) × Contains g c × (c.coin ≡ least_of g)
least_in [] some = absurd (omega (arith, some))
least_in (c ∷ cs) some =
    elim (least_from c.coin cs) [
      | inl e ↦ (c, head_in c cs, sym e)
      | inr found ↦ (found.0, in_tail c cs found.0 found.1, found.2)
    ]

-- groups that share an outpoint are one
same_part : (group : Bool) (cs : List Candidate) (parts others : List Part) (p q : Part) (a b : Candidate) → AreApart cs → AreParts group cs parts → AreParts group cs others → Contains parts p → Contains others q → Contains p.coins a → Contains q.coins b → a.coin ≡ b.coin → p ≡ q
same_part true cs parts others p q a b apart formed formed_too held held_too has has_too same =
    let at = hundred_of cs parts p a formed held has in
    let at_too = hundred_of cs others q b formed_too held_too has_too in
    let e : a ≡ b = one_coin cs a b apart at.held at_too.held same in
    let mine = of_script a.script cs in
    let is_too : q ≡ part_at mine at_too.place = at_too.part ∙ ap (λ (c : Candidate). part_at (of_script c.script cs) at_too.place) (sym e) in
    let coins : Part → List Candidate = λ x. x.coins in
    let in_first : Contains (hundred mine at.place) a = subst (λ (g : List Candidate). Contains g a) (ap coins at.part) has in
    let in_second : Contains (hundred mine at_too.place) a = subst (λ (g : List Candidate). Contains g a) (ap coins is_too) (subst (λ (c : Candidate). Contains q.coins c) (sym e) has_too) in
    let place : at.place ≡ at_too.place = one_hundred mine at.place at_too.place a (AllPairs-filter (λ (x y : Candidate). x.coin ≢ y.coin) (pays_to a.script) cs apart) in_first in_second in
    at.part ∙ ap (part_at mine) place ∙ sym is_too
same_part false cs parts others p q a b apart formed formed_too held held_too has has_too same =
    let at = single_of cs p a (subst (λ (ps : List Part). Contains ps p) formed held) has in
    let at_too = single_of cs q b (subst (λ (ps : List Part). Contains ps q) formed_too held_too) has_too in
    at.1 ∙ ap alone (one_coin cs a b apart at.0 at_too.0 same) ∙ sym at_too.1

-- the order tells the groups of useful candidates apart
pub parts_tie : (group : Bool) (rate long_term : ℕ) (cs : List Candidate) (parts others : List Part) → AreCandidates cs → AreParts group (filter (is_useful rate) cs) parts → AreParts group (filter (is_useful rate) cs) others
    → (p q : Part) → Contains parts p → Contains others q → group_cmp rate long_term p.coins q.coins ≡ Equal → p ≡ q
parts_tie group rate long_term cs parts others are formed formed_too p q held held_too tie =
    let useful = filter (is_useful rate) cs in
    let apart : AreApart useful = AllPairs-filter (λ (x y : Candidate). x.coin ≢ y.coin) (is_useful rate) cs are.distinct in
    let Fine : Part → Type 0 = λ x. IsGroup rate x.coins in
    let first : Fine p = All-contains Fine parts p (parts_fine rate group cs parts are.each formed) held in
    let second : Fine q = All-contains Fine others q (parts_fine rate group cs others are.each formed_too) held_too in
    let a = least_in p.coins first.some in
    let b = least_in q.coins second.some in
    let outpoint : (a.0).coin ≡ (b.0).coin = a.2 ∙ tie_least rate long_term p.coins q.coins tie ∙ sym b.2 in
    same_part group useful parts others p q a.0 b.0 apart formed formed_too held held_too a.1 b.1 outpoint

-- the part that a pool's group is
pub record IsPart (parts : List Part) (g : List Candidate) : Type 0 where
  pub part : Part
  pub held : Contains parts part
  pub coins : part.coins ≡ g

part_of : (group : Bool) (row : Row) (rate long_term : ℕ) (cs : List Candidate) (p : PlainPool) (g : List Candidate) → (is : IsPool group row rate long_term cs p) → Contains p.groups g → IsPart is.are_kept.parts g
part_of group row rate long_term cs p g is held =
    let parts = is.are_kept.parts in
    let kept : Contains is.kept g = Contains-permutation p.groups is.kept g (IsPermutation-sym is.kept p.groups is.moved) held in
    let mapped : Contains (map (λ (x : Part). x.coins) (filter (keeps row) parts)) g = subst (λ (gs : List (List Candidate)). Contains gs g) is.are_kept.kept_are kept in
    let found = from_map (λ (x : Part). x.coins) (filter (keeps row) parts) g mapped in
    record { part = found.0; held = (from_filter (keeps row) parts found.0 found.1).0; coins = found.2 }

-- the order tells the groups of a row's pools apart
pub ties_are_one : (group : Bool) (row : Row) (rate long_term : ℕ) (cs : List Candidate) (p q : PlainPool) → AreCandidates cs → IsPool group row rate long_term cs p → IsPool group row rate long_term cs q → (g h : List Candidate) → Contains p.groups g → Contains q.groups h → group_cmp rate long_term g h ≡ Equal → g ≡ h
ties_are_one group row rate long_term cs p q are is is_too g h held held_too tie =
    let first = part_of group row rate long_term cs p g is held in
    let second = part_of group row rate long_term cs q h is_too held_too in
    let tie_too : group_cmp rate long_term (first.part).coins (second.part).coins ≡ Equal =
    ap (λ (x : List Candidate). group_cmp rate long_term x (second.part).coins) first.coins ∙ ap (group_cmp rate long_term g) second.coins ∙ tie in
    let one : first.part ≡ second.part =
    parts_tie group rate long_term cs is.are_kept.parts is_too.are_kept.parts are is.are_kept.formed is_too.are_kept.formed first.part second.part first.held second.held tie_too in
    sym first.coins ∙ ap (λ (x : Part). x.coins) one ∙ second.coins

pub same_pool : (p q : PlainPool) → p.items ≡ q.items → p.groups ≡ q.groups → p ≡ q
same_pool p q items groups =
    let one : PlainPool = record { items = p.items; groups = q.groups } in
    let first : p ≡ one = ap (λ (gs : List (List Candidate)). let x : PlainPool = record { items = p.items; groups = gs } in x) groups in
    let second : one ≡ q = ap (λ (is : List Item). let x : PlainPool = record { items = is; groups = q.groups } in x) items in
    first ∙ second

pub pool_unique : (group : Bool) (row : Row) (rate long_term : ℕ) (cs : List Candidate) (p q : PlainPool) → AreCandidates cs → IsPool group row rate long_term cs p → IsPool group row rate long_term cs q → p ≡ q
pool_unique group row rate long_term cs p q are is is_too =
    let same = same_kept group row rate cs is.kept is_too.kept is.are_kept is_too.are_kept in
    let lt : List Candidate → List Candidate → Bool = λ g h. is_lt (group_cmp rate long_term g h) in
    let counts : (t : List Candidate → Bool) → count_by t p.groups ≡ count_by t q.groups =
    λ t. sum_by-IsPermutation (λ g. cond (t g) 1 0) is.kept p.groups is.moved ∙ same.counts t ∙ sym (sum_by-IsPermutation (λ g. cond (t g) 1 0) is_too.kept q.groups is_too.moved) in
    let groups : p.groups ≡ q.groups =
    sorted_unique lt (group_order rate long_term) p.groups q.groups is.order is_too.order counts
    (λ g h held held_too below above.
    ties_are_one group row rate long_term cs p q are is is_too g h held held_too
    (tied (group_cmp rate long_term g h) (group_cmp rate long_term h g) ((group_total rate long_term).antisymm g h) below above)) in
    same_pool p q (is.items_are ∙ ap (map (item_of rate long_term)) groups ∙ sym is_too.items_are) groups
