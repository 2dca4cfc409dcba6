-- The fault of a history: of its confirmed coins, and of the number of all.
use Rattle.std.proofs.Common.{◌≡◌, ◌∙◌, ℕ, ◌+◌, ◌<◌, ◌≤◌, Bool, true, false, cond, List, [], ◌∷◌, ◌++◌, length, Option, Some, None, refl, sym, ap, arith}
use Rattle.std.specs.Prelude.{nat_lt}
use Rattle.std.specs.List.{list_any}
use Rattle.std.specs.Option.{option_or}
use Rattle.std.proofs.lemmas.Bool.{le-ltb, lt-ltb, ltb-false, ltb-true}
use Rattle.std.proofs.lemmas.List.{length-append, length-map}
use Rattle.fund_base.specs.Outpoints.{same_outpoint}
use Rattle.fund_base.specs.declared.outpoint.OutPoint.{OutPoint}
use Rattle.coin_book.specs.Coins.{Made, confirmed_made, made_of, pending_made}
use Rattle.coin_book.specs.Faults.{fault_behind, fault_of, full_at, points}
use Rattle.coin_book.specs.History.{History}
use Rattle.coin_book.specs.Invariant.{HoldsCoins, made_at}
use Rattle.coin_book.specs.declared.held.Held.{Held}
use Rattle.coin_book.specs.declared.fault.BookFault.{BookFault}
use Rattle.coin_book.specs.declared.fault.BookFault.TheVariants.{Full, RepeatCoin}

-- where the confirmed coins have a fault, it is the history's
pub fault_first : (h : History) (e : BookFault) → fault_behind [] (points (confirmed_made h)) ≡ Some e → fault_of h ≡ Some e
fault_first h e is = ap (λ (o : Option BookFault). option_or o (full_at (length (made_of h)))) is

-- where they have none, the number of all coins tells
pub fault_rest : (h : History) → fault_behind [] (points (confirmed_made h)) ≡ None → fault_of h ≡ full_at (length (confirmed_made h) + length (pending_made h))
unfolding made_of
fault_rest h is = ap (λ (o : Option BookFault). option_or o (full_at (length (made_of h)))) is ∙ ap full_at (length-append (confirmed_made h) (pending_made h))

-- no fault, and at most as many coins as a book has
few_behind : (before os : List OutPoint) → length before ≤ 100_000 → fault_behind before os ≡ None → length before + length os ≤ 100_000
unfolding fault_behind
few_behind before [] le is = omega arith
few_behind before (o ∷ os) le is =
    by (list_any (same_outpoint o) before) (nat_lt (length before) 100_000) refl is
    (λ room rest. let n = length-append before (o ∷ []) in let lt = ltb-true (length before) 100_000 room in few_behind (before ++ o ∷ []) os (omega arith) rest)
  where
    by : (b room : Bool) → nat_lt (length before) 100_000 ≡ room → cond b (Some (RepeatCoin o)) (cond room (fault_behind (before ++ o ∷ []) os) (Some Full)) ≡ None
        → (nat_lt (length before) 100_000 ≡ true → fault_behind (before ++ o ∷ []) os ≡ None → length (before ++ o ∷ []) + length os ≤ 100_000) → length before + length (o ∷ os) ≤ 100_000
    by true room e is next = absurd cc
    by false false e is next = absurd cc
    by false true e is next =
        let n = length-append before (o ∷ []) in
        let rest = next e is in
        omega arith

pub few : (os : List OutPoint) → fault_behind [] os ≡ None → length os ≤ 100_000
few os is = let n = few_behind [] os (omega arith) is in omega arith

-- so many coins are within the most
pub room_for : (n : ℕ) → n ≤ 100_000 → full_at n ≡ None
room_for n le = ap (λ (b : Bool). cond b (Some Full) None) (le-ltb 100_000 n le)

-- and so many are not
pub no_room_for : (n : ℕ) → 100_000 < n → full_at n ≡ Some Full
no_room_for n lt = ap (λ (b : Bool). cond b (Some Full) None) (lt-ltb 100_000 n lt)

-- where there is room, there are so many
pub room_is : (n : ℕ) → full_at n ≡ None → n ≤ 100_000
room_is n is = by (nat_lt 100_000 n) refl is
  where
    by : (b : Bool) → nat_lt 100_000 n ≡ b → cond b (Some Full) None ≡ None → n ≤ 100_000
    by true e is = absurd cc
    by false e is = ltb-false 100_000 n e

-- a history without a fault
pub sound_confirmed : (h : History) → fault_of h ≡ None → fault_behind [] (points (confirmed_made h)) ≡ None
sound_confirmed h is = by (fault_behind [] (points (confirmed_made h))) is
  where
    by : (o : Option BookFault) → option_or o (full_at (length (made_of h))) ≡ None → o ≡ None
    by None is = refl
    by (Some e) is = absurd cc

pub sound_count : (h : History) → fault_of h ≡ None → length (confirmed_made h) + length (pending_made h) ≤ 100_000
sound_count h is = room_is (length (confirmed_made h) + length (pending_made h)) (sym (fault_rest h (sound_confirmed h is)) ∙ is)

-- entries are as many as the coins that they hold
pub held_count : (made : List Made) (es : List (OutPoint × Held)) → HoldsCoins made es → length es ≡ length made
held_count made es h = sym (length-map es made_at) ∙ ap (λ (m : List Made). length m) h.made_is
