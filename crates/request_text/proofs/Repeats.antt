-- The first coin that stands before it too, as a loop finds it.
use Rattle.std.proofs.Common.{◌≡◌, ℕ, suc, ◌+◌, ◌<◌, ◌≤◌, Bool, true, false, not, cond, true≢false, List, [], ◌∷◌, ◌++◌, length, get_or, take, drop, Option, Some, None, Ok, Err, refl, sym, ap, ◌∙◌, subst, add-one, drop-cons, take-suc}
use Rattle.std.specs.List.{list_any, IsDistinct}
use Rattle.std.proofs.Math.ListN.{drop_of_length-le}
use Rattle.fund_base.specs.Outpoints.{same_outpoint}
use Rattle.fund_base.specs.declared.outpoint.OutPoint.{OutPoint}
use Rattle.indexmap.specs.IndexSet.{insert_key}
use Rattle.json_fields.specs.Fields.{refuse}
use Rattle.request_text.specs.RequestText.{distinct_at, index_of, repeat_behind}
use Rattle.request_text.specs.declared.fault.Refusal.{Refusal}
use Rattle.request_text.specs.declared.fault.Refusal.TheVariants.{Repeat}

next_is : (coins : List OutPoint) (i : ℕ) (coin : OutPoint) → i < length coins → coin ≡ get_or coins i coin → drop i coins ≡ coin ∷ drop (suc i) coins
next_is coins i coin lt is = drop-cons coins i coin lt ∙ ap (λ (c : OutPoint). c ∷ drop (suc i) coins) (sym is)

-- a coin that stands in front
pub found : (front coins : List OutPoint) (i : ℕ) (coin : OutPoint) (total : Option ℕ) → i < length coins → coin ≡ get_or coins i coin → list_any (same_outpoint coin) front ≡ true
    → repeat_behind front (drop i coins) ≡ total → Some (length front) ≡ total
unfolding repeat_behind
found front coins i coin total lt is seen so_far =
    let one : repeat_behind front (drop i coins) ≡ Some (length front) = rw (next_is coins i coin lt is, seen) refl in
    sym one ∙ so_far

-- one that doesn't
pub goes_on : (front coins : List OutPoint) (i : ℕ) (coin : OutPoint) (total : Option ℕ) → i < length coins → coin ≡ get_or coins i coin → list_any (same_outpoint coin) front ≡ false
    → repeat_behind front (drop i coins) ≡ total → repeat_behind (front ++ coin ∷ []) (drop (i + 1) coins) ≡ total
unfolding repeat_behind
goes_on front coins i coin total lt is new so_far =
    let one : repeat_behind front (drop i coins) ≡ repeat_behind (front ++ coin ∷ []) (drop (suc i) coins) = rw (next_is coins i coin lt is, new) refl in
    rw add-one (sym one ∙ so_far)

-- no coin more
pub ends : (front coins : List OutPoint) (i : ℕ) (total : Option ℕ) → length coins ≤ i → repeat_behind front (drop i coins) ≡ total → None ≡ total
unfolding repeat_behind
ends front coins i total le so_far =
    let one : repeat_behind front (drop i coins) ≡ None = rw (drop_of_length-le coins le) refl in
    sym one ∙ so_far

-- a set that a new coin is put into has it last
pub grown : (old new : List OutPoint) (coin : OutPoint) → new ≡ insert_key same_outpoint old coin → list_any (same_outpoint coin) old ≡ false → new ≡ old ++ coin ∷ []
grown old new coin e is_new = e ∙ ap (λ b. cond b old (old ++ coin ∷ [])) is_new

-- and then it has the first coins of the list
pub taken : (new coins : List OutPoint) (i : ℕ) (coin : OutPoint) → i < length coins → coin ≡ get_or coins i coin → new ≡ take i coins ++ coin ∷ [] → new ≡ take (i + 1) coins
taken new coins i coin lt is e = rw add-one (e ∙ ap (λ (c : OutPoint). take i coins ++ c ∷ []) is ∙ sym (take-suc coins i coin lt))

-- one that a set has leaves it as it was
pub stays : (old new : List OutPoint) (coin : OutPoint) → new ≡ insert_key same_outpoint old coin → list_any (same_outpoint coin) old ≡ true → new ≡ old
stays old new coin e seen = e ∙ ap (λ b. cond b old (old ++ coin ∷ [])) seen

-- what was put in was new, or had been seen
pub was_new : (seen new : Bool) → new ≡ not seen → new ≡ true → seen ≡ false
was_new true new e h = absurd (true≢false (sym h ∙ e))
was_new false new e h = refl

pub was_seen : (seen new : Bool) → new ≡ not seen → new ≡ false → seen ≡ true
was_seen true new e h = refl
was_seen false new e h = absurd (true≢false (sym e ∙ h))

-- none is twice where there is none
pub none_yet : (seen : List OutPoint) → seen ≡ [] → IsDistinct same_outpoint seen
unfolding IsDistinct
none_yet seen e = subst (IsDistinct same_outpoint) (sym e) tt

-- the refusal of a repeat, as that of the list
pub distinct_ok : (coins : List OutPoint) (place : Option ℕ) → Ok tt ≡ refuse (λ i. Repeat (index_of i)) place → distinct_at coins place ≡ Ok coins
distinct_ok coins None e = refl
distinct_ok coins (Some i) e = cc

pub distinct_err : (coins : List OutPoint) (place : Option ℕ) (fault : Refusal) → Err fault ≡ refuse (λ i. Repeat (index_of i)) place → distinct_at coins place ≡ Err fault
distinct_err coins None fault e = cc
distinct_err coins (Some i) fault e = cc
