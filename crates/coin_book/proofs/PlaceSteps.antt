-- Spends that are kept once, each with its place under the outpoints that it spends: one is put, or taken away.
use Rattle.std.proofs.Common.{◌≡◌, ◌∙◌, ℕ, zero, suc, ◌-◌, ◌<◌, ◌≤◌, Bool, true, false, cond, ◌||◌, List, [], ◌∷◌, ◌++◌, length, take, Option, None, Some, Result, Ok, Err, IfErr, IfOk, refl, sym, ap, subst, arith, true≢false, Vec, Global}
use Rattle.std.specs.Prelude.{is_some, option_map, slice_get}
use Rattle.std.specs.Map.{keys_of, lookup}
use Rattle.std.specs.Option.{IfSome, option_map_or, option_to_list}
use Rattle.std.proofs.Math.Seq.{take-length}
use Rattle.std.proofs.lemmas.List.{append-nil, length-append}
use Rattle.std.proofs.lemmas.Option.{slice_get_within}
use Rattle.fund_base.specs.Outpoints.{same_outpoint}
use Rattle.fund_base.specs.declared.outpoint.OutPoint.{OutPoint}
use Rattle.fund_base.proofs.OutpointLaws.{same_outpoint-Decides}
use Rattle.coin_book.specs.Places.{AreKept, found_at, list_at, shown, spends_in}
use Rattle.coin_book.specs.declared.coin.Spend.{Spend}

abbrev pub Places : Type 0
Places = List (OutPoint × ℕ)

abbrev pub Lists : Type 0
Lists = List (OutPoint × Vec Spend Global)

abbrev pub place_under : Places → OutPoint → Option ℕ
place_under places o = lookup (same_outpoint o) places

abbrev pub list_under : Lists → OutPoint → Option (Vec Spend Global)
list_under lists o = lookup (same_outpoint o) lists

-- the spends, where this is the place
abbrev pub at_place : List Spend → Lists → OutPoint → Option ℕ → List Spend
at_place all lists o place = option_map_or (λ (n : ℕ). found_at all lists o n) place []

abbrev pub held_at : List Spend → Places → Lists → OutPoint → List Spend
held_at all places lists o = at_place all lists o (place_under places o)

abbrev pub IsWithin : List Spend → Option ℕ → Type 0
IsWithin all place = IfSome place (λ (n : ℕ). n < length all)

none_of : {X : Type 0} (o : Option X) → is_some o ≡ false → o ≡ None
none_of None e = refl
none_of (Some x) e = absurd (true≢false e)

-- what is shown of an outpoint is what is held of it
pub seen : (all : List Spend) (places : Places) (lists : Lists) (o : OutPoint) → spends_in (shown all places lists) o ≡ held_at all places lists o
seen all [] lists o = refl
seen all (e ∷ es) lists o = by (same_outpoint o e.0) refl (seen all es lists o)
  where
    by : (b : Bool) → same_outpoint o e.0 ≡ b → spends_in (shown all es lists) o ≡ held_at all es lists o
        → option_map_or (λ (l : List Spend). l) (cond b (Some (found_at all lists e.0 e.1)) (lookup (same_outpoint o) (shown all es lists))) [] ≡ at_place all lists o (cond b (Some e.1) (place_under es o))
    by true here rest = ap (λ (q : OutPoint). found_at all lists q e.1) (sym ((same_outpoint-Decides o e.0).0 here))
    by false there rest = rest

pub keys_shown : (all : List Spend) (places : Places) (lists : Lists) → keys_of (shown all places lists) ≡ keys_of places
keys_shown all [] lists = refl
keys_shown all (e ∷ es) lists = ap (λ (os : List OutPoint). e.0 ∷ os) (keys_shown all es lists)

pub count_shown : (all : List Spend) (places : Places) (lists : Lists) → length (shown all places lists) ≡ length places
count_shown all [] lists = refl
count_shown all (e ∷ es) lists = ap suc (count_shown all es lists)

pub shown_get : (all : List Spend) (places : Places) (lists : Lists) (i : ℕ) → slice_get (shown all places lists) i ≡ option_map (λ (e : OutPoint × ℕ). (e.0, found_at all lists e.0 e.1)) (slice_get places i)
shown_get all [] lists i = refl
shown_get all (e ∷ es) lists zero = refl
shown_get all (e ∷ es) lists (suc i) = shown_get all es lists i

-- an outpoint without a place has no list
pub no_list : (all : List Spend) (places : Places) (lists : Lists) (o : OutPoint) → AreKept all places lists → place_under places o ≡ None → list_under lists o ≡ None
no_list all places lists o k none = none_of (list_under lists o) (by (is_some (list_under lists o)) refl)
  where
    by : (b : Bool) → is_some (list_under lists o) ≡ b → b ≡ false
    by false e = refl
    by true e = absurd (true≢false (sym (k.under o e) ∙ ap (λ (p : Option ℕ). is_some p) none))

-- ---- more spends, which have no place yet

get_front : (xs ys : List Spend) (n : ℕ) → n < length xs → slice_get (xs ++ ys) n ≡ slice_get xs n
get_front [] ys n lt = absurd (omega arith)
get_front (x ∷ xs) ys zero lt = refl
get_front (x ∷ xs) ys (suc n) lt = get_front xs ys n (omega arith)

more_by : (all rest : List Spend) (lists : Lists) (o : OutPoint) (place : Option ℕ) → IsWithin all place → at_place (all ++ rest) lists o place ≡ at_place all lists o place
more_by all rest lists o None in_all = refl
more_by all rest lists o (Some n) in_all = ap (λ (s : Option Spend). list_at lists o (option_to_list s)) (get_front all rest n in_all)

pub more_at : (all rest : List Spend) (places : Places) (lists : Lists) (o : OutPoint) → AreKept all places lists → held_at (all ++ rest) places lists o ≡ held_at all places lists o
more_at all rest places lists o k = more_by all rest lists o (place_under places o) (k.within o)

within_by : (all rest : List Spend) (place : Option ℕ) → IsWithin all place → IsWithin (all ++ rest) place
within_by all rest None in_all = _
within_by all rest (Some n) in_all = let l = length-append all rest in omega (arith, in_all, l)

pub kept_more : (all rest : List Spend) (places : Places) (lists : Lists) → AreKept all places lists → AreKept (all ++ rest) places lists
kept_more all rest places lists k = record { within = λ o. within_by all rest (place_under places o) (k.within o); under = k.under }

-- ---- a first spend of an outpoint

pub first_at : (all rest : List Spend) (places new : Places) (lists : Lists) (p o : OutPoint) (n : ℕ) (s : Spend) → AreKept all places lists → place_under places p ≡ None → slice_get (all ++ rest) n ≡ Some s
    → place_under new o ≡ cond (same_outpoint p o) (Some n) (place_under places o) → held_at (all ++ rest) new lists o ≡ held_at all places lists o ++ cond (same_outpoint p o) (s ∷ []) []
first_at all rest places new lists p o n s k none at put = ap (at_place (all ++ rest) lists o) put ∙ by (same_outpoint p o) refl
  where
    by : (b : Bool) → same_outpoint p o ≡ b → at_place (all ++ rest) lists o (cond b (Some n) (place_under places o)) ≡ held_at all places lists o ++ cond b (s ∷ []) []
    by true here =
        let gone : place_under places o ≡ None = ap (place_under places) (sym ((same_outpoint-Decides p o).0 here)) ∙ none in
        (λ j. option_map_or (λ (v : Vec Spend Global). v.items) (no_list all places lists o k gone j) (option_to_list (at j)))
        ∙ ap (λ (place : Option ℕ). at_place all lists o place ++ s ∷ []) (sym gone)
    by false there = more_at all rest places lists o k ∙ sym (append-nil (held_at all places lists o))

pub kept_first : (all rest : List Spend) (places new : Places) (lists : Lists) (p : OutPoint) (n : ℕ) (s : Spend) → AreKept all places lists → slice_get (all ++ rest) n ≡ Some s
    → ((o : OutPoint) → place_under new o ≡ cond (same_outpoint p o) (Some n) (place_under places o)) → AreKept (all ++ rest) new lists
kept_first all rest places new lists p n s k at put = record {
  within = λ o. subst (IsWithin (all ++ rest)) (sym (put o)) (by o (same_outpoint p o));
  under = λ o e. ap (λ (place : Option ℕ). is_some place) (put o) ∙ there (same_outpoint p o) (place_under places o) (k.under o e);
}
  where
    by : (o : OutPoint) (b : Bool) → IsWithin (all ++ rest) (cond b (Some n) (place_under places o))
    by o true = slice_get_within (all ++ rest) n s at
    by o false = within_by all rest (place_under places o) (k.within o)

    there : (b : Bool) (place : Option ℕ) → is_some place ≡ true → is_some (cond b (Some n) place) ≡ true
    there true place e = refl
    there false place e = e

-- ---- other lists

same_by : (all : List Spend) (lists new : Lists) (o : OutPoint) (place : Option ℕ) → ((other : List Spend) → list_at new o other ≡ list_at lists o other) → at_place all new o place ≡ at_place all lists o place
same_by all lists new o None same = refl
same_by all lists new o (Some n) same = same (option_to_list (slice_get all n))

-- lists that tell the same
pub same_at : (all : List Spend) (places : Places) (lists new : Lists) (o : OutPoint) → ((other : List Spend) → list_at new o other ≡ list_at lists o other) → held_at all places new o ≡ held_at all places lists o
same_at all places lists new o same = same_by all lists new o (place_under places o) same

pub kept_lists : (all : List Spend) (places : Places) (lists new : Lists) → AreKept all places lists → ((o : OutPoint) → is_some (list_under new o) ≡ true → is_some (place_under places o) ≡ true) → AreKept all places new
kept_lists all places lists new k under = record { within = k.within; under = under }

-- a further spend of an outpoint
pub again_at : (all : List Spend) (places : Places) (lists new : Lists) (p o : OutPoint) (n : ℕ) (first s : Spend) → place_under places p ≡ Some n → slice_get all n ≡ Some first
    → ((other : List Spend) → list_at new o other ≡ cond (same_outpoint p o) (list_at lists o (first ∷ []) ++ s ∷ []) (list_at lists o other)) → held_at all places new o ≡ held_at all places lists o ++ cond (same_outpoint p o) (s ∷ []) []
again_at all places lists new p o n first s there at put = by (same_outpoint p o) refl (place_under places o) refl put
  where
    by : (b : Bool) → same_outpoint p o ≡ b → (place : Option ℕ) → place_under places o ≡ place → ((other : List Spend) → list_at new o other ≡ cond b (list_at lists o (first ∷ []) ++ s ∷ []) (list_at lists o other))
        → at_place all new o place ≡ at_place all lists o place ++ cond b (s ∷ []) []
    by true here place is told =
        let found : Some n ≡ place = sym there ∙ ap (place_under places) ((same_outpoint-Decides p o).0 here) ∙ is in
        ap (at_place all new o) (sym found)
        ∙ told (option_to_list (slice_get all n))
        ∙ ap (λ (f : Option Spend). list_at lists o (option_to_list f) ++ s ∷ []) (sym at)
        ∙ ap (λ (q : Option ℕ). at_place all lists o q ++ s ∷ []) found
    by false other place is told = same_by all lists new o place told ∙ sym (append-nil (at_place all lists o place))

pub kept_again : (all : List Spend) (places : Places) (lists new : Lists) (p : OutPoint) (n : ℕ) → AreKept all places lists → place_under places p ≡ Some n
    → ((o : OutPoint) → is_some (list_under new o) ≡ (same_outpoint p o || is_some (list_under lists o))) → AreKept all places new
kept_again all places lists new p n k there told = kept_lists all places lists new k (λ o e. by o (same_outpoint p o) refl (sym (told o) ∙ e))
  where
    by : (o : OutPoint) (b : Bool) → same_outpoint p o ≡ b → (b || is_some (list_under lists o)) ≡ true → is_some (place_under places o) ≡ true
    by o true here e = ap (λ (q : OutPoint). is_some (place_under places q)) (sym ((same_outpoint-Decides p o).0 here)) ∙ ap (λ (place : Option ℕ). is_some place) there
    by o false other e = k.under o e

-- ---- the last spends of an outpoint taken away

-- from its list
pub cut_at : (all : List Spend) (places : Places) (lists new : Lists) (p o : OutPoint) (list left : Vec Spend Global) (count : ℕ) → AreKept all places lists → list_under lists p ≡ Some list → left.items ≡ take (length list.items - count) list.items
    → list_under new o ≡ cond (same_outpoint p o) (Some left) (list_under lists o) → held_at all places new o ≡ cond (same_outpoint p o) (take (length (held_at all places lists o) - count) (held_at all places lists o)) (held_at all places lists o)
cut_at all places lists new p o list left count k there cut told = by (same_outpoint p o) refl (place_under places o) refl told
  where
    by : (b : Bool) → same_outpoint p o ≡ b → (place : Option ℕ) → place_under places o ≡ place → list_under new o ≡ cond b (Some left) (list_under lists o)
        → at_place all new o place ≡ cond b (take (length (at_place all lists o place) - count) (at_place all lists o place)) (at_place all lists o place)
    by true here None is put =
        let here_too : list_under lists o ≡ Some list = ap (list_under lists) (sym ((same_outpoint-Decides p o).0 here)) ∙ there in
        absurd (true≢false (sym (k.under o (ap (λ (l : Option (Vec Spend Global)). is_some l) here_too)) ∙ ap (λ (q : Option ℕ). is_some q) is))
    by true here (Some n) is put =
        let here_too : list_under lists o ≡ Some list = ap (list_under lists) (sym ((same_outpoint-Decides p o).0 here)) ∙ there in
        let whole : at_place all lists o (Some n) ≡ list.items = ap (λ (l : Option (Vec Spend Global)). option_map_or (λ (v : Vec Spend Global). v.items) l (option_to_list (slice_get all n))) here_too in
        ap (λ (l : Option (Vec Spend Global)). option_map_or (λ (v : Vec Spend Global). v.items) l (option_to_list (slice_get all n))) put
        ∙ cut
        ∙ ap (λ (l : List Spend). take (length l - count) l) (sym whole)
    by false other place is put = same_by all lists new o place (λ d. ap (λ (l : Option (Vec Spend Global)). option_map_or (λ (v : Vec Spend Global). v.items) l d) put)

pub kept_cut : (all : List Spend) (places : Places) (lists new : Lists) (p : OutPoint) (list left : Vec Spend Global) → AreKept all places lists → list_under lists p ≡ Some list
    → ((o : OutPoint) → list_under new o ≡ cond (same_outpoint p o) (Some left) (list_under lists o)) → AreKept all places new
kept_cut all places lists new p list left k there told = kept_lists all places lists new k (λ o e. by o (same_outpoint p o) refl (sym (ap (λ (l : Option (Vec Spend Global)). is_some l) (told o)) ∙ e))
  where
    by : (o : OutPoint) (b : Bool) → same_outpoint p o ≡ b → is_some (cond b (Some left) (list_under lists o)) ≡ true → is_some (place_under places o) ≡ true
    by o true here e = k.under o (ap (λ (q : OutPoint). is_some (list_under lists q)) (sym ((same_outpoint-Decides p o).0 here)) ∙ ap (λ (l : Option (Vec Spend Global)). is_some l) there)
    by o false other e = k.under o e

-- where it has no list
alone : (all : List Spend) (lists : Lists) (o : OutPoint) (place : Option ℕ) → list_under lists o ≡ None → length (at_place all lists o place) ≤ 1
alone all lists o None none = omega arith
alone all lists o (Some n) none =
    subst (λ (l : Option (Vec Spend Global)). length (option_map_or (λ (v : Vec Spend Global). v.items) l (option_to_list (slice_get all n))) ≤ 1) (sym none) (by (slice_get all n))
  where
    by : (s : Option Spend) → length (option_to_list s) ≤ 1
    by None = omega arith
    by (Some s) = omega arith

pub removed_at : (all : List Spend) (places new : Places) (lists : Lists) (p o : OutPoint) (count : ℕ) → list_under lists p ≡ None → 0 < count → place_under new o ≡ cond (same_outpoint p o) None (place_under places o)
    → held_at all new lists o ≡ cond (same_outpoint p o) (take (length (held_at all places lists o) - count) (held_at all places lists o)) (held_at all places lists o)
removed_at all places new lists p o count none some told = ap (at_place all lists o) told ∙ by (same_outpoint p o) refl
  where
    by : (b : Bool) → same_outpoint p o ≡ b → at_place all lists o (cond b None (place_under places o)) ≡ cond b (take (length (held_at all places lists o) - count) (held_at all places lists o)) (held_at all places lists o)
    by true here =
        let few = alone all lists o (place_under places o) (ap (list_under lists) (sym ((same_outpoint-Decides p o).0 here)) ∙ none) in
        let gone : length (held_at all places lists o) - count ≡ 0 = omega (arith, few, some) in
        ap (λ n. take n (held_at all places lists o)) (sym gone)
    by false other = refl

pub kept_removed : (all : List Spend) (places new : Places) (lists : Lists) (p : OutPoint) → AreKept all places lists → list_under lists p ≡ None
    → ((o : OutPoint) → place_under new o ≡ cond (same_outpoint p o) None (place_under places o)) → AreKept all new lists
kept_removed all places new lists p k none told = record {
  within = λ o. subst (IsWithin all) (sym (told o)) (by o (same_outpoint p o));
  under = λ o e. ap (λ (place : Option ℕ). is_some place) (told o) ∙ there o (same_outpoint p o) refl e;
}
  where
    by : (o : OutPoint) (b : Bool) → IsWithin all (cond b None (place_under places o))
    by o true = _
    by o false = k.within o

    there : (o : OutPoint) (b : Bool) → same_outpoint p o ≡ b → is_some (list_under lists o) ≡ true → is_some (cond b None (place_under places o)) ≡ true
    there o true here e = absurd (true≢false (sym e ∙ ap (λ (q : OutPoint). is_some (list_under lists q)) (sym ((same_outpoint-Decides p o).0 here)) ∙ ap (λ (l : Option (Vec Spend Global)). is_some l) none))
    there o false other e = k.under o e

-- nothing taken away
pub cut_none : (b : Bool) (old : List Spend) (count : ℕ) → count ≡ 0 → old ≡ cond b (take (length old - count) old) old
cut_none true old count none = let n : length old - count ≡ length old = omega (arith, none) in sym (take-length old) ∙ ap (λ m. take m old) (sym n)
cut_none false old count none = refl

-- ---- what is written into a map of lists

abbrev pub or_list : List Spend → Option (Vec Spend Global) → List Spend
or_list other m = option_map_or (λ (v : Vec Spend Global). v.items) m other

pub write_at : (b : Bool) (v : Vec Spend Global) (old : Option (Vec Spend Global)) (other : List Spend) → or_list other (cond b (Some v) old) ≡ cond b v.items (or_list other old)
write_at true v old other = refl
write_at false v old other = refl

pub write_same : (b : Bool) (v old : List Spend) → (b ≡ true → v ≡ old) → cond b v old ≡ old
write_same true v old is = is refl
write_same false v old is = refl

pub write_new : (b : Bool) (v list old : List Spend) → (b ≡ true → v ≡ list) → cond b v old ≡ cond b list old
write_new true v list old is = is refl
write_new false v list old is = refl

pub write_listed : (b : Bool) (v : Vec Spend Global) (old : Option (Vec Spend Global)) → (b ≡ true → is_some old ≡ true) → is_some (cond b (Some v) old) ≡ is_some old
write_listed true v old is = sym (is refl)
write_listed false v old is = refl

-- ---- by how the call ends

pub kept_put : {A E : Type 0} (all : List Spend) (places : Places) (lists new : Lists) (p : OutPoint) (n : ℕ) (r : Result A E) → AreKept all places lists → place_under places p ≡ Some n
    → ((o : OutPoint) → IfOk r (λ _. is_some (list_under new o) ≡ (same_outpoint p o || is_some (list_under lists o)))) → ((o : OutPoint) → IfErr r (λ _. is_some (list_under new o) ≡ is_some (list_under lists o))) → AreKept all places new
kept_put all places lists new p n (Ok a) k there fine bad = kept_again all places lists new p n k there fine
kept_put all places lists new p n (Err e) k there fine bad = kept_lists all places lists new k (λ o is. k.under o (sym (bad o) ∙ is))

pub again_ok : {A E : Type 0} (all : List Spend) (places : Places) (lists new : Lists) (p o : OutPoint) (n : ℕ) (first s : Spend) (before : List Spend) (r : Result A E) → place_under places p ≡ Some n → slice_get all n ≡ Some first → held_at all places lists o ≡ before
    → ((other : List Spend) → IfOk r (λ _. list_at new o other ≡ cond (same_outpoint p o) (list_at lists o (first ∷ []) ++ s ∷ []) (list_at lists o other))) → IfOk r (λ _. spends_in (shown all places new) o ≡ before ++ cond (same_outpoint p o) (s ∷ []) [])
again_ok all places lists new p o n first s before (Ok a) there at was told =
    seen all places new o ∙ again_at all places lists new p o n first s there at told ∙ ap (λ (l : List Spend). l ++ cond (same_outpoint p o) (s ∷ []) []) was
again_ok all places lists new p o n first s before (Err e) there at was told = _

pub same_err : {A E : Type 0} (all : List Spend) (places : Places) (lists new : Lists) (o : OutPoint) (before : List Spend) (r : Result A E) → held_at all places lists o ≡ before
    → ((other : List Spend) → IfErr r (λ _. list_at new o other ≡ list_at lists o other)) → IfErr r (λ _. spends_in (shown all places new) o ≡ before)
same_err all places lists new o before (Ok a) was told = _
same_err all places lists new o before (Err e) was told = seen all places new o ∙ same_at all places lists new o told ∙ was

-- ---- a first spend, as what is shown tells it

abbrev pub Longer : List Spend → List Spend → Type 0
Longer all new = (rest : List Spend) × (new ≡ all ++ rest)

-- spends that have no place yet show nothing
pub still : (all longer : List Spend) (places new : Places) (lists : Lists) (o : OutPoint) (before : List Spend) → AreKept all places lists → Longer all longer → new ≡ places → held_at all places lists o ≡ before → spends_in (shown longer new lists) o ≡ before
still all longer places new lists o before k more same was =
    (λ j. spends_in (shown (more.1 j) (same j) lists) o) ∙ seen (all ++ more.0) places lists o ∙ more_at all more.0 places lists o k ∙ was

pub first_shown : (all longer : List Spend) (places new : Places) (lists : Lists) (p o : OutPoint) (n : ℕ) (s : Spend) (before : List Spend) → AreKept all places lists → Longer all longer → place_under places p ≡ None → slice_get longer n ≡ Some s
    → place_under new o ≡ cond (same_outpoint p o) (Some n) (place_under places o) → held_at all places lists o ≡ before → spends_in (shown longer new lists) o ≡ before ++ cond (same_outpoint p o) (s ∷ []) []
first_shown all longer places new lists p o n s before k more none at put was =
    (λ j. spends_in (shown (more.1 j) new lists) o)
    ∙ seen (all ++ more.0) new lists o
    ∙ first_at all more.0 places new lists p o n s k none (ap (λ (l : List Spend). slice_get l n) (sym more.1) ∙ at) put
    ∙ ap (λ (l : List Spend). l ++ cond (same_outpoint p o) (s ∷ []) []) was

pub kept_longer : (all longer : List Spend) (places new : Places) (lists : Lists) (p : OutPoint) (n : ℕ) (s : Spend) → AreKept all places lists → Longer all longer → slice_get longer n ≡ Some s
    → ((o : OutPoint) → place_under new o ≡ cond (same_outpoint p o) (Some n) (place_under places o)) → AreKept longer new lists
kept_longer all longer places new lists p n s k more at put =
    subst (λ (l : List Spend). AreKept l new lists) (sym more.1) (kept_first all more.0 places new lists p n s k (ap (λ (l : List Spend). slice_get l n) (sym more.1) ∙ at) put)

pub kept_still : (all longer : List Spend) (places new : Places) (lists : Lists) → AreKept all places lists → Longer all longer → new ≡ places → AreKept longer new lists
kept_still all longer places new lists k more same =
    subst (λ (l : List Spend). AreKept l new lists) (sym more.1) (subst (λ (m : Places). AreKept (all ++ more.0) m lists) (sym same) (kept_more all more.0 places lists k))
