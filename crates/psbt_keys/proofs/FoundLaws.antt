-- The value that stands under a key.
use Rattle.std.proofs.Common.{◌≡◌, ◌≢◌, ◌∙◌, ℕ, Bool, true, false, not, cond, List, [], ◌∷◌, Option, Some, None, All, refl, sym, ap}
use Rattle.std.specs.Prelude.{Contains, bytes_eq, find, option_copied, option_map}
use Rattle.std.specs.Borrow.{Bor}
use Rattle.std.proofs.lemmas.List.Elements.{All-cons, All-nil}
use Rattle.std.proofs.lemmas.Slice.Eq.{bytes_eq-Decides}
use Rattle.psbt_codec.specs.Psbt.{Pair}
use Rattle.psbt_keys.specs.Placing.{value_under}
use Rattle.psbt_keys.proofs.PlaceLaws.{has_first, has_later}

-- a pair of this key and this value
pub record Under (key value : List ℕ) (pairs : List Pair) : Type 0 where
  pub pair : Pair
  pub there : Contains pairs pair
  pub key_is : pair.key ≡ key
  pub value_is : pair.value ≡ value

under_later : (key value : List ℕ) (p : Pair) (ps : List Pair) → Under key value ps → Under key value (p ∷ ps)
under_later key value p ps u = record { pair = u.pair; there = has_later p ps u.pair u.there; key_is = u.key_is; value_is = u.value_is }

same_some : (x y : List ℕ) → Some x ≡ Some y → x ≡ y
same_some x y e = cc

pub under : (key value : List ℕ) (pairs : List Pair) → value_under key pairs ≡ Some value → Under key value pairs
under key value [] e = absurd cc
under key value (p ∷ ps) e = by (bytes_eq p.key key) refl e (under key value ps)
  where
    by : (b : Bool) → bytes_eq p.key key ≡ b → option_map (λ (q : Pair). q.value) (cond b (Some p) (find (λ (q : Pair). bytes_eq q.key key) ps)) ≡ Some value → (value_under key ps ≡ Some value → Under key value ps) → Under key value (p ∷ ps)
    by true same is rest = record { pair = p; there = has_first p ps; key_is = (bytes_eq-Decides p.key key).0 same; value_is = same_some p.value value is }
    by false other is rest = under_later key value p ps (rest is)

other_key : (a b : List ℕ) → bytes_eq a b ≡ false → a ≢ b
other_key a b e same = let yes_is = (bytes_eq-Decides a b).1 same in absurd cc

pub under_none : (key : List ℕ) (pairs : List Pair) → value_under key pairs ≡ None → All (λ (p : Pair). p.key ≢ key) pairs
under_none key [] e = All-nil (λ (p : Pair). p.key ≢ key)
under_none key (p ∷ ps) e = by (bytes_eq p.key key) refl e (under_none key ps)
  where
    by : (b : Bool) → bytes_eq p.key key ≡ b → option_map (λ (q : Pair). q.value) (cond b (Some p) (find (λ (q : Pair). bytes_eq q.key key) ps)) ≡ None → (value_under key ps ≡ None → All (λ (q : Pair). q.key ≢ key) ps) → All (λ (q : Pair). q.key ≢ key) (p ∷ ps)
    by true same is rest = absurd cc
    by false other is rest = All-cons (λ (q : Pair). q.key ≢ key) p ps (other_key p.key key other) (rest is)

-- ---- what a look-up came to

pub looked_up : (r : Option (Bor (List ℕ))) (key other : List ℕ) (pairs ps : List Pair) → option_copied r ≡ value_under other ps → other ≡ key → ps ≡ pairs → option_copied r ≡ value_under key pairs
looked_up r key other pairs ps is same list = is ∙ ap (λ (k : List ℕ). value_under k ps) same ∙ ap (λ (l : List Pair). value_under key l) list

pub found_under : (r : Option (Bor (List ℕ))) (v : Bor (List ℕ)) (key : List ℕ) (pairs : List Pair) → r ≡ Some v → option_copied r ≡ value_under key pairs → Under key v.now pairs
found_under r v key pairs some is = under key v.now pairs (sym is ∙ ap option_copied some)

pub found_none : (r : Option (Bor (List ℕ))) (key : List ℕ) (pairs : List Pair) → r ≡ None → option_copied r ≡ value_under key pairs → All (λ (p : Pair). p.key ≢ key) pairs
found_none r key pairs none is = under_none key pairs (sym is ∙ ap option_copied none)

pub differ : (t : Bool) (a b : List ℕ) → t ≡ not (bytes_eq a b) → t ≡ true → a ≢ b
differ t a b is told same = let equal : bytes_eq a b ≡ true = (bytes_eq-Decides a b).1 same in absurd cc

pub agree : (t : Bool) (a b : List ℕ) → t ≡ not (bytes_eq a b) → t ≡ false → a ≡ b
agree t a b is told = by (bytes_eq a b) refl
  where
    by : (e : Bool) → bytes_eq a b ≡ e → a ≡ b
    by true same = (bytes_eq-Decides a b).0 same
    by false other = absurd cc
