-- Each coin counts once.
use Rattle.std.proofs.Common.{◌≡◌, ◌∙◌, ℕ, ◌+◌, ◌<◌, ◌≤◌, List, [], ◌∷◌, length, refl, sym, ap, arith}
use Rattle.std.specs.Prelude.{sum_by}
use Rattle.std.proofs.lemmas.List.Sums.{sum_by-cons}
use Rattle.coin_totals.specs.Classes.{same_class}
use Rattle.coin_totals.specs.Totals.{count_of, held_classes, one_of, value_of, worth_of}
use Rattle.coin_totals.specs.declared.class.CoinClass.{CoinClass}
use Rattle.coin_totals.specs.declared.class.CoinClass.TheVariants as class
use Rattle.coin_totals.specs.declared.classes.ClassedCoin.{ClassedCoin}

-- what a coin adds to all classes together
adds_one : (s : CoinClass) (n : ℕ) → sum_by (λ t. one_of t (record { class = s; value = n })) held_classes + one_of class.Gone (record { class = s; value = n }) ≡ 1
adds_one class.Confirmed n = refl
adds_one class.Waiting n = refl
adds_one class.Unsafe n = refl
adds_one class.Claimed n = refl
adds_one class.Locked n = refl
adds_one class.Immature n = refl
adds_one class.Gone n = refl

adds_worth : (s : CoinClass) (n : ℕ) → sum_by (λ t. worth_of t (record { class = s; value = n })) held_classes + worth_of class.Gone (record { class = s; value = n }) ≡ n
adds_worth class.Confirmed n = omega arith
adds_worth class.Waiting n = omega arith
adds_worth class.Unsafe n = omega arith
adds_worth class.Claimed n = omega arith
adds_worth class.Locked n = omega arith
adds_worth class.Immature n = omega arith
adds_worth class.Gone n = omega arith

-- a sum over the classes, one coin on
six : (f g k : CoinClass → ℕ) → ((s : CoinClass) → k s ≡ f s + g s) → sum_by k held_classes + k class.Gone ≡ (sum_by f held_classes + f class.Gone) + (sum_by g held_classes + g class.Gone)
six f g k is = omega (
  arith,
  is class.Confirmed,
  is class.Waiting,
  is class.Unsafe,
  is class.Claimed,
  is class.Locked,
  is class.Immature,
  is class.Gone,
)

pub number_once : (coins : List ClassedCoin) → length coins ≡ sum_by (λ s. count_of s coins) held_classes + count_of class.Gone coins
number_once [] = refl
number_once (c ∷ coins) =
    omega (
      arith,
      number_once coins,
      adds_one c.class c.value,
      six (λ s. one_of s c) (λ s. count_of s coins) (λ s. count_of s (c ∷ coins)) (λ s. sum_by-cons (one_of s) c coins),
    )

pub worth_once : (coins : List ClassedCoin) → sum_by (λ (c : ClassedCoin). c.value) coins ≡ sum_by (λ s. value_of s coins) held_classes + value_of class.Gone coins
worth_once [] = refl
worth_once (c ∷ coins) =
    omega (
      arith,
      worth_once coins,
      sum_by-cons (λ (x : ClassedCoin). x.value) c coins,
      adds_worth c.class c.value,
      six (λ s. worth_of s c) (λ s. value_of s coins) (λ s. value_of s (c ∷ coins)) (λ s. sum_by-cons (worth_of s) c coins),
    )
