-- What the coins of a class come to.
use Rattle.std.specs.Prelude.{ℕ, ◌++◌, List, [], ◌∷◌, codes, sum_by, if◌then◌else◌}
use Rattle.std.specs.List.{flat_map}
use Rattle.std.specs.Fmt.{decimal}
use Rattle.coin_totals.specs.Classes.{same_class, word_of}
use Rattle.coin_totals.specs.declared.class.CoinClass.{CoinClass}
use Rattle.coin_totals.specs.declared.class.CoinClass.TheVariants as class
use Rattle.coin_totals.specs.declared.classes.ClassedCoin.{ClassedCoin}
use Rattle.coin_totals.specs.declared.totals.Total.{Total}

-- what a coin adds to the number of a class, and to its value in satoshi
abbrev pub one_of : CoinClass → ClassedCoin → ℕ
one_of s c = if same_class s c.class then 1 else 0

abbrev pub worth_of : CoinClass → ClassedCoin → ℕ
worth_of s c = if same_class s c.class then c.value else 0

-- how many coins are of the class, and what they are worth together
abbrev pub count_of : CoinClass → List ClassedCoin → ℕ
count_of s coins = sum_by (one_of s) coins

abbrev pub value_of : CoinClass → List ClassedCoin → ℕ
value_of s coins = sum_by (worth_of s) coins

abbrev pub total_of : CoinClass → List ClassedCoin → Total
total_of s coins = record { count = count_of s coins; value = value_of s coins }

-- the classes of coins that aren't gone
abbrev pub held_classes : List CoinClass
held_classes = class.Confirmed ∷ class.Waiting ∷ class.Unsafe ∷ class.Claimed ∷ class.Locked ∷ class.Immature ∷ []

-- ---- as lines

abbrev pub total_words : CoinClass → Total → List ℕ
total_words s t = codes "total " ++ (word_of s ++ (codes " " ++ (decimal t.count ++ (codes " " ++ (decimal t.value ++ codes "\n")))))

unfoldable pub total_line : List ClassedCoin → CoinClass → List ℕ
total_line coins s = total_words s (total_of s coins)

-- a line for each class of coins that aren't gone
unfoldable pub totals_text : List ClassedCoin → List ℕ
totals_text coins = flat_map (total_line coins) held_classes
