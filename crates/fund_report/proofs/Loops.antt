-- Steps of the loops that read.
use Rattle.std.proofs.Common.{◌≡◌, ℕ, suc, ◌+◌, ◌-◌, ◌<◌, ◌≤◌, true, false, eqb, List, [], ◌∷◌, ◌++◌, length, get_or, Ok, Err, refl, sym, arith, eq-eqb, ne_eqb}
use Rattle.std.specs.List.{prefix_len}
use Rattle.closing_log.proofs.Loops.{prefix_found, prefix_whole}
use Rattle.fund_report.specs.declared.parts.Next.TheVariants.{Coin, Weight}
use Rattle.fund_report.specs.declared.report.InLine.{InLine}
use Rattle.fund_report.specs.Reading.{coin_next, coins_from, is_text}

-- ---- the lines of coins

step_down : (count i : ℕ) → i < count → count - i ≡ suc (count - (i + 1))
step_down count i lt = omega arith

pub coins_more : (count i : ℕ) (done : List InLine) (rest : List ℕ) (l : InLine) (after : List ℕ) → i < count → coin_next rest ≡ Ok ((l, Coin), after)
    → coins_from (count - (i + 1)) (done ++ l ∷ []) after ≡ coins_from (count - i) done rest
unfolding coins_from
coins_more count i done rest l after lt read = rw (step_down count i lt, read) refl

pub coins_last : (count i : ℕ) (done : List InLine) (rest : List ℕ) (l : InLine) (after : List ℕ) → i < count → coin_next rest ≡ Ok ((l, Weight), after)
    → coins_from (count - i) done rest ≡ Ok (done ++ l ∷ [], after)
unfolding coins_from
coins_last count i done rest l after lt read = rw (step_down count i lt, read) refl

pub coins_fail : (count i : ℕ) (done : List InLine) (rest stop : List ℕ) → i < count → coin_next rest ≡ Err stop → coins_from (count - i) done rest ≡ Err stop
unfolding coins_from
coins_fail count i done rest stop lt read = rw (step_down count i lt, read) refl

pub coins_out : (count i : ℕ) (done : List InLine) (rest : List ℕ) → count ≤ i → coins_from (count - i) done rest ≡ Err rest
unfolding coins_from
coins_out count i done rest le = let k : count - i ≡ 0 = omega arith in rw k refl

-- ---- the bytes before a line feed

pub feed_is : (b : ℕ) → b ≡ 10 → is_text b ≡ false
feed_is b is = let same : eqb b 10 ≡ true = eq-eqb b 10 is in rw same refl

pub feed_not : (b : ℕ) → (b ≡ 10 → ⊥) → is_text b ≡ true
feed_not b differs = let other : eqb b 10 ≡ false = ne_eqb b 10 differs in rw other refl

pub text_found : (bytes : List ℕ) (i : ℕ) → i < length bytes → ((k : ℕ) → k < i → is_text (get_or bytes k 0) ≡ true) → get_or bytes i 0 ≡ 10 → i ≡ prefix_len is_text bytes
text_found bytes i lt below here = sym (prefix_found is_text bytes i lt below (feed_is (get_or bytes i 0) here))

pub text_whole : (bytes : List ℕ) (i : ℕ) → length bytes ≤ i → ((k : ℕ) → k < i → is_text (get_or bytes k 0) ≡ true) → length bytes ≡ prefix_len is_text bytes
text_whole bytes i le below = sym (prefix_whole is_text bytes i le below)
