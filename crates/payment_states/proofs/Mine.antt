-- Coins, and the inputs that spend them.
use Rattle.std.proofs.Common.{◌≡◌, Bool, true, false, cond, ◌||◌, List, [], ◌∷◌, map, Option, Some, None, refl, sym}
use Rattle.std.specs.Prelude.{is_some, is_none, find, option_map}
use Rattle.std.proofs.lemmas.Bool.{true≢false}
use Rattle.fund_base.specs.Outpoints.{same_outpoint}
use Rattle.fund_base.specs.declared.outpoint.OutPoint.{OutPoint}
use Rattle.coin_book.specs.Coins.{Made, coins_of, made_of, parent_of}
use Rattle.coin_book.specs.History.{History}
use Rattle.payment_states.specs.Candidates.{is_coin}

found_coin : (o : OutPoint) (ms : List Made) → is_some (option_map (λ (m : Made). m.maker) (find (λ (m : Made). same_outpoint o m.coin.coin) ms)) ≡ is_coin (map (λ (m : Made). m.coin) ms) o
found_coin o [] = refl
found_coin o (m ∷ ms) = by (same_outpoint o m.coin.coin) (found_coin o ms)
  where
    by : (b : Bool) → is_some (option_map (λ (m : Made). m.maker) (find (λ (m : Made). same_outpoint o m.coin.coin) ms)) ≡ is_coin (map (λ (m : Made). m.coin) ms) o
        → is_some (option_map (λ (m : Made). m.maker) (cond b (Some m) (find (λ (m : Made). same_outpoint o m.coin.coin) ms))) ≡ (b || is_coin (map (λ (m : Made). m.coin) ms) o)
    by true e = refl
    by false e = e

-- an outpoint is a coin exactly where it has a transaction
pub parent_is : (h : History) (o : OutPoint) → is_some (parent_of h o) ≡ is_coin (coins_of h) o
parent_is h o = found_coin o (made_of h)

pub none_some : {X : Type 0} (r : Option X) (b : Bool) → is_none r ≡ b → is_some r ≡ cond b false true
none_some None true e = refl
none_some None false e = absurd (true≢false e)
none_some (Some x) true e = absurd (true≢false (sym e))
none_some (Some x) false e = refl

pub map_some : {X Y : Type 0} (f : X → Y) (r : Option X) → is_some (option_map f r) ≡ is_some r
map_some f None = refl
map_some f (Some x) = refl
