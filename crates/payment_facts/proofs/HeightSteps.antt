-- A coin tells whether a transaction of its txid is confirmed.
use Rattle.std.proofs.Common.{◌≡◌, ◌∙◌, ℕ, Bool, Option, Some, None, refl, sym, ap}
use Rattle.std.specs.Prelude.{find, is_none, is_some, option_map}
use Rattle.std.proofs.lemmas.Option.{same_Some}
use Rattle.fund_base.proofs.OutpointLaws.{same_outpoint-Decides}
use Rattle.fund_base.specs.Outpoints.{same_outpoint}
use Rattle.fund_base.specs.declared.outpoint.OutPoint.{OutPoint}
use Rattle.coin_book.specs.AtOutpoint.{coin_under}
use Rattle.coin_book.specs.Coins.{Made, coins_of, made_of, parent_of}
use Rattle.coin_book.specs.History.{History}
use Rattle.coin_book.specs.Spends.{height_of}
use Rattle.coin_book.specs.declared.coin.Coin.{Coin}
use Rattle.payment_states.specs.Candidates.{is_coin}
use Rattle.payment_states.proofs.MakerSteps.{found}
use Rattle.payment_states.proofs.Mine.{map_some, parent_is}
use Rattle.payment_states.proofs.TellSteps.{TellsHeight, all_tell}

-- the coin at an outpoint has a height exactly where its txid has
pub coin_tells : (h : History) (o : OutPoint) (c : Coin) → coin_under h o ≡ Some c → is_none (height_of h.confirmed o.txid) ≡ is_none c.height
coin_tells h o c at = by (find test (made_of h)) refl at
  where
    test : Made → Bool
    test m = same_outpoint o m.coin.coin

    by : (r : Option Made) → find test (made_of h) ≡ r → option_map (λ (m : Made). m.coin) r ≡ Some c → is_none (height_of h.confirmed o.txid) ≡ is_none c.height
    by None e is = absurd cc
    by (Some m) e is =
        let f = found (TellsHeight h) test (made_of h) m (all_tell h) e in
        ap (λ (p : OutPoint). is_none (height_of h.confirmed p.txid)) ((same_outpoint-Decides o m.coin.coin).0 f.0) ∙ f.1 ∙ ap (λ (k : Coin). is_none k.height) (same_Some m.coin c is)

-- a coin is found exactly where one stands
pub coin_is : (h : History) (o : OutPoint) → is_some (coin_under h o) ≡ is_coin (coins_of h) o
coin_is h o =
    let test : Made → Bool = λ m. same_outpoint o m.coin.coin in
    map_some (λ (m : Made). m.coin) (find test (made_of h)) ∙ sym (map_some (λ (m : Made). m.maker) (find test (made_of h))) ∙ parent_is h o
