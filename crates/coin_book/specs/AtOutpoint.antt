-- The coin at an outpoint.
use Rattle.std.specs.Prelude.{Option, find, option_map}
use Rattle.fund_base.specs.Outpoints.{same_outpoint}
use Rattle.fund_base.specs.declared.outpoint.OutPoint.{OutPoint}
use Rattle.coin_book.specs.Coins.{Made, made_of}
use Rattle.coin_book.specs.History.{History}
use Rattle.coin_book.specs.declared.coin.Coin.{Coin}

-- the coin whose outpoint this is, if there is one
abbrev pub coin_under : History → OutPoint → Option Coin
coin_under h o = option_map (λ (m : Made). m.coin) (find (λ (m : Made). same_outpoint o m.coin.coin) (made_of h))
