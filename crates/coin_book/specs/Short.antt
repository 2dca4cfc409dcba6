-- Where memory was short while a block was added.
use Rattle.std.specs.Prelude.{ℕ, ◌≡◌, ◌+◌, ◌≤◌, ◌^◌, ◌⊎◌, List, ◌∷◌, ◌++◌, length, take, Option, None}
use Rattle.block_feed.specs.Block.{ChainBlock}
use Rattle.coin_book.specs.Coins.{made_by, weight_for}
use Rattle.coin_book.specs.Faults.{fault_behind, fault_of, points}
use Rattle.coin_book.specs.History.{Confirmed, History, confirmed_in, with_block}
use Rattle.coin_book.specs.Invariant.{points_in}

-- Memory was short for one of these transactions, which stand after others: no coin of those before it is at fault, nor is
-- its own first coin.
pub record StopsAt (weigh : List ℕ → Option ℕ) (before behind : List Confirmed) : Type 0 where
  pub front : List Confirmed
  pub one : Confirmed
  pub rest : List Confirmed
  pub parts : behind ≡ front ++ one ∷ rest
  pub sound : fault_behind (points_in weigh before) (points_in weigh front ++ take 1 (points (made_by weigh one))) ≡ None

-- Memory was short for a transaction of the block; or nothing is wrong with the block; or there would be more confirmed
-- transactions than any memory holds.
abbrev pub IsShortFor : History → ChainBlock → Type 0
IsShortFor h b = StopsAt (weight_for h.scripts) h.confirmed (confirmed_in b) ⊎ ((fault_of (with_block h b) ≡ None) ⊎ (2 ^ 64 ≤ length h.confirmed + length b.txs))
