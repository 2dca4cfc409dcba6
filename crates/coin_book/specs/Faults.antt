-- Histories that no book holds.
use Rattle.std.specs.Prelude.{ℕ, ◌≡◌, ◌≢◌, List, [], ◌∷◌, ◌++◌, length, map, nat_lt, Option, Some, None, Result, Ok, Err, if◌then◌else◌}
use Rattle.std.specs.List.{list_any}
use Rattle.std.specs.Option.{option_or}
use Rattle.fund_base.specs.Outpoints.{same_outpoint}
use Rattle.fund_base.specs.declared.outpoint.OutPoint.{OutPoint}
use Rattle.coin_book.specs.Coins.{Made, confirmed_made, made_of}
use Rattle.coin_book.specs.History.{History}
use Rattle.coin_book.specs.declared.fault.BookFault.{BookFault}
use Rattle.coin_book.specs.declared.fault.BookFault.TheVariants.{RepeatCoin, Full, Memory}

-- What is wrong with the first of these outpoints that is wrong, where they stand in order after others: it stands
-- among those before it already, or else it is number 100,001.
unfoldable pub fault_behind : List OutPoint → List OutPoint → Option BookFault
fault_behind before [] = None
fault_behind before (o ∷ rest) =
    if list_any (same_outpoint o) before then Some (RepeatCoin o) else if nat_lt (length before) 100_000 then fault_behind (before ++ o ∷ []) rest else Some Full

-- the outpoints of coins
abbrev pub points : List Made → List OutPoint
points made = map (λ (m : Made). m.coin.coin) made

-- a coin is number 100,001
abbrev pub full_at : ℕ → Option BookFault
full_at count = if nat_lt 100_000 count then Some Full else None

-- What keeps a history from a book is wrong with the first coin, in order of creation, at which something is wrong: its
-- outpoint is a confirmed coin for the second time, or it is number 100,001.
abbrev pub fault_of : History → Option BookFault
fault_of h = option_or (fault_behind [] (points (confirmed_made h))) (full_at (length (made_of h)))

-- The call was right to end so, where it was to make a book of this history.
abbrev pub Answers : {A : Type 0} → Result A BookFault → History → Type 0
Answers (Ok a) h = fault_of h ≡ None
Answers (Err e) h = e ≢ Memory → fault_of h ≡ Some e
