-- What the steps of adding a transaction speak of.
use Rattle.std.specs.Prelude.{ℕ, ◌≡◌, ◌≢◌, ◌+◌, ◌<◌, ◌&&◌, ◌||◌, not, Bool, List, filter, length, take, Option, Some, None, is_none, Result, Ok, Err, bytes_eq}
use Rattle.std.specs.List.{list_any}
use Rattle.std.specs.Map.{keys_of, lookup}
use Rattle.fund_base.specs.declared.outpoint.OutPoint.{OutPoint}
use Rattle.coin_book.specs.Faults.{fault_behind}
use Rattle.coin_book.specs.Places.{spends_in}
use Rattle.coin_book.specs.Watched.{PlainWatched, watches}
use Rattle.coin_book.specs.declared.coin.Spend.{Spend}
use Rattle.coin_book.specs.declared.fault.BookFault.{BookFault}
use Rattle.coin_book.specs.declared.fault.BookFault.TheVariants.{Memory}
use Rattle.coin_book.specs.declared.held.Held.{Held}

-- the outpoint of what is held
abbrev pub held_point : Held → OutPoint
held_point held = held.coin.coin

-- what is held, under its outpoint
abbrev pub entry_of : Held → OutPoint × Held
entry_of held = (held.coin.coin, held)

-- one of these spends is that of a transaction of this txid
unfoldable pub is_spender : List Spend → List ℕ → Bool
is_spender spends txid = list_any (λ (s : Spend). bytes_eq s.txid txid) spends

-- A spend of the outpoint by a transaction of this txid is to be kept: the outpoint is watched, and none is kept of that
-- transaction, among these or those before them.
abbrev pub is_new : PlainWatched → List (OutPoint × List Spend) → List (OutPoint × List Spend) → List ℕ → OutPoint → Bool
is_new w base own txid o = watches w o && not (is_spender (spends_in base o) txid || is_spender (spends_in own o) txid)

-- a coin at this outpoint stays among those that wait, since its txid has no height among these
abbrev pub stays : List (List ℕ × ℕ) → OutPoint → Bool
stays heights o = is_none (lookup (bytes_eq o.txid) heights)

-- the entries that stay
abbrev pub staying : List (List ℕ × ℕ) → List (OutPoint × Held) → List (OutPoint × Held)
staying heights entries = filter (λ (e : OutPoint × Held). stays heights e.0) entries

-- some txid has a height
abbrev pub shares : List (List ℕ) → List (List ℕ × ℕ) → Bool
shares txids heights = list_any (λ (t : List ℕ). list_any (bytes_eq t) txids) (keys_of heights)

-- the call found no fault where there is none, or the first, or memory was short
abbrev pub Meets : {A : Type 0} → Result A BookFault → Option BookFault → Type 0
Meets (Ok a) fault = fault ≡ None
Meets (Err e) fault = e ≢ Memory → fault ≡ Some e

-- Memory was short for one of these outpoints, which stand after others: those before it were added to so many entries,
-- and none up to it has a fault.
pub record StopsShort (before behind : List OutPoint) (old new : ℕ) : Type 0 where
  pub added : ℕ
  pub count : new ≡ old + added
  pub place : added < length behind
  pub sound : fault_behind before (take (added + 1) behind) ≡ None
