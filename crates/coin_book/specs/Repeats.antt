-- Which outpoint comes again first.
use Rattle.std.specs.Prelude.{ℕ, ◌≡◌, ◌≢◌, ◌≤◌, List, take, Contains, slice_get, Some}
use Rattle.std.specs.List.{AllPairs}
use Rattle.fund_base.specs.declared.outpoint.OutPoint.{OutPoint}

-- none of these stands twice
abbrev pub AreApart : List OutPoint → Type 0
AreApart os = AllPairs (λ (a b : OutPoint). a ≢ b) os

-- The outpoint stands at a place of these before which none stands twice, and stands before that place too. At most
-- 100,000 stand before it.
pub record IsFirstRepeat (os : List OutPoint) (o : OutPoint) : Type 0 where
  pub place : ℕ
  pub stands : slice_get os place ≡ Some o
  pub again : Contains (take place os) o
  pub first : AreApart (take place os)
  pub within : place ≤ 100_000
