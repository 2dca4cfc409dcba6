-- What a writer has taken.
use Rattle.std.specs.Prelude.{ℕ, List, ◌++◌}

-- A writer that had taken some bytes has then taken these behind them; `holds w m` says that w has taken m.
pub record Feeds {W : Type 0} (holds : W → List ℕ → Type 0) (old new : W) (bytes : List ℕ) : Type 0 where
  pub feeds : (m : List ℕ) → holds old m → holds new (m ++ bytes)
