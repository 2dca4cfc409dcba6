-- A stack of byte strings, without where it lies in memory.
use Rattle.std.specs.Prelude.{ℕ, List, Vec, map}
use Rattle.std.specs.declared.alloc.Global.{Global}

abbrev pub lists : List (Vec ℕ Global) → List (List ℕ)
lists items = map (λ (v : Vec ℕ Global). v.items) items
