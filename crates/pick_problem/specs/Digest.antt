-- The digest that names a problem.
use Rattle.std.specs.Prelude.{ℕ, List, ◌∷◌, ◌++◌, length}
use Rattle.std.specs.Int.{w32, w64, to_le_bytes, cast_unsigned}
use Rattle.std.specs.List.{flat_map}
use Rattle.sha2.specs.Sha256.{sha256}
use Rattle.pick_problem.specs.declared.item.Item.{Item}
use Rattle.pick_problem.specs.declared.item.Kind.{Kind}
use Rattle.pick_problem.specs.declared.item.Kind.TheVariants.{Changeless, Lean}
use Rattle.pick_problem.specs.Problem.{PlainProblem}

abbrev pub kind_byte : Kind → ℕ
kind_byte Changeless = 0
kind_byte Lean = 1

-- value, weight and cost, 8 bytes each, the cost in two's complement, low byte first
unfoldable pub item_bytes : Item → List ℕ
item_bytes x = to_le_bytes w64 x.value ++ to_le_bytes w64 x.weight ++ to_le_bytes w64 (cast_unsigned w64 x.cost)

-- one byte for the kind; lo, hi and the greatest weight, 8 bytes each; the number of items, 4 bytes; low byte first
unfoldable pub head_bytes : PlainProblem → List ℕ
head_bytes p =
    kind_byte p.kind ∷ (to_le_bytes w64 p.lo ++ to_le_bytes w64 p.hi ++ to_le_bytes w64 p.most_weight ++ to_le_bytes w32 (length p.items))

-- all that makes a problem
abbrev pub problem_bytes : PlainProblem → List ℕ
problem_bytes p = head_bytes p ++ flat_map item_bytes p.items

abbrev pub digest_of : PlainProblem → List ℕ
digest_of p = sha256 (problem_bytes p)
