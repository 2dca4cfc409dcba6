-- The pool of a row, as a function: the groups that the useful coins form are formed and sorted once, and each row keeps
-- those of them that it takes.
use Rattle.std.specs.Prelude.{ℕ, Bool, List, [], ◌∷◌, map, filter, if◌then◌else◌}
use Rattle.std.specs.Ordering.{is_lt}
use Rattle.coin_candidates.specs.declared.candidate.Candidate.{Candidate}
use Rattle.output_groups.specs.Counting.{parts_in}
use Rattle.output_groups.specs.Measures.{is_useful}
use Rattle.output_groups.specs.PlainPool.{PlainPool}
use Rattle.output_groups.specs.Pool.{group_cmp, item_of, keeps}
use Rattle.output_groups.specs.Part.{Part}
use Rattle.output_groups.specs.declared.rows.Row.{Row}

-- a group among sorted ones, after those that come before it
abbrev pub placed : ℕ → ℕ → Part → List Part → List Part
placed rate long_term p [] = p ∷ []
placed rate long_term p (q ∷ qs) = if is_lt (group_cmp rate long_term q.coins p.coins) then q ∷ placed rate long_term p qs else p ∷ q ∷ qs

-- groups in the order of a pool
abbrev pub sorted : ℕ → ℕ → List Part → List Part
sorted rate long_term [] = []
sorted rate long_term (p ∷ ps) = placed rate long_term p (sorted rate long_term ps)

-- the groups that the useful coins form, in the order of a pool: they are the same for each row
unfoldable pub formed_of : Bool → ℕ → ℕ → List Candidate → List Part
formed_of group rate long_term cs = sorted rate long_term (parts_in group (filter (is_useful rate) cs))

-- groups with their items
abbrev pub with_items : ℕ → ℕ → List (List Candidate) → PlainPool
with_items rate long_term groups = record { items = map (item_of rate long_term) groups; groups = groups }

-- the pool of a row
unfoldable pub pool_of : Bool → Row → ℕ → ℕ → List Candidate → PlainPool
pool_of group row rate long_term cs = with_items rate long_term (map (λ (p : Part). p.coins) (filter (keeps row) (formed_of group rate long_term cs)))
