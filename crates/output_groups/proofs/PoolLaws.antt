-- What holds of a pool's groups.
use Rattle.std.specs.Prelude.{◌≡◌, ℕ, ◌≤◌, Bool, true, List, filter, All}
use Rattle.std.proofs.lemmas.List.Elements.{All-filter, All-map, All-weaker, filter_passes}
use Rattle.std.proofs.lemmas.List.Sorted.{All-permutation}
use Rattle.std.proofs.lemmas.Bool.{and_parts}
use Rattle.coin_candidates.specs.Candidates.{IsCandidate}
use Rattle.coin_candidates.specs.declared.candidate.Candidate.{Candidate}
use Rattle.output_groups.specs.Ladder.{Meets}
use Rattle.output_groups.specs.Measures.{IsGroup}
use Rattle.output_groups.specs.Part.{Part}
use Rattle.output_groups.specs.PlainPool.{PlainPool}
use Rattle.output_groups.specs.Pool.{IsPool, group_meets, keeps}
use Rattle.output_groups.specs.declared.rows.Row.{Row}
use Rattle.output_groups.proofs.GroupLaws.{parts_fine}
use Rattle.output_groups.proofs.MeetLaws.{group_each}

-- what holds of the coins of each group that a row keeps holds of the pool's groups
pub kept_all : (P : List Candidate → Type 0) (group : Bool) (row : Row) (rate long_term : ℕ) (cs : List Candidate) (pool : PlainPool) → (is : IsPool group row rate long_term cs pool) → All (λ (p : Part). P p.coins) (filter (keeps row) is.are_kept.parts) → All P pool.groups
kept_all P group row rate long_term cs pool is all =
    All-permutation P is.kept pool.groups is.moved
    (rw is.are_kept.kept_are (All-map P (λ (p : Part). p.coins) (filter (keeps row) is.are_kept.parts) all))

pub pool_groups : (group : Bool) (row : Row) (rate long_term : ℕ) (cs : List Candidate) (pool : PlainPool) → All IsCandidate cs → IsPool group row rate long_term cs pool → All (IsGroup rate) pool.groups
pool_groups group row rate long_term cs pool each is =
    let parts = is.are_kept.parts in
    let fine = parts_fine rate group cs parts each is.are_kept.formed in
    kept_all (IsGroup rate) group row rate long_term cs pool is (All-filter (keeps row) (λ (p : Part). IsGroup rate p.coins) parts fine)

pub pool_meets : (group : Bool) (row : Row) (rate long_term : ℕ) (cs : List Candidate) (pool : PlainPool) → row.own ≤ row.foreign → IsPool group row rate long_term cs pool → All (λ g. All (Meets row) g) pool.groups
pool_meets group row rate long_term cs pool fair is =
    let parts = is.are_kept.parts in
    let passes = filter_passes (keeps row) parts in
    kept_all (λ g. All (Meets row) g) group row rate long_term cs pool is
    (All-weaker (λ p. keeps row p ≡ true) (λ (p : Part). All (Meets row) p.coins) (λ p kept. group_each row p.coins fair (and_parts _ (group_meets row p.coins) kept).1) (filter (keeps row) parts) passes)
