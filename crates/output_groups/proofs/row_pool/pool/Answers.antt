use Rattle.std.proofs.Common.{subst, sym}
use Rattle.std.specs.Prelude.{ℕ, ◌≤◌}
use Rattle.output_groups.specs.PlainGroups.{PlainGroups}
use Rattle.output_groups.specs.Pool.{CountsKept, IsPool}
use Rattle.output_groups.proofs.OnceLaws.{pool_once}
use Rattle.output_groups.proofs.PoolLaws.{pool_groups, pool_meets}
use Rattle.output_groups.proofs.SortLaws.{is_pool}
use Rattle.output_groups.proofs.row_pool.pool.Goals as goal

pub returns-clause-pool : goal.returns-clause-pool
returns-clause-pool c =
    let a = c.args in
    let row = a.row.now in
    let whole = subst (λ (g : PlainGroups). IsPool g.group row g.rate g.long_term g.candidates c.in_ok-pool.pool) c.in_ok-groups.ensures in
    let g = c.in_ok-groups.groups in
    whole (subst (IsPool g.group row g.rate g.long_term g.candidates) (sym c.in_ok-pool.ensures.value) (is_pool g.group row g.rate g.long_term g.candidates))

pub returns-clause-groups : goal.returns-clause-groups
returns-clause-groups c = pool_groups c.args.group c.args.row.now c.args.rate c.args.long_term c.args.candidates.now c.in_ok-pool.pool c.requires.candidates.each (returns-clause-pool c)

pub returns-clause-once : goal.returns-clause-once
returns-clause-once c = pool_once c.args.group c.args.row.now c.args.rate c.args.long_term c.args.candidates.now c.in_ok-pool.pool c.requires.candidates (returns-clause-pool c)

pub returns-clause-meets : goal.returns-clause-meets
returns-clause-meets c = pool_meets c.args.group c.args.row.now c.args.rate c.args.long_term c.args.candidates.now c.in_ok-pool.pool c.requires.row (returns-clause-pool c)

pub returns-clause-few : goal.returns-clause-few
returns-clause-few c = subst (λ (g : PlainGroups). (n : ℕ) → CountsKept g.group c.args.row.now g.rate g.candidates n → n ≤ 10_000) c.in_ok-groups.ensures c.in_ok-pool.ensures.few
