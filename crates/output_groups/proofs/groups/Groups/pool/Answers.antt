use Rattle.std.proofs.Common.{◌≤◌, ◌∙◌, ap, subst, sym, arith}
use Rattle.std.specs.Prelude.{List, filter, length, map}
use Rattle.coin_candidates.specs.declared.candidate.Candidate.{Candidate}
use Rattle.pick_problem.specs.Pool.{AreItems}
use Rattle.output_groups.specs.Formed.{coins_at, keeps_formed}
use Rattle.output_groups.specs.PlainGroups.{PlainGroups, pool_in}
use Rattle.output_groups.specs.PlainPool.{PlainPool}
use Rattle.output_groups.specs.declared.formed.Formed.{Formed}
use Rattle.output_groups.proofs.PlacedLaws.{groups_seen, items_fit_formed, items_seen}
use Rattle.output_groups.proofs.UniqueLaws.{same_pool}
use Rattle.output_groups.proofs.groups.Groups.pool.Goals as goal

pub returns-clause-value : goal.returns-clause-value
returns-clause-value c =
    let row = c.args.row.now in
    let in_it = c.self.inside in
    let made = c.in_ok-pool.ensures in
    let items =
    made.items
    ∙ ap (λ (fs : List Formed). map (λ (f : Formed). f.item) (filter (keeps_formed row) fs)) c.deref-2.ensures.value
    ∙ items_seen in_it.group row in_it.rate in_it.long_term in_it.candidates.now in_it.coins.items in_it.formed.items c.self.invariant in
    let groups =
    made.groups
    ∙ ap (λ (cs : List Candidate). map (coins_at cs) (filter (keeps_formed row) c.deref-2.result.now)) c.deref.ensures.value
    ∙ ap (λ (fs : List Formed). map (coins_at in_it.coins.items) (filter (keeps_formed row) fs)) c.deref-2.ensures.value
    ∙ groups_seen in_it.group row in_it.rate in_it.long_term in_it.candidates.now in_it.coins.items in_it.formed.items c.self.invariant in
    let inner : PlainGroups = record { candidates = in_it.candidates.now; group = in_it.group; rate = in_it.rate; long_term = in_it.long_term } in
    same_pool c.in_ok-pool.pool (pool_in inner row) items groups ∙ ap (λ (g : PlainGroups). pool_in g row) c.self.view_is

pub returns-clause-items : goal.returns-clause-items
returns-clause-items c =
    let row = c.args.row.now in
    let in_it = c.self.inside in
    let inner : PlainGroups = record { candidates = in_it.candidates.now; group = in_it.group; rate = in_it.rate; long_term = in_it.long_term } in
    let few : length (pool_in c.args.self.now row).groups ≤ 10_000 = omega (arith, c.in_ok-count.ensures.value, c.in_ok-count.ensures.most) in
    let few_in : length (pool_in inner row).groups ≤ 10_000 = subst (λ (g : PlainGroups). length (pool_in g row).groups ≤ 10_000) (sym c.self.view_is) few in
    let fit : AreItems (pool_in inner row).items = items_fit_formed in_it.group row in_it.rate in_it.long_term in_it.candidates.now in_it.coins.items in_it.formed.items c.self.invariant few_in in
    subst AreItems (sym (ap (λ (p : PlainPool). p.items) (returns-clause-value c))) (subst (λ (g : PlainGroups). AreItems (pool_in g row).items) c.self.view_is fit)
