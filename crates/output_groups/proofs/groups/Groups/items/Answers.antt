use Rattle.std.proofs.Common.{◌≤◌, ◌∙◌, ap, subst, sym, arith}
use Rattle.std.specs.Prelude.{ℕ, List, All, filter, length, map}
use Rattle.coin_candidates.specs.declared.candidate.Candidate.{Candidate}
use Rattle.pick_problem.specs.Pool.{AreItems}
use Rattle.output_groups.specs.Formed.{keeps_formed}
use Rattle.output_groups.specs.PlainGroups.{PlainGroups, pool_in}
use Rattle.output_groups.specs.declared.formed.Formed.{Formed}
use Rattle.output_groups.proofs.PlacedLaws.{items_fit_formed, items_seen, sizes_seen, sizes_small}
use Rattle.output_groups.proofs.groups.Groups.items.Goals as goal

pub returns-clause-items : goal.returns-clause-items
returns-clause-items c =
    let row = c.args.row.now in
    let in_it = c.self.inside in
    c.in_ok-items.ensures.items
    ∙ ap (λ (fs : List Formed). map (λ (f : Formed). f.item) (filter (keeps_formed row) fs)) c.deref.ensures.value
    ∙ items_seen in_it.group row in_it.rate in_it.long_term in_it.candidates.now in_it.coins.items in_it.formed.items c.self.invariant
    ∙ ap (λ (g : PlainGroups). (pool_in g row).items) c.self.view_is

pub returns-clause-sizes : goal.returns-clause-sizes
returns-clause-sizes c =
    let row = c.args.row.now in
    let in_it = c.self.inside in
    c.in_ok-items.ensures.sizes
    ∙ ap (λ (fs : List Formed). map (λ (f : Formed). f.size) (filter (keeps_formed row) fs)) c.deref.ensures.value
    ∙ sizes_seen in_it.group row in_it.rate in_it.long_term in_it.candidates.now in_it.coins.items in_it.formed.items c.self.invariant
    ∙ ap (λ (g : PlainGroups). map (λ (x : List Candidate). length x) (pool_in g row).groups) c.self.view_is

pub returns-clause-fit : goal.returns-clause-fit
returns-clause-fit c =
    let row = c.args.row.now in
    let in_it = c.self.inside in
    let inner : PlainGroups = record { candidates = in_it.candidates.now; group = in_it.group; rate = in_it.rate; long_term = in_it.long_term } in
    let few : length (pool_in c.args.self.now row).groups ≤ 10_000 = omega (arith, c.in_ok-count.ensures.value, c.in_ok-count.ensures.most) in
    let few_in : length (pool_in inner row).groups ≤ 10_000 = subst (λ (g : PlainGroups). length (pool_in g row).groups ≤ 10_000) (sym c.self.view_is) few in
    let fit : AreItems (pool_in inner row).items = items_fit_formed in_it.group row in_it.rate in_it.long_term in_it.candidates.now in_it.coins.items in_it.formed.items c.self.invariant few_in in
    subst AreItems (sym (returns-clause-items c)) (subst (λ (g : PlainGroups). AreItems (pool_in g row).items) c.self.view_is fit)

pub returns-clause-small : goal.returns-clause-small
returns-clause-small c =
    let row = c.args.row.now in
    let in_it = c.self.inside in
    let is = c.in_ok-items.ensures.sizes ∙ ap (λ (fs : List Formed). map (λ (f : Formed). f.size) (filter (keeps_formed row) fs)) c.deref.ensures.value in
    subst (λ (ns : List ℕ). All (λ n. n ≤ 100) ns) (sym is) (sizes_small in_it.group row in_it.rate in_it.long_term in_it.candidates.now in_it.coins.items in_it.formed.items c.self.invariant)
