use Rattle.std.proofs.Common.{◌≡◌, ◌≤◌, ◌∙◌, ap, subst, sym, arith}
use Rattle.std.specs.Prelude.{List, filter, length}
use Rattle.output_groups.specs.Formed.{keeps_formed}
use Rattle.output_groups.specs.PlainGroups.{PlainGroups, pool_in}
use Rattle.output_groups.specs.Pool.{CountsKept}
use Rattle.output_groups.specs.declared.formed.Formed.{Formed}
use Rattle.output_groups.proofs.PlacedLaws.{count_seen, counted, few_kept}
use Rattle.output_groups.proofs.groups.Groups.count.Goals as goal

pub returns-then-count-gt-MOST_GROUPS-clause-many : goal.returns-then-count-gt-MOST_GROUPS-clause-many
returns-then-count-gt-MOST_GROUPS-clause-many c =
    let row = c.args.row.now in
    let in_it = c.self.inside in
    let now = c.args.self.now in
    let seen : c.count_kept-count.result ≡ length (pool_in now row).groups =
    c.count_kept-count.ensures
    ∙ ap (λ (fs : List Formed). length (filter (keeps_formed row) fs)) c.deref.ensures.value
    ∙ count_seen in_it.group row in_it.rate in_it.long_term in_it.candidates.now in_it.coins.items in_it.formed.items c.self.invariant
    ∙ ap (λ (g : PlainGroups). length (pool_in g row).groups) c.self.view_is in
    (subst (CountsKept now.group row now.rate now.candidates) (sym seen) (counted now.group row now.rate now.long_term now.candidates), omega arith)

pub returns-clause-value : goal.returns-clause-value
returns-clause-value c =
    let row = c.args.row.now in
    let in_it = c.self.inside in
    c.count_kept-count.ensures
    ∙ ap (λ (fs : List Formed). length (filter (keeps_formed row) fs)) c.deref.ensures.value
    ∙ count_seen in_it.group row in_it.rate in_it.long_term in_it.candidates.now in_it.coins.items in_it.formed.items c.self.invariant
    ∙ ap (λ (g : PlainGroups). length (pool_in g row).groups) c.self.view_is

pub returns-clause-few : goal.returns-clause-few
returns-clause-few c =
    let now = c.args.self.now in
    let few : length (pool_in now c.args.row.now).groups ≤ 10_000 = omega (arith, returns-clause-value c) in
    few_kept now.group c.args.row.now now.rate now.long_term now.candidates few
