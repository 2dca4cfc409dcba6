use Rattle.std.proofs.Common.{◌≡◌, ℕ, ◌+◌, ◌-◌, ◌/◌, ◌<◌, true, length, rules, ap, ◌∙◌}
use Rattle.pick_problem.specs.declared.item.Item.{Item}
use Rattle.pick_problem.specs.declared.item.Kind.TheVariants.{Lean}
use Rattle.pick_problem.specs.Later.{least_weight}
use Rattle.pick_problem.specs.Pool.{item_at}
use Rattle.walk_engine.proofs.CaseLaws.{far_lean, place_behind}
use Rattle.walk_engine.proofs.cases.is_far.Goals as goal

pub returns-in-Lean : goal.returns-in-Lean
returns-in-Lean c =
    let p = c.args.prepared.now in
    let s = c.args.stack.now in
    let t = c.args.t in
    let found : c.args.best.now.found ≡ true = search rules in
    let kind : p.kind ≡ Lean = cc in
    let value = ap (λ (x : Item). x.value) c.item.ensures.item in
    let behind : t + 1 < length p.items = place_behind p t s.gap c.requires.below c.requires.low c.requires.later in
    let need : c.from-needed.result ≡ (s.gap - 1) / (item_at p.items t).value = c.from-needed.ensures
    ∙ ap (λ (v : ℕ). (s.gap - 1) / v) value in
    let least : c.from.result ≡ least_weight p (t + 1) = c.from.ensures ∙ c.weight_behind.ensures.some behind in
    far_lean p s c.args.best.now t _ _ _ _ c.item.ensures.problem c.requires.below c.requires.stack c.requires.best
    found kind c.requires.low
    c.from-in-Lean.ensures (c.from-in-Lean-2.ensures ∙ c.weight_with.ensures) need least
