use Rattle.std.proofs.Common.{◌≡◌, ◌∙◌, ◌++◌, ℕ, Bool, cond, List, [], ◌∷◌, Vec, Global, filter, map, sym, ap}
use Rattle.std.proofs.lemmas.List.{append-nil, take_all}
use Rattle.pick_problem.specs.declared.item.Item.{Item}
use Rattle.output_groups.specs.Formed.{keeps_formed}
use Rattle.output_groups.specs.declared.formed.Formed.{Formed}
use Rattle.output_groups.proofs.KeptLaws.{kept_more}
use Rattle.output_groups.proofs.groups.kept_items.Goals as goal
use Rattle.output_groups.proofs.groups.kept_items.Goals.{then-is_kept+in_ok-push+in_ok-push-2, else-is_kept}

pub loop-one-init : goal.loop-one-init
loop-one-init c = record { items = c.in_ok-items.ensures.items; sizes = c.in_ok-sizes.ensures.items }

pub loop-one-preserved : goal.loop-one-preserved
loop-one-preserved c =
    let x : Formed = c.one-item.result in
    let p : Formed → Bool = keeps_formed c.args.row.now in
    let xs = c.args.formed.now in
    let i = c.loop-one.one-index in
    let lt = c.loop-one-test.true in
    let items : List Item = c.loop-one.items.items in
    let sizes : List ℕ = c.loop-one.sizes.items in
    let items_more : c.if-is_kept.items.items ≡ items ++ cond (p x) (x.item ∷ []) [] =
    elim c.if-is_kept.branch [
      | then-is_kept+in_ok-push+in_ok-push-2 w ↦ ap (λ (v : Vec Item Global). v.items) w.items-is ∙ w.in_ok-push.ensures.items ∙ ap (λ b. items ++ cond b (x.item ∷ []) []) (sym (sym c.is_kept.ensures ∙ w.if-is_kept.true))
      | else-is_kept w ↦ ap (λ (v : Vec Item Global). v.items) w.items-is ∙ sym (append-nil items) ∙ ap (λ b. items ++ cond b (x.item ∷ []) []) (sym (sym c.is_kept.ensures ∙ w.if-is_kept.false))
    ]
    in
    let sizes_more : c.if-is_kept.sizes.items ≡ sizes ++ cond (p x) (x.size ∷ []) [] =
    elim c.if-is_kept.branch [
      | then-is_kept+in_ok-push+in_ok-push-2 w ↦ ap (λ (v : Vec ℕ Global). v.items) w.sizes-is ∙ w.in_ok-push-2.ensures.items ∙ ap (λ b. sizes ++ cond b (x.size ∷ []) []) (sym (sym c.is_kept.ensures ∙ w.if-is_kept.true))
      | else-is_kept w ↦ ap (λ (v : Vec ℕ Global). v.items) w.sizes-is ∙ sym (append-nil sizes) ∙ ap (λ b. sizes ++ cond b (x.size ∷ []) []) (sym (sym c.is_kept.ensures ∙ w.if-is_kept.false))
    ]
    in
    record {
      items =
          items_more
          ∙ (λ k. c.loop-one.invariant.items k ++ cond (p (c.one-item.is k)) ((c.one-item.is k).item ∷ []) [])
          ∙ sym (kept_more (λ (f : Formed). f.item) p xs i x lt);
      sizes =
          sizes_more
          ∙ (λ k. c.loop-one.invariant.sizes k ++ cond (p (c.one-item.is k)) ((c.one-item.is k).size ∷ []) [])
          ∙ sym (kept_more (λ (f : Formed). f.size) p xs i x lt);
    }

pub returns-clause-items : goal.returns-clause-items
returns-clause-items c =
    c.loop-one.invariant.items
    ∙ ap (λ (fs : List Formed). map (λ (f : Formed). f.item) (filter (keeps_formed c.args.row.now) fs)) (take_all c.loop-one.one-index c.args.formed.now c.loop-one-test.false)

pub returns-clause-sizes : goal.returns-clause-sizes
returns-clause-sizes c =
    c.loop-one.invariant.sizes
    ∙ ap (λ (fs : List Formed). map (λ (f : Formed). f.size) (filter (keeps_formed c.args.row.now) fs)) (take_all c.loop-one.one-index c.args.formed.now c.loop-one-test.false)
