use Rattle.std.proofs.Common.{◌≡◌, ◌∙◌, ◌++◌, Bool, cond, List, [], ◌∷◌, Vec, Global, filter, sym, ap}
use Rattle.std.proofs.lemmas.List.{append-nil, take_all}
use Rattle.std.proofs.lemmas.List.Elements.{filter_more}
use Rattle.output_groups.specs.Formed.{keeps_formed}
use Rattle.output_groups.specs.declared.formed.Formed.{Formed}
use Rattle.output_groups.proofs.groups.kept.Goals as goal
use Rattle.output_groups.proofs.groups.kept.Goals.{then-is_kept+in_ok-push, else-is_kept}

pub loop-one-preserved : goal.loop-one-preserved
loop-one-preserved c =
    let x : Formed = c.one-item.result in
    let p : Formed → Bool = keeps_formed c.args.row.now in
    let xs = c.args.formed.now in
    let i = c.loop-one.one-index in
    let lt = c.loop-one-test.true in
    let old : List Formed = c.loop-one.kept.items in
    let more : c.if-is_kept.kept.items ≡ old ++ cond (p x) (x ∷ []) [] =
    elim c.if-is_kept.branch [
      | then-is_kept+in_ok-push w ↦ ap (λ (v : Vec Formed Global). v.items) w.kept-is ∙ w.in_ok-push.ensures.items ∙ ap (λ (f : Formed). old ++ f ∷ []) w.new.ensures ∙ ap (λ b. old ++ cond b (x ∷ []) []) (sym (sym c.is_kept.ensures ∙ w.if-is_kept.true))
      | else-is_kept w ↦ ap (λ (v : Vec Formed Global). v.items) w.kept-is ∙ sym (append-nil old) ∙ ap (λ b. old ++ cond b (x ∷ []) []) (sym (sym c.is_kept.ensures ∙ w.if-is_kept.false))
    ]
    in
    more
    ∙ (λ k. c.loop-one.invariant k ++ cond (p (c.one-item.is k)) (c.one-item.is k ∷ []) [])
    ∙ sym (filter_more p xs i x lt)

pub returns : goal.returns
returns c = c.loop-one.invariant ∙ ap (λ (fs : List Formed). filter (keeps_formed c.args.row.now) fs) (take_all c.loop-one.one-index c.args.formed.now c.loop-one-test.false)
