use Rattle.std.proofs.Common.{◌≡◌, ◌∙◌, ◌+◌, ◌≤◌, ◌++◌, Bool, cond, List, [], ◌∷◌, Vec, Global, filter, length, map, sym, ap, subst}
use Rattle.std.proofs.lemmas.List.{append-nil, take_all}
use Rattle.coin_candidates.specs.declared.candidate.Candidate.{Candidate}
use Rattle.pick_problem.specs.declared.item.Item.{Item}
use Rattle.output_groups.specs.Formed.{coins_at, keeps_formed}
use Rattle.output_groups.specs.declared.formed.Formed.{Formed}
use Rattle.output_groups.proofs.KeptLaws.{kept_more}
use Rattle.output_groups.proofs.groups.kept_groups.Goals as goal
use Rattle.output_groups.proofs.groups.kept_groups.Goals.{then-is_kept+in_ok-push+in_ok-copied+in_ok-push-2, else-is_kept}

pub copied-requires : goal.copied-requires
copied-requires c = subst (λ (f : Formed). f.start + f.size ≤ length c.args.coins.now) (sym c.one-item.is) (c.requires c.loop-one.one-index c.one-item.result c.loop-one-test.true)

pub loop-one-init : goal.loop-one-init
loop-one-init c = record { items = c.in_ok-items.ensures.items; groups = c.in_ok-groups.ensures.items }

pub loop-one-preserved : goal.loop-one-preserved
loop-one-preserved c =
    let x : Formed = c.one-item.result in
    let p : Formed → Bool = keeps_formed c.args.row.now in
    let xs = c.args.formed.now in
    let i = c.loop-one.one-index in
    let lt = c.loop-one-test.true in
    let at : Formed → List Candidate = coins_at c.args.coins.now in
    let items : List Item = c.loop-one.items.items in
    let groups : List (List Candidate) = c.loop-one.groups.items in
    let items_more : c.if-is_kept.items.items ≡ items ++ cond (p x) (x.item ∷ []) [] =
    elim c.if-is_kept.branch [
      | then-is_kept+in_ok-push+in_ok-copied+in_ok-push-2 w ↦ ap (λ (v : Vec Item Global). v.items) w.items-is ∙ w.in_ok-push.ensures.items ∙ ap (λ b. items ++ cond b (x.item ∷ []) []) (sym (sym c.is_kept.ensures ∙ w.if-is_kept.true))
      | else-is_kept w ↦ ap (λ (v : Vec Item Global). v.items) w.items-is ∙ sym (append-nil items) ∙ ap (λ b. items ++ cond b (x.item ∷ []) []) (sym (sym c.is_kept.ensures ∙ w.if-is_kept.false))
    ]
    in
    let groups_more : c.if-is_kept.groups.items ≡ groups ++ cond (p x) (at x ∷ []) [] =
    elim c.if-is_kept.branch [
      | then-is_kept+in_ok-push+in_ok-copied+in_ok-push-2 w ↦ ap (λ (v : Vec (List Candidate) Global). v.items) w.groups-is ∙ w.in_ok-push-2.ensures.items ∙ ap (λ (g : List Candidate). groups ++ g ∷ []) w.in_ok-copied.ensures ∙ ap (λ b. groups ++ cond b (at x ∷ []) []) (sym (sym c.is_kept.ensures ∙ w.if-is_kept.true))
      | else-is_kept w ↦ ap (λ (v : Vec (List Candidate) Global). v.items) w.groups-is ∙ sym (append-nil groups) ∙ ap (λ b. groups ++ cond b (at x ∷ []) []) (sym (sym c.is_kept.ensures ∙ w.if-is_kept.false))
    ]
    in
    record {
      items =
          items_more
          ∙ (λ k. c.loop-one.invariant.items k ++ cond (p (c.one-item.is k)) ((c.one-item.is k).item ∷ []) [])
          ∙ sym (kept_more (λ (f : Formed). f.item) p xs i x lt);
      groups =
          groups_more
          ∙ (λ k. c.loop-one.invariant.groups k ++ cond (p (c.one-item.is k)) (at (c.one-item.is k) ∷ []) [])
          ∙ sym (kept_more at p xs i x lt);
    }

pub returns-clause-items : goal.returns-clause-items
returns-clause-items c =
    c.loop-one.invariant.items
    ∙ ap (λ (fs : List Formed). map (λ (f : Formed). f.item) (filter (keeps_formed c.args.row.now) fs)) (take_all c.loop-one.one-index c.args.formed.now c.loop-one-test.false)

pub returns-clause-groups : goal.returns-clause-groups
returns-clause-groups c =
    c.loop-one.invariant.groups
    ∙ ap (λ (fs : List Formed). map (coins_at c.args.coins.now) (filter (keeps_formed c.args.row.now) fs)) (take_all c.loop-one.one-index c.args.formed.now c.loop-one-test.false)
