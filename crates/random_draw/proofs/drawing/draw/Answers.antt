use Rattle.std.specs.Prelude.{◌≡◌, ℕ, List, [], length, Option}
use Rattle.std.proofs.Common.{ap, sym, subst, ◌∙◌}
use Rattle.std.proofs.lemmas.Result.{IfOk-weaker}
use Rattle.pick_problem.specs.Admissible.{IsFit}
use Rattle.pick_problem.specs.declared.item.Item.{Item}
use Rattle.random_draw.specs.Order.{order_of}
use Rattle.random_draw.specs.Draw.{draw_of, found_from}
use Rattle.random_draw.specs.KeptPlaces.{AreFresh}
use Rattle.random_draw.proofs.Fresh.{found_fits}
use Rattle.random_draw.proofs.OrderLaws.{order_fresh}
use Rattle.random_draw.proofs.drawing.draw.Goals as goal

pub find-requires : goal.find-requires
find-requires c =
    let whole : c.as_slice.result.now ≡ order_of c.args.seed (length c.args.problem.now.items) = c.as_slice.ensures ∙ (c.in_ok-order.ensures ∙ ap (λ (items : List Item). order_of c.args.seed (length items)) c.items.ensures.items) in
    rw whole (order_fresh c.args.problem.now c.args.seed)

pub returns-clause-value : goal.returns-clause-value
unfolding draw_of
returns-clause-value c =
    let whole : c.as_slice.result.now ≡ order_of c.args.seed (length c.args.problem.now.items) = c.as_slice.ensures ∙ (c.in_ok-order.ensures ∙ ap (λ (items : List Item). order_of c.args.seed (length items)) c.items.ensures.items) in
    rw whole at c.find.ensures

pub returns-clause-admissible : goal.returns-clause-admissible
returns-clause-admissible c =
    let whole : c.as_slice.result.now ≡ order_of c.args.seed (length c.args.problem.now.items) = c.as_slice.ensures ∙ (c.in_ok-order.ensures ∙ ap (λ (items : List Item). order_of c.args.seed (length items)) c.items.ensures.items) in
    let fresh : AreFresh c.args.problem.now [] c.as_slice.result.now = rw whole (order_fresh c.args.problem.now c.args.seed) in
    IfOk-weaker c.find.result (λ found. found ≡ found_from c.args.problem.now [] c.as_slice.result.now) (λ found. IsFit c.args.problem.now found)
    (λ found e. subst (λ (r : Option (List ℕ)). IsFit c.args.problem.now r) (sym e) (found_fits c.args.problem.now c.items.ensures.problem c.requires [] c.as_slice.result.now tt fresh))
    c.find.ensures
