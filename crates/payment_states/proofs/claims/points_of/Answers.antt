use Rattle.std.proofs.Common.{◌≡◌, ◌∙◌, ◌||◌, Bool, true, false, cond, take, get_or, refl, sym, ap}
use Rattle.std.specs.List.{list_any}
use Rattle.std.proofs.lemmas.List.Folds.{list_any_more}
use Rattle.fund_base.specs.Outpoints.{same_outpoint}
use Rattle.fund_base.specs.declared.outpoint.OutPoint.{OutPoint}
use Rattle.payment_states.proofs.claims.points_of.Goals as goal

turn : (b a : Bool) → cond b true a ≡ (a || b)
turn true true = refl
turn true false = refl
turn false true = refl
turn false false = refl

pub loop-point-preserved : goal.loop-point-preserved
loop-point-preserved c = λ o.
    let p : OutPoint → Bool = λ x. same_outpoint x o in
    let xs = c.args.points.now in
    let i = c.loop-point.point-index in
    c.in_ok-insert.ensures.updates.0 o
    ∙ (λ k. cond (ap p c.point-item.is k) true (c.loop-point.invariant o k))
    ∙ turn (p (get_or xs i c.point-item.result)) (list_any p (take i xs))
    ∙ sym (list_any_more p xs i c.point-item.result c.loop-point-test.true)
