use Rattle.std.proofs.Common.{◌≡◌, ◌∙◌, ℕ, Bool, true, false, not, [], ◌∷◌, ◌++◌, get_or, Option, Some, None, refl, sym, arith}
use Rattle.std.specs.Prelude.{is_none, is_some}
use Rattle.std.proofs.lemmas.Bool.{true≢false}
use Rattle.std.proofs.lemmas.List.{map_more}
use Rattle.payment_states.proofs.abandoned.which_not.Goals as goal

none_from : (o : Option ℕ) (b : Bool) → is_some o ≡ not b → b ≡ is_none o
none_from None true e = refl
none_from None false e = absurd (true≢false (sym e))
none_from (Some n) true e = absurd (true≢false e)
none_from (Some n) false e = refl

pub loop-number-preserved : goal.loop-number-preserved
loop-number-preserved c =
    let xs = c.args.numbers.now in
    let i = c.loop-number.number-index in (
      c.in_ok-push.ensures.items
          ∙ (λ k. c.loop-number.invariant.0 k ++ none_from (get_or xs i None) c.is_none.result c.is_none.ensures k ∷ [])
          ∙ sym (map_more is_none xs i None c.loop-number-test.true),
      omega (arith, c.in_ok-push.ensures.len),
    )
