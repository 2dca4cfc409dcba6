use Rattle.std.proofs.Common.{◌≡◌, ◌≤ℤ◌, ℤ, pos, arith, subst}
use Rattle.std.proofs.lemmas.Int.{ints}
use Rattle.fee_rates.specs.declared.terms.Rates.{Rates}
use Rattle.fee_rates.specs.Terms.{target_of}
use Rattle.fund_steps.proofs.turns.row_turns.Goals as goal
use Rattle.fund_steps.proofs.turns.row_turns.Goals.{else-load-via-then-load+else-terms-le0, else-load-via-else-load}

-- where no presets are given the target is above nothing; else it was looked at
pub returns-clause-some : goal.returns-clause-some
returns-clause-some c = λ some.
    let above : pos 1 ≤ℤ c.new-terms.result.target = elim c.else-load.branch [
      | else-load-via-then-load+else-terms-le0 w ↦ omega (arith, ints, w.if-terms-le0.false)
      | else-load-via-else-load w ↦ c.new-terms.ensures.agree.some w.if-load.false
    ] in
    subst (λ (r : Rates). pos 1 ≤ℤ target_of r c.args.load.now) c.rates.ensures.value
    (subst (λ (t : ℤ). pos 1 ≤ℤ t) c.new-terms.ensures.target above)
