use Rattle.std.proofs.Common.{◌≤◌, ◌∙◌, ap, arith, subst, sym}
use Rattle.std.specs.Prelude.{ℕ, List, All, length, sum}
use Rattle.fund_steps.specs.Basis.{basis_of, load_alone}
use Rattle.fund_steps.specs.Searches.{load_with}
use Rattle.fund_steps.proofs.MakingLaws.{total}
use Rattle.fund_plan.specs.Steps.{pool_in}
use Rattle.fund_plan.proofs.funding.PaymentMaker.load_by.Goals as goal

pub load-requires-clause-few : goal.load-requires-clause-few
load-requires-clause-few c =
    let fit = c.in_ok-seen.ensures.fit in
    subst (λ (l : List ℕ). length l ≤ 10_000) (sym c.deref.ensures.value) (omega (arith, fit.fit.few, fit.same))

pub load-requires-clause-each : goal.load-requires-clause-each
load-requires-clause-each c = subst (λ (l : List ℕ). All (λ n. n ≤ 100) l) (sym c.deref.ensures.value) c.in_ok-seen.ensures.fit.small

pub returns-clause-value : goal.returns-clause-value
returns-clause-value c =
    let p = c.args.self.now in
    c.load.ensures.value
    ∙ ap (λ (ns : List ℕ). load_with (load_alone (basis_of p)) (sum ns)) (c.deref.ensures.value ∙ c.in_ok-seen.ensures.sizes)
    ∙ ap (load_with (load_alone (basis_of p))) (total (pool_in p c.args.row.now).groups)
