use Rattle.std.proofs.Common.{◌≡◌, ℕ, rules, subst, sym}
use Rattle.std.specs.Prelude.{◌≤◌}
use Rattle.fund_steps.proofs.SumLaws.{prices_within}
use Rattle.fund_steps.specs.Amounts.{prices_of}
use Rattle.fund_steps.proofs.amounts.prices.Goals as goal

pub returns-clause-most : goal.returns-clause-most
returns-clause-most c =
    let is : c.sum.result ≡ prices_of c.args.coins.now = search rules in
    subst (λ (n : ℕ). n ≤ 210_000_000_000_000_000_000) (sym is) (prices_within c.args.coins.now c.requires)
