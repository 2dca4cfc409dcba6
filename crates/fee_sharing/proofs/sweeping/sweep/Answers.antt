use Rattle.std.proofs.Common.{◌≤◌, arith, rules, subst, sym}
use Rattle.fund_steps.proofs.SumLaws.{weights_within}
use Rattle.fund_steps.specs.Amounts.{AreWithin}
use Rattle.fee_sharing.proofs.SweepLaws.{paid_now}
use Rattle.fee_sharing.specs.Sweep.{sweep_weight}
use Rattle.fee_sharing.proofs.sweeping.sweep.Goals as goal

pub weight-requires : goal.weight-requires
weight-requires c = weights_within c.deref.result.now (subst AreWithin (sym c.deref.ensures.value) c.in_ok-coins.ensures.within)

pub overflow_add-weight : goal.overflow_add-weight
overflow_add-weight c =
    let low = weights_within c.deref.result.now (subst AreWithin (sym c.deref.ensures.value) c.in_ok-coins.ensures.within) in
    omega (arith, low, c.weight.ensures, c.base-base.ensures.most)

pub returns-clause-pays : goal.returns-clause-pays
returns-clause-pays c =
    let r = c.args.request.now in
    let coins = c.in_ok-coins.coins.items in
    let light : sweep_weight r coins ≤ 400_000 = search rules in
    paid_now r c.args.candidates.now coins _ c.requires.candidates c.in_ok-coins.ensures.coins light (search rules)
