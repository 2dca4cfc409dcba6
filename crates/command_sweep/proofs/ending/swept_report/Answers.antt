use Rattle.std.proofs.Common.{None, subst, sym}
use Rattle.request_text.specs.PlainRequest.{PlainRequest}
use Rattle.command_amounts.specs.Signing.{CanBeSigned}
use Rattle.command_sweep.proofs.PayLaws.{can_sign}
use Rattle.command_sweep.proofs.ending.swept_report.Goals as goal

pub payment_text-requires-clause-can : goal.payment_text-requires-clause-can
payment_text-requires-clause-can c =
    let q = c.requires in
    subst (λ (r : PlainRequest). CanBeSigned r c.args.coins.items None) (sym c.in_ok-paying.ensures) (can_sign c.args.held.now c.args.request.now c.args.coins.items c.args.amount q.one q.coins q.sweeps)
