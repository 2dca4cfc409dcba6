use Rattle.std.proofs.Common.{◌∙◌, ◌≤◌, ap, length, List, ℕ, subst, sym}
use Rattle.fund_plan.specs.Pays.{outputs_of}
use Rattle.fund_steps.specs.Amounts.{value_of}
use Rattle.request_text.specs.PlainRequest.{IsRequest, PlainRequest}
use Rattle.command_amounts.specs.Signing.{CanBeSigned}
use Rattle.fee_sharing.specs.Shares.{AreLeft}
use Rattle.command_amounts.specs.Amounts.{amounts_of, with_amounts}
use Rattle.command_share.proofs.PayLaws.{can_sign, left_count, outputs_within}
use Rattle.command_share.specs.Paying.{PlainPaying, dusts_of}
use Rattle.command_share.proofs.ending.paid_report.Goals as goal

pub with_amounts-requires-clause-same : goal.with_amounts-requires-clause-same
with_amounts-requires-clause-same c =
    let q = c.requires in
    let left = subst (λ (l : List ℕ). AreLeft c.args.payment.borne (amounts_of c.args.request.now) (dusts_of c.args.request.now) l) q.amounts q.left in
    ap (λ (l : List ℕ). length l) q.amounts ∙ left_count c.args.request.now c.args.payment.borne left

pub with_amounts-requires-clause-rules : goal.with_amounts-requires-clause-rules
with_amounts-requires-clause-rules c = subst (λ (l : List ℕ). IsRequest (with_amounts c.args.request.now l)) (sym c.requires.amounts) c.requires.rules

pub payment_text-requires-clause-can : goal.payment_text-requires-clause-can
payment_text-requires-clause-can c =
    let q = c.requires in
    let p = c.args.payment in
    let left = subst (λ (l : List ℕ). AreLeft p.borne (amounts_of c.args.request.now) (dusts_of c.args.request.now) l) q.amounts q.left in
    let paying = c.in_ok-paying.ensures ∙ ap (with_amounts c.args.request.now) q.amounts in
    subst (λ (x : PlainPaying). CanBeSigned c.in_ok-paying.paying x.coins x.change) (sym c.payment.view_is)
    (subst (λ (r : PlainRequest). CanBeSigned r p.coins p.change) (sym paying) (can_sign c.args.held.now c.args.request.now p left q.can))

pub shared_lines-requires-clause-within : goal.shared_lines-requires-clause-within
shared_lines-requires-clause-within c =
    let q = c.requires in
    let p = c.args.payment in
    let left = subst (λ (l : List ℕ). AreLeft p.borne (amounts_of c.args.request.now) (dusts_of c.args.request.now) l) q.amounts q.left in
    let paying = c.in_ok-paying.ensures ∙ ap (with_amounts c.args.request.now) q.amounts in
    subst (λ (r : PlainRequest). outputs_of r p.change ≤ value_of p.coins) (sym paying) (outputs_within c.args.held.now c.args.request.now p left q.can)
