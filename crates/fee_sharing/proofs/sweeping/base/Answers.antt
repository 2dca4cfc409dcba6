use Rattle.std.proofs.Common.{◌∙◌, ap, sym}
use Rattle.request_text.specs.PlainRequest.{PlainRequest}
use Rattle.fee_sharing.proofs.SweepLaws.{base_is, counted, sized}
use Rattle.fee_sharing.proofs.sweeping.base.Goals as goal

pub returns-clause-value : goal.returns-clause-value
returns-clause-value c = λ l len.
    let recipients = ap (λ (r : PlainRequest). r.recipients) c.request.view_is in
    c.new-terms.ensures.base
    ∙ base_is c.args.request.now l c.args.coins c.outputs_count.result c.outputs_size.result (c.outputs_size.ensures.value ∙ ap sized (c.deref.ensures.value ∙ recipients)) (c.outputs_count.ensures.value ∙ ap counted (c.deref-2.ensures.value ∙ recipients)) (sym len)
