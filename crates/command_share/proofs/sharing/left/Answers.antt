use Rattle.std.proofs.Common.{◌∙◌, ap, map}
use Rattle.fee_rates.specs.Output.{dust_of}
use Rattle.request_text.specs.PlainRequest.{PlainRequest}
use Rattle.request_text.specs.declared.request.Recipient.{Recipient}
use Rattle.command_share.proofs.LeftLaws.{all_reach, first_falls_short, left_is, rules_kept, value_is}
use Rattle.command_share.proofs.sharing.left.Goals as goal

pub returns : goal.returns
returns c =
    let r = c.args.request.now in
    let recipients = ap (λ (q : PlainRequest). q.recipients) c.request.view_is in
    let amounts = c.deref-3.ensures.value ∙ (c.in_ok-amounts.ensures ∙ ap (map (λ (q : Recipient). q.amount)) (c.deref.ensures.value ∙ recipients)) in
    let dusts = c.deref-4.ensures.value ∙ (c.in_ok-dusts.ensures.value ∙ ap (map (λ (q : Recipient). dust_of q.script)) (c.deref-2.ensures.value ∙ recipients)) in
    let e = c.shares.ensures in
    record {
      value = value_is r c.args.borne _ _ amounts dusts c.shares.result e.value;
      left = left_is r c.args.borne _ _ amounts dusts c.shares.result e.value e.left;
      reach = all_reach r c.args.borne _ _ amounts dusts c.shares.result e.reach;
      rules = rules_kept r c.args.borne _ _ amounts dusts c.shares.result c.keeps_rules.ensures e.value e.left;
      fault = first_falls_short r c.args.borne _ _ amounts dusts c.shares.result e.short;
    }
