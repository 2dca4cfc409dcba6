use Rattle.std.proofs.Common.{◌∙◌, ◌++◌, ◌∷◌, [], ap, get_or}
use Rattle.request_text.specs.declared.request.Recipient.{Recipient}
use Rattle.command_amounts.proofs.AmountLaws.{given_all, given_next}
use Rattle.command_amounts.proofs.amounts.given.Goals as goal

pub loop-place-preserved : goal.loop-place-preserved
loop-place-preserved c =
    let qs = c.args.recipients.now in
    let ns = c.args.amounts.now in
    c.in_ok-push.ensures.items
    ∙ (ap (λ (z : Recipient). c.loop-place.copies.items ++ (record z { amount = get_or c.args.amounts.now c.loop-place.place 0 }) ∷ []) c.in_ok-copy.ensures
    ∙ given_next qs ns c.loop-place.place c.index-recipients-place.result c.loop-place.copies.items c.requires c.loop-place-test.true c.index-recipients-place.is c.loop-place.invariant)

pub returns : goal.returns
returns c = given_all c.args.recipients.now c.args.amounts.now c.loop-place.place c.loop-place.copies.items c.requires c.loop-place-test.false c.loop-place.invariant
