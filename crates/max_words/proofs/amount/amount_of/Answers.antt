use Rattle.std.proofs.Common.{◌∙◌, Some, None, ap, refl}
use Rattle.fund_files.specs.declared.chain.Chain.{Chain}
use Rattle.request_text.specs.PlainRequest.{PlainRequest}
use Rattle.command_inputs.specs.Outcome.{candidates_in}
use Rattle.max_words.proofs.AmountLaws.{amount_is}
use Rattle.max_words.proofs.amount.amount_of.Goals as goal

pub returns-in-Ok-Some : goal.returns-in-Ok-Some
returns-in-Ok-Some c =
    let coins = c.in_ok-coins.ensures.coins ∙ ap (λ (q : PlainRequest). candidates_in c.args.held.now q.rate) c.request.view_is in
    amount_is c.args.held.now c.args.request.now _ c.in_ok-coins.coins.items (ap (λ (k : Chain). k.wallet.change) c.held.view_is) coins c.in-Ok-Some.amount (Some c.in-Ok-Some.amount) c.in-Ok-Some.field-0 c.in-Ok-Some.field-0-is refl
    c.in-Ok-Some.ensures

pub returns-in-Ok-None : goal.returns-in-Ok-None
returns-in-Ok-None c =
    let coins = c.in_ok-coins.ensures.coins ∙ ap (λ (q : PlainRequest). candidates_in c.args.held.now q.rate) c.request.view_is in
    amount_is c.args.held.now c.args.request.now _ c.in_ok-coins.coins.items (ap (λ (k : Chain). k.wallet.change) c.held.view_is) coins 2_100_000_000_000_000 None c.in-Ok-None.field-0 c.in-Ok-None.field-0-is refl c.in-Ok-None.ensures
