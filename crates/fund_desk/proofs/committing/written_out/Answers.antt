use Rattle.std.proofs.Common.{ap, subst, sym, ◌∙◌}
use Rattle.fund_files.specs.Chain.{HasTexts}
use Rattle.fund_files.specs.declared.chain.Chain.{Chain}
use Rattle.fund_files.specs.declared.whole_chain.WholeChain.TheInside.{Inside}
use Rattle.fund_payment.proofs.ParentLaws.{held_texts}
use Rattle.fund_payment.specs.Report.{psbt_of}
use Rattle.fund_plan.specs.Selection.{PlainFunded}
use Rattle.psbt_codec.specs.PartialTransaction.{PartialTransaction}
use Rattle.request_text.specs.PlainRequest.{PlainRequest}
use Rattle.fund_desk.proofs.OutLaws.{out_is}
use Rattle.fund_desk.proofs.committing.written_out.Goals as goal

pub psbt-requires-clause-texts : goal.psbt-requires-clause-texts
psbt-requires-clause-texts c = subst HasTexts (sym (c.known-book.ensures ∙ ap (λ (i : Inside). i.book) c.held-inside.view_is ∙ ap (λ (k : Chain). k.book) c.held.view_is)) (held_texts c.args.held.now c.requires.held)

pub returns : goal.returns
returns c =
    let value = c.in_ok-made.ensures.value ∙ (λ j. psbt_of ((c.known-book.ensures ∙ ap (λ (i : Inside). i.book) c.held-inside.view_is ∙ ap (λ (k : Chain). k.book) c.held.view_is) j) c.args.request.now ((ap (λ (i : Inside). i.wallet.change) c.held-inside.view_is ∙ ap (λ (k : Chain). k.wallet.change) c.held.view_is) j) c.args.funded.now) in
    out_is c.args.held.now c.args.request.now c.args.funded.now _ c.in_ok-made.made _ c.deref.result.now _ value c.in_ok-made.ensures.fits (ap (λ (p : PartialTransaction). p.tx) c.made.view_is) c.txid-id.ensures c.in_ok-bytes.ensures.text
    (ap (λ (r : PlainRequest). r.psbt) c.request.view_is) c.in_ok-payment.ensures
    (c.deref.ensures.value ∙ ap (λ (f : PlainFunded). f.coins) c.funded.view_is)
