use Rattle.std.proofs.Common.{◌∙◌, ap, subst, sym}
use Rattle.fund_files.specs.Chain.{HasTexts}
use Rattle.fund_files.specs.declared.chain.Chain.{Chain}
use Rattle.fund_payment.proofs.ParentLaws.{held_texts}
use Rattle.fund_payment.proofs.report.payment_report.Goals as goal

pub psbt_text-requires-clause-texts : goal.psbt_text-requires-clause-texts
psbt_text-requires-clause-texts c = subst HasTexts (sym (c.known-book.ensures ∙ ap (λ (k : Chain). k.book) c.held.view_is)) (held_texts c.args.held.now c.requires.held)
