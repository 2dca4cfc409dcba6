use Rattle.std.specs.Prelude.{◌≡◌, ◌↔◌, IsTrue}
use Rattle.std.proofs.Common.{sym, ◌∙◌}
use Rattle.fund_base.proofs.Lists.{equal_bytes, same_bytes}
use Rattle.tx_codec.specs.TransactionText.{text_of}
use Rattle.report_check.proofs.EvenLaws.{same_text}
use Rattle.report_check.proofs.paid.is_transaction.Goals as goal

pub returns : goal.returns
returns c =
    let first : c.as_slice.result.now ≡ text_of c.in_ok-own.own = c.as_slice.ensures.value ∙ c.in_ok-text.ensures in
    let second : c.as_slice-2.result.now ≡ text_of c.args.tx.now = c.as_slice-2.ensures.value ∙ c.in_ok-given.ensures in
    let told : (IsTrue c.eq.result ↔ (c.as_slice.result.now ≡ c.as_slice-2.result.now)) =
    (λ t. equal_bytes c.as_slice.result.now c.as_slice-2.result.now (sym c.eq.ensures ∙ t), λ e. c.eq.ensures ∙ same_bytes c.as_slice.result.now c.as_slice-2.result.now e) in
    same_text c.args.tx.now c.in_ok-own.own _ c.as_slice.result.now c.as_slice-2.result.now c.eq.result c.requires.text c.in_ok-own.ensures.text c.in_ok-own.ensures.value first second told
