use Rattle.std.proofs.Common.{refl, ◌∙◌}
use Rattle.psbt_codec.proofs.TextLaws.{decoded_is, failed_is}
use Rattle.psbt_codec.proofs.text.from_text.Goals as goal

pub returns-in-Ok-clause-only : goal.returns-in-Ok-clause-only
returns-in-Ok-clause-only c = λ bytes fits is. decoded_is c.args.text.now c.in-Ok.bytes.items bytes c.in-Ok.ensures.ok (c.in-Ok.ensures.strict (refl, refl)) fits is

pub returns-in-Err-clause-only : goal.returns-in-Err-clause-only
returns-in-Err-clause-only c = λ bytes fits is. c.text_fault.ensures ∙ failed_is c.args.text.now bytes c.in-Err.fault c.in-Err.ensures.err (c.in-Err.ensures.strict (refl, refl)) fits is
