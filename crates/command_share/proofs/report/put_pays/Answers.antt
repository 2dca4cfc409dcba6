use Rattle.std.proofs.Common.{◌∙◌, refl, string_bytes}
use Rattle.command_share.proofs.ReportLaws.{pays_more}
use Rattle.command_share.proofs.report.put_pays.Goals as goal

pub loop-place-preserved : goal.loop-place-preserved
loop-place-preserved c =
    c.in_ok-put_pay.ensures
    ∙ pays_more c.args.amounts.now c.loop-place.place _ (string_bytes c.args.text.now) (string_bytes c.loop-place.text) c.loop-place-test.true refl c.loop-place.invariant
