use Rattle.std.proofs.Common.{◌/◌, ◌%◌, ◌∙◌}
use Rattle.std.specs.Prelude.{codes}
use Rattle.std.specs.Fmt.{decimal}
use Rattle.request_making.specs.Printed.{rate_text}
use Rattle.request_making.proofs.Padded.{three_printed}
use Rattle.request_making.proofs.printing.rate_text.Goals as goal

pub returns : goal.returns
unfolding rate_text
returns c =
    c.in_ok-format.ensures.ok
    ∙ rw c.laid_out.ensures (three_printed (decimal (c.args.rate / 1000)) (c.args.rate % 1000) (codes " sat/vB"))
