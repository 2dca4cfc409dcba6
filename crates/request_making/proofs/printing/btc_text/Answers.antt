use Rattle.std.proofs.Common.{◌/◌, ◌%◌, ◌∙◌}
use Rattle.std.specs.Prelude.{codes}
use Rattle.std.specs.Fmt.{decimal}
use Rattle.request_making.specs.Printed.{btc_text}
use Rattle.request_making.proofs.Padded.{eight_printed}
use Rattle.request_making.proofs.printing.btc_text.Goals as goal

pub returns : goal.returns
unfolding btc_text
returns c =
    c.in_ok-format.ensures.ok
    ∙ rw c.laid_out.ensures (eight_printed (decimal (c.args.amount / 100000000)) (c.args.amount % 100000000) (codes " BTC"))
