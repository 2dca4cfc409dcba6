use Rattle.std.proofs.Common.{◌∙◌, subst, sym}
use Rattle.command_complete.specs.Stops.{StopsAtText}
use Rattle.command_complete.proofs.TextLaws.{is_spelled_otherwise, stop_at}
use Rattle.command_complete.proofs.making.spelled.Goals as goal

pub returns-in-Err-clause-stop : goal.returns-in-Err-clause-stop
returns-in-Err-clause-stop c = subst (StopsAtText c.args.text.now) (sym c.psbt_stop.ensures) (stop_at c.args.text.now c.in-Err.fault c.in-Err.ensures.fault)

pub returns-in-Err-check_spelling-clause-stop : goal.returns-in-Err-check_spelling-clause-stop
returns-in-Err-check_spelling-clause-stop c =
    subst (StopsAtText c.args.text.now) (sym c.in-Err-check_spelling.ensures.other.0)
    (is_spelled_otherwise c.args.text.now c.in-Ok.read.version c.in-Ok.read.psbt c.in-Ok.ensures.found
    (λ e. c.in-Err-check_spelling.ensures.other.1 (c.as_bytes.ensures.value ∙ c.in_ok-spelling.ensures ∙ sym e)))
