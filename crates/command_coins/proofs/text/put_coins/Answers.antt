use Rattle.std.proofs.Common.{◌∙◌, ◌++◌, ap, List, ℕ, string_bytes}
use Rattle.command_coins.specs.Listing.{coin_line}
use Rattle.command_coins.proofs.LinesLaws.{lines_more}
use Rattle.command_coins.proofs.text.put_coins.Goals as goal

pub loop-candidate-preserved : goal.loop-candidate-preserved
loop-candidate-preserved c =
    let line = c.as_str.ensures.value ∙ c.in_ok-line.ensures in
    c.in_ok-push_str.ensures.bytes
    ∙ ap (λ (l : List ℕ). string_bytes c.loop-candidate.text ++ l) line
    ∙ lines_more coin_line c.args.candidates.now c.loop-candidate.candidate-index c.candidate-item.result (string_bytes c.args.text.now) (string_bytes c.loop-candidate.text) c.loop-candidate-test.true c.candidate-item.is c.loop-candidate.invariant
