use Rattle.std.proofs.Common.{◌∙◌, ◌++◌, ap, List, ℕ, string_bytes}
use Rattle.command_amounts.specs.Lines.{in_line}
use Rattle.command_amounts.proofs.LineLaws.{lines_more}
use Rattle.command_amounts.proofs.lines.put_coins.Goals as goal

pub loop-coin-preserved : goal.loop-coin-preserved
loop-coin-preserved c =
    let line = c.as_str.ensures.value ∙ c.in_ok-line.ensures in
    c.in_ok-push_str.ensures.bytes
    ∙ ap (λ (l : List ℕ). string_bytes c.loop-coin.text ++ l) line
    ∙ lines_more in_line c.args.coins.now c.loop-coin.coin-index c.coin-item.result (string_bytes c.args.text.now) (string_bytes c.loop-coin.text) c.loop-coin-test.true c.coin-item.is c.loop-coin.invariant
