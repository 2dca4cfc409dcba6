use Rattle.std.proofs.Common.{◌∙◌, string_bytes}
use Rattle.command_pay.specs.Table.{spends_line}
use Rattle.command_pay.proofs.Pieces.{one_piece_more}
use Rattle.command_pay.proofs.table.put_coins.Goals as goal

pub loop-coin-preserved : goal.loop-coin-preserved
loop-coin-preserved c =
    one_piece_more spends_line c.args.coins.now c.loop-coin.coin-index c.coin-item.result (string_bytes c.args.text.now) (string_bytes c.loop-coin.text) _ _ c.loop-coin-test.true c.coin-item.is c.loop-coin.invariant c.in_ok-push_str.ensures.bytes (c.as_str.ensures.value ∙ c.in_ok-line.ensures)
