use Rattle.std.proofs.Common.{◌∙◌, string_bytes}
use Rattle.settle_table.specs.Table.{weighs_line}
use Rattle.settle_table.proofs.PieceLaws.{one_piece_more}
use Rattle.settle_table.proofs.table.put_inputs.Goals as goal

pub loop-input-preserved : goal.loop-input-preserved
loop-input-preserved c =
    one_piece_more weighs_line c.args.inputs.now c.loop-input.input-index c.input-item.result (string_bytes c.args.text.now) (string_bytes c.loop-input.text) _ _ c.loop-input-test.true c.input-item.is c.loop-input.invariant c.in_ok-push_str.ensures.bytes (c.as_str.ensures.value ∙ c.in_ok-line.ensures)
