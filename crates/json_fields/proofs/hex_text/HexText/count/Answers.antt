use Rattle.std.proofs.Common.{◌∙◌, Ok, ap}
use Rattle.json_fields.proofs.Digits.{halved}
use Rattle.json_fields.proofs.hex_text.HexText.count.Goals as goal

pub returns : goal.returns
returns c = halved c.self.inside.text.now c.args.self.now (c.self.invariant ∙ ap Ok c.self.view_is)
