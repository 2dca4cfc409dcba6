use Rattle.command_keys.proofs.TextLaws.{line_keyed}
use Rattle.command_keys.proofs.keyed.keyed_line.Goals as goal

pub returns-in-Ok-clause-keyed : goal.returns-in-Ok-clause-keyed
returns-in-Ok-clause-keyed c = line_keyed c.args.keys.now c.args.file.now _ c.in_ok-text.text.items (rw c.line_of.ensures at c.in_ok-text.ensures.keyed) c.in-Ok.ensures.items
