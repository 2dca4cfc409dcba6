use Rattle.std.proofs.Common.{◌∙◌}
use Rattle.keys_text.proofs.Held.{listed}
use Rattle.keys_text.proofs.entries.is_listed.Goals as goal

pub returns : goal.returns
returns c = c.contains_key.ensures ∙ listed c.args.scripts.now.entries c.args.script.now
