use Rattle.std.proofs.Common.{◌∙◌, sym}
use Rattle.json.specs.Value.{value_view}
use Rattle.json_fields.proofs.Trees.{bool_in}
use Rattle.json_fields.proofs.tree.bool_in.Goals as goal

pub returns : goal.returns
returns c = c.as_bool.ensures ∙ sym (bool_in (value_view c.args.value.now))
