use Rattle.std.proofs.Common.{◌∙◌, sym}
use Rattle.json.specs.Value.{value_view}
use Rattle.json_fields.proofs.Trees.{str_in}
use Rattle.json_fields.proofs.tree.str_in.Goals as goal

pub returns : goal.returns
returns c = c.as_str.ensures ∙ sym (str_in (value_view c.args.value.now))
