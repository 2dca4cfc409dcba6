use Rattle.std.proofs.Common.{◌∙◌, option_map, sym, ap}
use Rattle.json.specs.Value.{value_view}
use Rattle.json_fields.specs.Tree.{items_data}
use Rattle.json_fields.proofs.Trees.{array_in, entries_in}
use Rattle.json_fields.proofs.tree.items_in.Goals as goal

pub returns : goal.returns
returns c = entries_in c.list_in.result ∙ ap (option_map items_data) c.list_in.ensures ∙ sym (array_in (value_view c.args.value.now))
