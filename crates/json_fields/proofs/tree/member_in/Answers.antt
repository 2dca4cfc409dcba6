use Rattle.std.proofs.Common.{◌∙◌, option_map, sym, ap}
use Rattle.json.specs.Value.{value_view}
use Rattle.json_fields.specs.Tree.{data_of}
use Rattle.json_fields.proofs.Trees.{member_in, value_in}
use Rattle.json_fields.proofs.tree.member_in.Goals as goal

pub returns : goal.returns
returns c = value_in c.get.result ∙ ap (option_map data_of) c.get.ensures ∙ sym (member_in c.args.name.now (value_view c.args.value.now))
