use Rattle.std.proofs.Common.{◌∙◌, not}
use Rattle.json.specs.Value as trees
use Rattle.json_fields.specs.Fields.{texts, is_among}
use Rattle.json_fields.proofs.Names.{least_of_text}
use Rattle.json_fields.proofs.object.least_unknown.Goals as goal

pub returns : goal.returns
returns c = c.least_among.ensures ∙ least_of_text (λ name. not (is_among (texts c.args.known.now) name)) (trees.members_view c.args.members.now)
