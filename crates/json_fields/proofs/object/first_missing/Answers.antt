use Rattle.json_fields.specs.Tree.{view}
use Rattle.json_fields.proofs.Names.{found_missing}
use Rattle.json_fields.proofs.object.first_missing.Goals as goal

pub returns : goal.returns
returns c = found_missing c.args.required.now (view c.args.value.now) _ c.first_lacking.ensures
