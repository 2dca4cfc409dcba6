use Rattle.json_fields.specs.Tree.{view}
use Rattle.keys_text.proofs.Rules.{keys_are}
use Rattle.keys_text.proofs.reading.keys_in.Goals as goal

pub invariant_of-result : goal.invariant_of-result
invariant_of-result c = keys_are _ (view c.args.value.now) _ _ c.in_ok-scripts.ensures.gives c.in_ok-xpubs.ensures.gives
