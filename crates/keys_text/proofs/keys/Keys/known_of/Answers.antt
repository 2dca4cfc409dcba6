use Rattle.std.proofs.Common.{subst}
use Rattle.keys_text.specs.Found.{IsKnown}
use Rattle.keys_text.specs.PlainKeys.{PlainKeys}
use Rattle.keys_text.proofs.Held.{known}
use Rattle.keys_text.proofs.keys.Keys.known_of.Goals as goal

pub returns : goal.returns
returns c = subst (λ (k : PlainKeys). IsKnown k.scripts c.args.script.now c.get.result) c.self.view_is (known c.self.inside.scripts.entries c.args.script.now c.get.result c.get.ensures.value)
