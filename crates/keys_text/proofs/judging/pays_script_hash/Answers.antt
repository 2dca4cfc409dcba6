use Rattle.std.proofs.Common.{sym, ◌∙◌}
use Rattle.keys_text.proofs.Cuts.{hash_ends}
use Rattle.keys_text.proofs.judging.pays_script_hash.Goals as goal

pub returns-then-begins : goal.returns-then-begins
returns-then-begins c = hash_ends c.args.script.now c.eq-ends.result c.if-script-ne23.false (sym c.eq-begins.ensures ∙ c.if-begins.true) c.eq-ends.ensures
