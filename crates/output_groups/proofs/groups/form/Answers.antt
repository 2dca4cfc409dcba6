use Rattle.output_groups.proofs.RunLaws.{useful_moved}
use Rattle.output_groups.proofs.groups.form.Goals as goal

pub cut-requires-clause-coins : goal.cut-requires-clause-coins
cut-requires-clause-coins c = rw c.deref.ensures.value (useful_moved c.args.rate c.args.coins.now.items c.sort_by_script.new.coins.items c.in_ok-sort_by_script.ensures.moved c.requires.coins)
