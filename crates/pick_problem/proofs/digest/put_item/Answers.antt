use Rattle.std.specs.Int.{w64}
use Rattle.std.proofs.Common.{FitsSigned, rules}
use Rattle.std.proofs.lemmas.Int.{to_z-of_z}
use Rattle.pick_problem.specs.Digest.{item_bytes}
use Rattle.pick_problem.proofs.DigestLaws.{feeds_three}
use Rattle.pick_problem.proofs.digest.put_item.Goals as goal

pub returns : goal.returns
unfolding item_bytes
returns c =
    let fits : FitsSigned w64 c.args.item.now.cost = search rules in
    let x = c.args.item.now in
    feeds_three c.args.hasher.now c.update.new.self c.update-2.new.self c.update-3.new.self _ _ _ _ _ _ c.to_le_bytes.ensures c.to_le_bytes-2.ensures (simp to_z-of_z at c.to_le_bytes-3.ensures) c.update.ensures c.update-2.ensures c.update-3.ensures
