use Rattle.std.proofs.Common.{[], ◌++◌, List, ℕ, ap, ◌∙◌}
use Rattle.sha2.specs.Sha256.{sha256}
use Rattle.block_feed.specs.Merkle.{hash_above}
use Rattle.block_feed.proofs.merkle.hash_above.Goals as goal

pub returns : goal.returns
unfolding hash_above
returns c =
    let left = c.args.left.now in
    let right = c.args.right.now in
    c.digest.ensures ∙ ap (λ (m : List ℕ). sha256 m) (c.finalize.ensures (left ++ right) (c.update-2.ensures left (c.update.ensures [] c.new-digest.ensures)))
