use Rattle.std.proofs.Common.{ap}
use Rattle.psbt_codec.specs.Psbt.{Pair}
use Rattle.psbt_codec.proofs.KeyLaws.{keys_more}
use Rattle.psbt_codec.proofs.pairs.Seen.with.Goals as goal

pub invariant_of-result : goal.invariant_of-result
invariant_of-result c =
    let key = ap (λ (p : Pair). p.key) c.pair.view_is in
    keys_more c.self.inside.keys c.insert.new.self c.pair.inside.key c.args.pair c.self.inside.pairs.items c.push.new.self.items c.in_ok-insert.ensures.updates key c.in_ok-push.ensures.items c.self.invariant
