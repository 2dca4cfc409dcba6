use Rattle.std.proofs.Common.{◌∙◌, ap, length, min, []}
use Rattle.fund_base.specs.CompactSize.{prefixed}
use Rattle.psbt_codec.specs.Psbt.{Pair, pair_text}
use Rattle.psbt_codec.proofs.counts.pair_len.Goals as goal

pub returns : goal.returns
unfolding pair_text
returns c =
    let key = c.in-Ok.ensures.feeds [] c.new-length.ensures in
    let both = c.in-Ok-write_prefixed.ensures.feeds (prefixed c.pair.inside.key.now) key in
    c.get.ensures ∙ both ∙ ap (λ (p : Pair). min (length (pair_text p)) 18_446_744_073_709_551_615) c.pair.view_is
