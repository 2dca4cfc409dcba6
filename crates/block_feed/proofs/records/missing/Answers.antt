use Rattle.std.proofs.Common.{Bool, ap, ◌∙◌}
use Rattle.block_feed.specs.Reading.{cut_off}
use Rattle.block_feed.specs.declared.fault.FeedFault.TheVariants.{Length}
use Rattle.block_feed.proofs.NextLaws.{outside_else}
use Rattle.block_feed.proofs.records.missing.Goals as goal

pub returns-in-Err-clause-gives : goal.returns-in-Err-clause-gives
returns-in-Err-clause-gives g c = λ told memory failed.
    outside_else c.in-Err.fault _ _ c.from.ensures memory failed

pub returns-in-Ok-clause-gives : goal.returns-in-Ok-clause-gives
returns-in-Ok-clause-gives g c = λ told memory failed.
    c.cut_off.ensures ∙ ap (λ (b : Bool). cut_off b (Length c.args.place)) (c.in-Ok.ensures.longer told)
