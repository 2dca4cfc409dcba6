use Rattle.block_feed.proofs.ViewLaws.{views_counted, views_held}
use Rattle.block_feed.proofs.views.views_in.Goals as goal

pub returns-in-Ok : goal.returns-in-Ok
returns-in-Ok c =
    views_held _ c.args.height c.args.body.now c.new-cursor.result c.take.new.self c.compact.new.self c.take.result c.in-Ok.left c.new-cursor.ensures c.requires.long c.requires.some c.take.ensures.moves c.in-Ok.ensures.moves

pub returns-in-Err : goal.returns-in-Err
returns-in-Err c =
    absurd (views_counted _ c.args.height c.args.body.now c.new-cursor.result c.take.new.self c.take.result c.in-Err.field-0 c.new-cursor.ensures c.requires.long c.requires.some c.take.ensures.moves c.in-Err.ensures.moves.0)
