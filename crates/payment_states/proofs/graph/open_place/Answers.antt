use Rattle.std.proofs.Common.{◌∙◌, sym}
use Rattle.payment_states.proofs.AskedLaws.{asked_key}
use Rattle.payment_states.proofs.graph.open_place.Goals as goal

pub height-requires : goal.height-requires
height-requires c = asked_key c.args.book.now c.args.txids.now.keys c.args.txid.now c.in_ok-place.place c.requires (sym c.get_index_of.ensures.index ∙ c.in_ok-place.was)
