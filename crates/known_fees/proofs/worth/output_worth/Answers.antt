use Rattle.std.proofs.Common.{◌∙◌, None, sym, ap}
use Rattle.std.specs.Prelude.{option_map}
use Rattle.tx_codec.specs.declared.tx.TxOut.{TxOut}
use Rattle.known_fees.proofs.WorthSteps.{output_at, output_by_place, place_within}
use Rattle.known_fees.proofs.worth.output_worth.Goals as goal

pub bounds-txs-place : goal.bounds-txs-place
bounds-txs-place c = place_within c.args.txs.now c.args.txids.now.keys c.args.point.now.txid c.in-Some.place c.requires (sym c.get_index_of.ensures.index ∙ c.in-Some.is)

pub returns-in-Some : goal.returns-in-Some
returns-in-Some c =
    c.output_value.ensures
    ∙ output_at c.args.txs.now c.args.txids.now.keys c.args.point.now c.in-Some.place c.index-txs-place.result c.requires (sym c.get_index_of.ensures.index ∙ c.in-Some.is) c.index-txs-place.is

pub returns-in-None : goal.returns-in-None
returns-in-None c = ap (option_map (λ (x : TxOut). x.value)) (sym (output_by_place c.args.txs.now c.args.txids.now.keys c.args.point.now None c.requires (sym c.get_index_of.ensures.index ∙ c.in-None.is)))
