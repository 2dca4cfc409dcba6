use Rattle.std.specs.Prelude.{option_copied}
use Rattle.signed_psbt.proofs.MapLaws.{looked_all, looked_next}
use Rattle.signed_psbt.proofs.maps.value_at.Goals as goal

pub looking-preserved : goal.looking-preserved
looking-preserved c = λ pairs behind are e.
    looked_next c.args.kind pairs behind c.looking.cursor.rest c.pair_of.new.cursor.rest (option_copied c.looking.found) (option_copied c.first_of-found.result) c.pair_of.result (c.in-Some.key, c.in-Some.value) c.in-Some.is c.pair_of.ensures.pair c.pair_of.ensures.end c.first_of-found.ensures
    (c.looking.invariant pairs behind are e)

pub returns : goal.returns
returns c = λ pairs behind are e.
    looked_all c.args.kind pairs behind c.looking.cursor.rest c.pair_of.new.cursor.rest (option_copied c.looking.found) c.pair_of.result c.in_default.is c.pair_of.ensures.pair c.pair_of.ensures.end (c.looking.invariant pairs behind are e)
