use Rattle.std.proofs.Common.{List, ap, subst, sym}
use Rattle.psbt_codec.specs.Psbt.{Pair}
use Rattle.psbt_keys.proofs.ReadLaws.{ReadSoFar, read_all, read_next}
use Rattle.psbt_keys.proofs.pairs.pairs_of.Goals as goal

pub reading-preserved : goal.reading-preserved
reading-preserved c = λ pairs behind are e.
    let next = read_next pairs behind c.reading.cursor.rest c.pair_of.new.cursor.rest c.reading.pairs.items c.in-Ok.pair c.pair_of.result (c.in-Some.key, c.in-Some.value) c.in-Some.is c.pair_of.ensures.pair c.pair_of.ensures.end (ap (λ (p : Pair). p.key) c.in-Ok.ensures) (ap (λ (p : Pair). p.value) c.in-Ok.ensures) (c.reading.invariant pairs behind are e) in
    subst (λ (l : List Pair). ReadSoFar pairs behind l c.pair_of.new.cursor.rest) (sym c.in_ok-push-in-Ok.ensures.items) next

pub returns : goal.returns
returns c = λ pairs behind are e. read_all pairs behind c.reading.cursor.rest c.pair_of.new.cursor.rest c.reading.pairs.items c.pair_of.result c.in_default.is c.pair_of.ensures.pair c.pair_of.ensures.end (c.reading.invariant pairs behind are e)
