use Rattle.std.proofs.Common.{◌≡◌, ◌∙◌, ap, sym, arith, length, get_or, true, false, Err}
use Rattle.psbt_codec.specs.Psbt.{Pair, pair_text}
use Rattle.psbt_codec.specs.Reading.{is_wrong}
use Rattle.psbt_codec.specs.declared.fault.PsbtFault.{PsbtFault}
use Rattle.psbt_codec.proofs.CountLoops.{walked_all, walked_fits, walked_more, walked_wrong}
use Rattle.psbt_codec.proofs.counts.check_type.Goals as goal

pub returns-then-is_wrong : goal.returns-then-is_wrong
returns-then-is_wrong c =
    let wrong : is_wrong c.args.kind (get_or c.args.pairs.now c.loop-pair.pair-index c.pair-item.result) ≡ true = ap (λ (p : Pair). is_wrong c.args.kind p) (sym c.pair-item.is) ∙ sym c.is_wrong.ensures ∙ c.if-is_wrong.true in
    ap (λ (f : PsbtFault). Err f) c.wrong_fault.ensures ∙ sym (walked_wrong c.args.kind c.args.place c.args.pairs.now c.loop-pair.pair-index c.loop-pair.place c.pair-item.result c.loop-pair-test.true wrong c.loop-pair.invariant)

pub loop-pair-preserved : goal.loop-pair-preserved
loop-pair-preserved c =
    let right : is_wrong c.args.kind (get_or c.args.pairs.now c.loop-pair.pair-index c.pair-item.result) ≡ false = ap (λ (p : Pair). is_wrong c.args.kind p) (sym c.pair-item.is) ∙ sym c.is_wrong.ensures ∙ c.if-is_wrong.false in
    let same = ap (λ (p : Pair). length (pair_text p)) c.pair-item.is in
    let fits = walked_fits c.args.kind c.args.place c.args.pairs.now c.loop-pair.pair-index c.loop-pair.place c.pair-item.result c.loop-pair-test.true c.loop-pair.invariant in
    let len : c.pair_len-place.result ≡ length (pair_text (get_or c.args.pairs.now c.loop-pair.pair-index c.pair-item.result)) = omega (arith, c.pair_len-place.ensures, same, fits, c.requires.room) in
    rw len (walked_more c.args.kind c.args.place c.args.pairs.now c.loop-pair.pair-index c.loop-pair.place c.pair-item.result c.loop-pair-test.true right c.loop-pair.invariant)

pub returns : goal.returns
returns c = sym (walked_all c.args.kind c.args.place c.args.pairs.now c.loop-pair.pair-index c.loop-pair.place c.loop-pair-test.false c.loop-pair.invariant)
