use Rattle.std.proofs.Common.{◌∙◌, ◌∷◌, [], ◌++◌, ap, arith, subst, List}
use Rattle.std.specs.Prelude.{All}
use Rattle.std.proofs.lemmas.List.{take_all}
use Rattle.psbt_codec.specs.declared.psbt.Spent.{Spent}
use Rattle.coin_candidates.specs.declared.candidate.Candidate.{Candidate}
use Rattle.fund_payment.proofs.ParentLaws.{Fits, fits_more, spent_more}
use Rattle.fund_payment.proofs.signing.spent_of.Goals as goal

pub loop-coin-preserved : goal.loop-coin-preserved
loop-coin-preserved c =
    let coins = c.args.coins.now in
    record {
      value = c.in_ok-push.ensures.items ∙ ap (λ (s : Spent). c.loop-coin.known.items ++ s ∷ []) c.in_ok-spent.ensures ∙ spent_more c.args.book.now coins c.loop-coin.coin-index c.coin-item.result c.loop-coin.known.items c.loop-coin-test.true c.coin-item.is c.loop-coin.invariant.value;
      fits = fits_more c.args.book.now coins c.loop-coin.coin-index c.coin-item.result c.loop-coin-test.true c.coin-item.is c.known_fits.ensures c.loop-coin.invariant.fits;
    }

pub returns-clause-fits : goal.returns-clause-fits
returns-clause-fits c = subst (λ (l : List Candidate). All (Fits c.args.book.now) l) (take_all c.loop-coin.coin-index c.args.coins.now (omega (arith, c.loop-coin-test.false))) c.loop-coin.invariant.fits
