use Rattle.std.proofs.Common.{◌≡◌, ◌∙◌, arith, refl, sym, ap}
use Rattle.command_work.specs.Coins.{coin_at, total_of}
use Rattle.command_work.specs.Load.{maker_of}
use Rattle.command_work.specs.declared.coin.Coin.{Coin}
use Rattle.command_work.proofs.CoinLaws.{earlier_more, total_more, total_within}
use Rattle.command_work.proofs.making.earlier_of.Goals as goal

pub loop-index-init : goal.loop-index-init
unfolding total_of
loop-index-init c = record { words = c.words_of-words.ensures; earlier = c.in_ok-earlier.ensures.items; total = refl }

pub overflow_add-total : goal.overflow_add-total
overflow_add-total c = omega (arith, c.loop-index.invariant.total, (total_within c.args.number c.loop-index.index).1, c.worth-total.ensures.most)

pub loop-index-preserved : goal.loop-index-preserved
loop-index-preserved c =
    let drawn = c.next_coin-coin.ensures.coin c.args.number c.loop-index.index (omega arith) c.loop-index.invariant.words in
    let made : c.in_ok-tx.tx ≡ maker_of c.loop-index.index (coin_at c.args.number c.loop-index.index) = c.in_ok-tx.ensures {u = tt} ∙ ap (maker_of c.loop-index.index) drawn in
    let worth : c.worth-total.result ≡ (coin_at c.args.number c.loop-index.index).value = c.worth-total.ensures.value ∙ ap (λ (k : Coin). k.value) drawn in
    record {
      words = c.next_coin-coin.ensures.words c.args.number c.loop-index.index (omega arith) c.loop-index.invariant.words;
      earlier = c.in_ok-push.ensures.items ∙ rw (c.loop-index.invariant.earlier, c.in_ok-entry.ensures, made) (sym (earlier_more c.args.number c.loop-index.index));
      total = omega (arith, c.loop-index.invariant.total, worth, total_more c.args.number c.loop-index.index);
    }
