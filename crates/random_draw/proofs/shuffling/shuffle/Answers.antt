use Rattle.std.specs.Prelude.{◌≡◌, ℕ, ◌+◌, ◌-◌, ◌<◌, length}
use Rattle.std.proofs.Common.{arith, ◌∙◌}
use Rattle.random_draw.specs.Order.{word}
use Rattle.random_draw.proofs.OrderLaws.{word_is, words_are, exchanged, whole}
use Rattle.random_draw.proofs.shuffling.shuffle.Goals as goal

pub loop-last-preserved : goal.loop-last-preserved
loop-last-preserved c =
    let w : ℕ = length c.loop-last.places - 1 - c.loop-last.last in
    let len : length c.swap.new.self ≡ length c.loop-last.places = c.swap.ensures.len in
    let next : length c.swap.new.self - 1 - (c.loop-last.last - 1) ≡ w + 1 = omega arith in
    let some : 0 < c.loop-last.last = omega arith in
    let read : c.next_word-word.result ≡ word c.args.seed w = word_is c.args.seed w c.next_word-word.result c.loop-last.words c.next_word-word.new.self c.loop-last.invariant.words c.next_word-word.ensures in
    record {
      within = omega arith;
      words = rw next (words_are c.args.seed w c.next_word-word.result c.loop-last.words c.next_word-word.new.self c.loop-last.invariant.words (omega arith) c.next_word-word.ensures);
      same = rw next (exchanged c.args.seed c.loop-last.last w c.next_word-word.result c.loop-last.places c.swap.new.self some read c.swap.ensures.after ∙ c.loop-last.invariant.same);
    }

pub returns : goal.returns
returns c = whole c.args.seed (length c.loop-last.places - 1 - c.loop-last.last) c.loop-last.last c.loop-last.places (omega arith) ∙ c.loop-last.invariant.same
