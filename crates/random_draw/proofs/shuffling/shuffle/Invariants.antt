use Rattle.std.specs.Prelude.{◌≡◌, ◌-◌, ◌≤◌, length}
use Rattle.random_draw.specs.Order.{shuffled_from}
use Rattle.random_draw.proofs.OrderLaws.{words_at}
use Rattle.random_draw.proofs.shuffling.shuffle.Given as goal

-- so many words are used as there are entries after the last one that is left; what is left goes on to the whole order
abbrev pub invariant-loop-last : goal.invariant-loop-last
invariant-loop-last l = record {
  within : l.last ≤ length l.places - 1;
  words : l.words ≡ words_at l.fn.seed (length l.places - 1 - l.last);
  same : shuffled_from l.fn.seed (length l.places - 1 - l.last) l.last l.places ≡ shuffled_from l.fn.seed 0 (length l.fn.places - 1) l.fn.places;
}

abbrev pub decreases-loop-last : goal.decreases-loop-last
decreases-loop-last l = l.last
