use Rattle.std.proofs.Common.{◌≡◌, ◌∙◌, ℕ, ◌+◌, ◌&&◌, Bool, false, cond, length, get_or, min, sym, ap, arith}
use Rattle.std.specs.Prelude.{count_by}
use Rattle.std.proofs.lemmas.Bool.{and_right}
use Rattle.payment_states.specs.Counts.{is_counted}
use Rattle.payment_states.specs.Graph.{below}
use Rattle.payment_states.proofs.CountSteps.{count_more, count_none, count_to, more_is}
use Rattle.payment_states.proofs.counts.tally.Goals as goal

pub loop-place-init : goal.loop-place-init
loop-place-init c =
    let p : ℕ → Bool = λ j. is_counted c.args.counted.now j && get_or c.args.marks.now j false in
    let none : count_by p (below c.args.low) ≡ 0 = count_none p c.args.low (λ j lt. and_right (is_counted c.args.counted.now j) (get_or c.args.marks.now j false) (c.requires.below j lt)) in
    let zero : min 4294967295 0 ≡ 0 = omega arith in
    sym (ap (λ n. min 4294967295 n) none ∙ zero)

pub loop-place-preserved : goal.loop-place-preserved
loop-place-preserved c =
    let p = c.loop-place.place in
    let f : ℕ → Bool = λ j. is_counted c.args.counted.now j && get_or c.args.marks.now j false in
    c.more-count.ensures
    ∙ ap (λ b. cond b (min 4294967295 (c.loop-place.count + 1)) c.loop-place.count) c.both.ensures
    ∙ more_is (f p) c.loop-place.count (count_by f (below p)) c.loop-place.invariant
    ∙ ap (λ n. min 4294967295 n) (sym (count_more f p))

pub returns : goal.returns
returns c =
    let f : ℕ → Bool = λ j. is_counted c.args.counted.now j && get_or c.args.marks.now j false in
    c.loop-place.invariant
    ∙ ap (λ n. min 4294967295 n) (sym (count_to f c.loop-place.place (length c.args.marks.now) (omega arith) (λ j le. and_right (is_counted c.args.counted.now j) (get_or c.args.marks.now j false) (c.requires.above j (omega arith)))))
