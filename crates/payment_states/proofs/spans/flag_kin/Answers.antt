use Rattle.std.proofs.Common.{◌≡◌, ◌∙◌, ◌⊎◌, inl, inr, ℕ, ◌+◌, ◌-◌, ◌<◌, ◌≤◌, ◌==◌, ◌||◌, ◌&&◌, Bool, true, false, length, get_or, sym, ap, arith}
use Rattle.std.specs.List.{list_any}
use Rattle.std.proofs.lemmas.Bool.{cases_lt, ne_eqb}
use Rattle.payment_states.specs.Graph.{steps}
use Rattle.payment_states.specs.Words.{has_flag}
use Rattle.payment_states.proofs.MarkSteps.{known_end, known_from, known_step}
use Rattle.payment_states.proofs.spans.flag_kin.Goals as goal

pub loop-low-init : goal.loop-low-init
loop-low-init c =
    let first = c.args.first in
    let end = c.args.end in
    let le = c.requires.end in
    record {
      marks = λ k small lt. known_from c.args.parents.now (first + k) end (λ j. has_flag (get_or c.args.words.now j 0) k) c.requires.order (omega arith) lt (λ j. c.requires.own j k small lt);
      others = λ j k small in'. c.requires.none j k small in';
      below = λ j k lt small. by j k lt small (cases_lt (first + k) end);
      at_low = (let b = c.requires.first in omega arith);
      at_end = omega arith;
      from = omega arith;
    }
  where
    by : (j k : ℕ) → j < c.args.first → k < 64 → (c.args.first + k < c.args.end) ⊎ (c.args.end ≤ c.args.first + k) → has_flag (get_or c.args.words.now j 0) k ≡ false
    by j k lt small (inl b) = c.requires.own j k small b ∙ ne_eqb (c.args.first + k) j (λ e. absurd (omega arith))
    by j k lt small (inr b) = c.requires.none j k small b

pub flag_parents-low-requires-clause-place : goal.flag_parents-low-requires-clause-place
flag_parents-low-requires-clause-place c = let le = c.requires.end in let in' = c.loop-low.invariant.at_end in let test = c.loop-low-test.true in omega arith

pub flag_parents-low-requires-clause-low : goal.flag_parents-low-requires-clause-low
flag_parents-low-requires-clause-low c = c.loop-low.invariant.below

pub loop-low-smaller : goal.loop-low-smaller
loop-low-smaller c = let test = c.loop-low-test.true in omega arith

no_others : (a b c : Bool) → a ≡ false → c ≡ false → ((a && b) || c) ≡ false
no_others a b c e f = λ k. (e k && b) || f k

pub loop-low-preserved : goal.loop-low-preserved
loop-low-preserved c =
    let first = c.args.first in
    let place = c.loop-low.place in
    let inv = c.loop-low.invariant in
    let test = c.loop-low-test.true in
    let le = c.requires.end in
    let old = c.loop-low.words in
    let new = c.flag_parents-low.new.words in
    let from = inv.from in
    let low = c.flag_parents-low.ensures.low in
    let end = inv.at_end in
    record {
      marks = λ k small lt.
          known_step c.args.parents.now (first + k) place (place - 1) (λ j. has_flag (get_or old j 0) k) (λ j. has_flag (get_or new j 0) k) c.requires.order (omega arith) (omega arith) (inv.marks k small lt) (λ j. c.flag_parents-low.ensures.flags j k);
      others = λ j k small in'.
          c.flag_parents-low.ensures.flags j k
          ∙ no_others (has_flag (get_or old (place - 1) 0) k) (list_any (λ p. p == j) (steps c.args.parents.now (place - 1))) (has_flag (get_or old j 0) k) (inv.others (place - 1) k small in') (inv.others j k small in');
      below = c.flag_parents-low.ensures.below;
      at_low = omega arith;
      at_end = omega arith;
      from = omega arith;
    }

pub returns-clause-flags : goal.returns-clause-flags
returns-clause-flags c = λ j k small lt.
    let le = c.requires.end in
    known_end c.args.parents.now (c.args.first + k) c.loop-low.place c.loop-low.low (λ i. has_flag (get_or c.loop-low.words i 0) k) c.requires.order (omega arith) c.loop-low-test.false (c.loop-low.invariant.marks k small lt)
    (λ i b. c.loop-low.invariant.below i k b small) j

pub returns-clause-others : goal.returns-clause-others
returns-clause-others c = λ j k small in'. c.loop-low.invariant.others j k small in'

pub returns-clause-low : goal.returns-clause-low
returns-clause-low c = c.loop-low.invariant.from

pub returns-clause-below : goal.returns-clause-below
returns-clause-below c = c.loop-low.invariant.below
