use Rattle.std.proofs.Common.{◌≡◌, ◌∙◌, ◌⊎◌, inl, inr, ℕ, ◌+◌, ◌<◌, ◌≤◌, false, length, get_or, min, refl, sym, ap, arith}
use Rattle.std.proofs.lemmas.Bool.{cases_lt}
use Rattle.std.proofs.lemmas.List.{get_or-set_other}
use Rattle.payment_states.specs.Words.{flag_count, has_flag}
use Rattle.payment_states.proofs.SpanSteps.{set_case}
use Rattle.payment_states.proofs.WordSteps.{no_flag}
use Rattle.payment_states.proofs.spans.count_flags.Goals as goal

pub loop-place-init : goal.loop-place-init
loop-place-init c = record {
  more = λ j le lt. absurd (omega arith);
  behind = λ j le. refl;
  before = λ j lt. refl;
  gone = λ j k le lt. absurd (omega arith);
  kept = λ j le. refl;
  front = λ j lt. refl;
}

pub loop-place-preserved : goal.loop-place-preserved
loop-place-preserved c =
    let p = c.loop-place.place in
    let words = c.loop-place.words in
    let numbers = c.loop-place.numbers in
    let inv = c.loop-place.invariant in
    let test = c.loop-place-test.true in
    let from : c.args.low ≤ p = c.loop-place.auto.place in
    let in_words : p < length words = omega (arith, c.requires.end, c.loop-place.auto.words) in
    let in_numbers : p < length numbers = omega (arith, c.requires.end, c.requires.numbers, c.loop-place.auto.numbers) in
    record {
      more = λ j le lt.
          set_case numbers p c.add_flags.result j (λ x. x ≡ min 4294967295 (get_or c.args.numbers.now j 0 + flag_count (has_flag (get_or c.args.words.now j 0)) c.args.counted)) in_numbers
          (λ e. c.add_flags.ensures
          ∙ (λ i. min 4294967295 (inv.behind p (omega arith) i + flag_count (has_flag (inv.kept p (omega arith) i)) c.args.counted))
          ∙ ap (λ m. min 4294967295 (get_or c.args.numbers.now m 0 + flag_count (has_flag (get_or c.args.words.now m 0)) c.args.counted)) (sym e))
          (λ ne. inv.more j le (omega arith));
      behind = λ j le. get_or-set_other numbers p j c.add_flags.result 0 (λ e. absurd (omega arith)) ∙ inv.behind j (omega arith);
      before = λ j lt. get_or-set_other numbers p j c.add_flags.result 0 (λ e. absurd (omega arith)) ∙ inv.before j lt;
      gone = λ j k le lt. set_case words p 0 j (λ x. has_flag x k ≡ false) in_words (λ e. no_flag k) (λ ne. inv.gone j k le (omega arith));
      kept = λ j le. get_or-set_other words p j 0 0 (λ e. absurd (omega arith)) ∙ inv.kept j (omega arith);
      front = λ j lt. get_or-set_other words p j 0 0 (λ e. absurd (omega arith)) ∙ inv.front j lt;
    }

pub returns-clause-more : goal.returns-clause-more
returns-clause-more c = λ j le lt. let end = c.loop-place-test.false in c.loop-place.invariant.more j le (omega arith)

pub returns-clause-before : goal.returns-clause-before
returns-clause-before c = λ j lt. c.loop-place.invariant.before j lt

pub returns-clause-behind : goal.returns-clause-behind
returns-clause-behind c = λ j le. let at = c.loop-place.auto.place-end c.requires.low in c.loop-place.invariant.behind j (omega arith)

pub returns-clause-clean : goal.returns-clause-clean
returns-clause-clean c = λ j k small. by j k small (cases_lt j c.args.low) (cases_lt j c.loop-place.place)
  where
    by : (j k : ℕ) → k < 64 → (j < c.args.low) ⊎ (c.args.low ≤ j) → (j < c.loop-place.place) ⊎ (c.loop-place.place ≤ j) → has_flag (get_or c.loop-place.words j 0) k ≡ false
    by j k small (inl b) other = ap (λ x. has_flag x k) (c.loop-place.invariant.front j b) ∙ c.requires.below j k b small
    by j k small (inr b) (inl d) = c.loop-place.invariant.gone j k b d
    by j k small (inr b) (inr d) = let end = c.loop-place-test.false in ap (λ x. has_flag x k) (c.loop-place.invariant.kept j d) ∙ c.requires.above j k (omega arith) small
