use Rattle.std.proofs.Common.{◌≡◌, ◌≢◌, ◌∙◌, ℕ, ◌+◌, ◌<◌, ◌≤◌, List, [], length, get_or, set, min, All, refl, sym, ap, subst, arith}
use Rattle.std.proofs.lemmas.List.{get_or-set_other, get_or_default}
use Rattle.payment_states.specs.Graph.{steps, within}
use Rattle.payment_states.specs.Words.{flag_count, has_flag}
use Rattle.payment_states.proofs.SpanSteps.{flag_same, set_case, up_word}
use Rattle.payment_states.proofs.spans.count_up.Goals as goal

pub joined-word-requires : goal.joined-word-requires
joined-word-requires c k d lt =
    let g = c.args.parents.now in
    let i = c.loop-place.place in
    let is : c.as_slice.result.now ≡ steps g i = c.as_slice.ensures ∙ c.index-parents-place.is ∙ get_or_default g i c.index-parents-place.result [] c.loop-place-test.true in
    let before : get_or c.as_slice.result.now k d < i = subst (λ (ps : List ℕ). All (λ p. p < i) ps) (sym is) (c.requires.order i c.loop-place-test.true) k d lt in
    omega arith

pub loop-place-preserved : goal.loop-place-preserved
loop-place-preserved c =
    let g = c.args.parents.now in
    let first = c.args.first in
    let p = c.loop-place.place in
    let inv = c.loop-place.invariant in
    let words = c.loop-place.words in
    let numbers = c.loop-place.numbers in
    let old = c.args.numbers.now in
    let word = c.joined-word.result in
    let lt : p < length g = c.loop-place-test.true in
    let from : first ≤ p = c.loop-place.auto.place in
    let in_words : p < length words = omega arith in
    let in_numbers : p < length numbers = omega arith in
    let is : c.as_slice.result.now ≡ steps g p = c.as_slice.ensures ∙ c.index-parents-place.is ∙ get_or_default g p c.index-parents-place.result [] lt in
    let here : (k : ℕ) → k < 64 → has_flag word k ≡ within g (length g) p (first + k) =
    λ k in'. up_word g words c.as_slice.result.now first p k c.own_flag.result word c.requires.order lt from in' is (λ i a b. inv.words i k a b in') (c.own_flag.ensures k in') (c.joined-word.ensures k)
    in
    record {
      words = λ i k a b in'. set_case words p word i (λ x. has_flag x k ≡ within g (length g) i (first + k)) in_words
          (λ e. here k in' ∙ ap (λ j. within g (length g) j (first + k)) (sym e)) (λ ne. inv.words i k a (omega arith) in');
      counted = λ i a b. set_case numbers p c.add_flags.result i (λ x. x ≡ min 4294967295 (get_or old i 0 + flag_count (λ k. within g (length g) i (first + k)) c.args.counted)) in_numbers
          (λ e. c.add_flags.ensures
          ∙ (λ j. min 4294967295 (inv.behind p (omega arith) j + flag_same (has_flag word) (λ k. within g (length g) p (first + k)) c.args.counted here j))
          ∙ ap (λ m. min 4294967295 (get_or old m 0 + flag_count (λ k. within g (length g) m (first + k)) c.args.counted)) (sym e))
          (λ ne. inv.counted i a (omega arith));
      behind = λ i le. get_or-set_other numbers p i c.add_flags.result 0 (λ e. absurd (omega arith)) ∙ inv.behind i (omega arith);
      before = λ i b. get_or-set_other numbers p i c.add_flags.result 0 (λ e. absurd (omega arith)) ∙ inv.before i b;
    }
