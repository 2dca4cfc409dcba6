use Rattle.std.proofs.Common.{◌≡◌, ◌∙◌, ◌⊎◌, inl, inr, ℕ, ◌+◌, ◌<◌, ◌≤◌, ◌==◌, false, length, get_or, sym, ap, arith}
use Rattle.std.proofs.lemmas.Bool.{cases_lt, ne_eqb}
use Rattle.payment_states.specs.Words.{has_flag}
use Rattle.payment_states.proofs.SpanSteps.{set_case}
use Rattle.payment_states.proofs.WordSteps.{same_eqb}
use Rattle.payment_states.proofs.spans.flag_own.Goals as goal

pub loop-place-init : goal.loop-place-init
loop-place-init c = record { own = λ j k small lt. absurd (omega arith); none = λ j k small le. c.requires.clean j k small }

pub loop-place-preserved : goal.loop-place-preserved
loop-place-preserved c =
    let first = c.args.first in
    let p = c.loop-place.place in
    let words = c.loop-place.words in
    let inv = c.loop-place.invariant in
    let test = c.loop-place-test.true in
    let within : p < length words = omega (arith, c.requires.end, c.loop-place.auto.words) in
    record {
      own = λ j k small lt.
          let earlier : (first + k < p) ⊎ (p ≤ first + k) → (j ≡ p → ⊥) → has_flag (get_or words j 0) k ≡ (first + k == j) =
          λ s ne. elim s [
            | inl b ↦ inv.own j k small b
            | inr b ↦ inv.none j k small b ∙ sym (ne_eqb (first + k) j (λ e. ne (omega arith)))
          ]
          in
          set_case words p c.own_flag.result j (λ x. has_flag x k ≡ (first + k == j)) within
          (λ e. c.own_flag.ensures k small ∙ same_eqb p (first + k) ∙ ap (λ n. first + k == n) (sym e)) (earlier (cases_lt (first + k) p));
      none = λ j k small le.
          set_case words p c.own_flag.result j (λ x. has_flag x k ≡ false) within
          (λ e. c.own_flag.ensures k small ∙ ne_eqb p (first + k) (λ same. absurd (omega arith))) (λ ne. inv.none j k small (omega arith));
    }

pub returns-clause-own : goal.returns-clause-own
returns-clause-own c = λ j k small lt. let end = c.loop-place-test.false in c.loop-place.invariant.own j k small (omega arith)

pub returns-clause-none : goal.returns-clause-none
returns-clause-none c = λ j k small le. let at = c.loop-place.auto.place-end c.requires.first in c.loop-place.invariant.none j k small (omega arith)
