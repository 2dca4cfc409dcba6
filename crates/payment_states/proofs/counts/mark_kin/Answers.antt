use Rattle.std.proofs.Common.{◌≡◌, ◌∙◌, ℕ, ◌-◌, ◌<◌, ◌==◌, ◌||◌, Bool, true, false, length, set, get_or, refl, arith}
use Rattle.std.proofs.lemmas.Bool.{ne_eqb}
use Rattle.payment_states.proofs.CountSteps.{set_mark}
use Rattle.payment_states.proofs.MarkSteps.{known_end, known_start, known_step}
use Rattle.payment_states.proofs.counts.mark_kin.Goals as goal

or_false : (b : Bool) (c : Bool) → c ≡ false → (b || c) ≡ b
or_false true c e = refl
or_false false c e = e

pub loop-low-init : goal.loop-low-init
loop-low-init c =
    let marks = c.args.marks.now in
    let i = c.args.start in
    let within : i < length marks = omega arith in
    let first : (j : ℕ) → get_or (set marks i true) j false ≡ (i == j) = λ j. set_mark marks i j within ∙ or_false (i == j) (get_or marks j false) (c.requires.clean j) in
    (known_start c.args.parents.now i (λ j. get_or (set marks i true) j false) c.requires.order c.requires.start first, λ j lt. first j ∙ ne_eqb i j (λ e. absurd (omega arith)), omega arith, omega arith, omega arith)

pub loop-low-preserved : goal.loop-low-preserved
loop-low-preserved c = (
  known_step c.args.parents.now c.args.start c.loop-low.place (c.loop-low.place - 1) (λ j. get_or c.loop-low.marks j false) (λ j. get_or c.mark_parents-low.new.marks j false) c.requires.order c.requires.start (omega arith) c.loop-low.invariant.0 c.mark_parents-low.ensures.marks,
  c.mark_parents-low.ensures.below,
  omega arith,
  omega arith,
  omega arith,
)

pub returns-clause-marks : goal.returns-clause-marks
returns-clause-marks c = known_end c.args.parents.now c.args.start c.loop-low.place c.loop-low.low (λ j. get_or c.loop-low.marks j false) c.requires.order c.requires.start c.loop-low-test.false c.loop-low.invariant.0 c.loop-low.invariant.1
