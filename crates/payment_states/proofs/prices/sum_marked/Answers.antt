use Rattle.std.proofs.Common.{◌≡◌, ◌∙◌, ◌⊎◌, inl, inr, ℕ, ◌+◌, ◌<◌, ◌≤◌, Bool, false, cond, List, length, set, get_or, min, refl, sym, ap, arith}
use Rattle.std.specs.Prelude.{sum_by}
use Rattle.std.proofs.lemmas.Bool.{cases_eq}
use Rattle.std.proofs.lemmas.List.{get_or-set_same, get_or-set_other}
use Rattle.payment_states.specs.Counts.{share_in}
use Rattle.payment_states.specs.Graph.{below}
use Rattle.payment_states.proofs.PriceSteps.{cap, sum_more, sum_none, sum_to}
use Rattle.payment_states.proofs.prices.sum_marked.Goals as goal

cleared : (marks : List Bool) (p j : ℕ) → p < length marks → ((j : ℕ) → j < p → get_or marks j false ≡ false) → j < p + 1 → (j ≡ p) ⊎ (j ≡ p → ⊥) → get_or (set marks p false) j false ≡ false
cleared marks p j within before lt (inl e) = ap (λ k. get_or (set marks p false) k false) e ∙ get_or-set_same marks p false false within
cleared marks p j within before lt (inr ne) = get_or-set_other marks p j false false ne ∙ before j (omega arith)

pub loop-place-init : goal.loop-place-init
loop-place-init c =
    let f : ℕ → ℕ = λ j. cond (get_or c.args.marks.now j false) (share_in c.args.shares.now j) 0 in
    let none : sum_by f (below c.args.low) ≡ 0 = sum_none f c.args.low (λ j lt. ap (λ b. cond b (share_in c.args.shares.now j) 0) (c.requires.below j lt)) in
    let zero : min 2_100_000_000_000_000 0 ≡ 0 = omega arith in
    (sym (ap (λ n. min 2_100_000_000_000_000 n) none ∙ zero), c.requires.below, λ j le. refl)

pub loop-place-preserved : goal.loop-place-preserved
loop-place-preserved c =
    let p = c.loop-place.place in
    let f : ℕ → ℕ = λ j. cond (get_or c.args.marks.now j false) (share_in c.args.shares.now j) 0 in
    let inv = c.loop-place.invariant in
    let marks = c.loop-place.marks in
    let in_marks : p < length marks = omega arith in
    let here : c.share_if-share.result ≡ f p = c.share_if-share.ensures.value ∙ ap (λ b. cond b (share_in c.args.shares.now p) 0) (inv.2 p (omega arith)) in (
      c.plus-sum.ensures ∙ (λ k. min 2_100_000_000_000_000 (inv.0 k + here k)) ∙ cap (sum_by f (below p)) (f p) ∙ ap (λ n. min 2_100_000_000_000_000 n) (sym (sum_more f p)),
      λ j lt. cleared marks p j in_marks inv.1 lt (cases_eq j p),
      λ j le. get_or-set_other marks p j false false (λ e. absurd (omega arith)) ∙ inv.2 j (omega arith),
    )

pub returns-clause-sum : goal.returns-clause-sum
returns-clause-sum c =
    let f : ℕ → ℕ = λ j. cond (get_or c.args.marks.now j false) (share_in c.args.shares.now j) 0 in
    c.loop-place.invariant.0
    ∙ ap (λ n. min 2_100_000_000_000_000 n)
    (sym (sum_to f c.loop-place.place (length c.args.marks.now) (omega arith) (λ j le. ap (λ b. cond b (share_in c.args.shares.now j) 0) (c.requires.above j (omega arith)))))
