use Rattle.std.proofs.Common.{◌∙◌, ap, arith, length, List, ℕ, refl, subst, sym}
use Rattle.coin_candidates.specs.Candidates.{AreCandidates}
use Rattle.fee_rates.specs.declared.terms.Terms.{Terms}
use Rattle.request_text.specs.PlainRequest.{PlainRequest}
use Rattle.fund_steps.proofs.MakingLaws.{searched}
use Rattle.fund_steps.proofs.SumLaws.{weights_within}
use Rattle.fee_sharing.proofs.RowLaws.{unpriced_are}
use Rattle.fee_sharing.proofs.SharedLaws.{base_in, groups_with, is_made}
use Rattle.fee_sharing.proofs.WeighLaws.{weighed}
use Rattle.fee_sharing.specs.RowShares.{load_in}
use Rattle.fee_sharing.proofs.weighing.share_weight.Goals as goal

pub new-requires-clause-candidates : goal.new-requires-clause-candidates
new-requires-clause-candidates c = subst AreCandidates (sym (c.deref.ensures.value ∙ c.in_ok-unpriced.ensures)) (unpriced_are c.args.candidates.now c.requires.candidates)

pub row_terms-terms-requires-clause-few : goal.row_terms-terms-requires-clause-few
row_terms-terms-requires-clause-few c =
    let seen = c.in_ok-seen.ensures in
    let both = searched c.in_ok-groups.groups c.args.row.now c.in_ok-seen.seen.items.items c.in_ok-seen.seen.sizes.items seen.items seen.sizes seen.fit seen.small in
    omega (arith, both.same, seen.fit.few, ap (λ (l : List ℕ). length l) c.deref-2.ensures.value)

pub weight-requires : goal.weight-requires
weight-requires c = weights_within c.args.coins.now c.requires.coins

pub overflow_add-result : goal.overflow_add-result
overflow_add-result c = omega (arith, weights_within c.args.coins.now c.requires.coins, c.weight.ensures, c.row_terms-terms.ensures.base)

pub overflow_add-result-2 : goal.overflow_add-result-2
overflow_add-result-2 c = omega (arith, weights_within c.args.coins.now c.requires.coins, c.weight.ensures, c.row_terms-terms.ensures.base, c.change_weight.ensures.most)

pub returns-clause-value : goal.returns-clause-value
returns-clause-value c =
    let a = c.args in
    let groups = c.in_ok-groups.ensures ∙ ap (λ (q : PlainRequest). groups_with q c.deref.result.now) c.request.view_is in
    let made =
    is_made a.request.now a.change.now a.row.now a.candidates.now c.deref.result.now c.in_ok-groups.groups c.in_ok-seen.seen.items.items c.deref-2.result.now c.row_terms-terms.result _ (c.deref.ensures.value ∙ c.in_ok-unpriced.ensures) groups
    c.in_ok-seen.ensures.items (c.deref-2.ensures.value ∙ c.in_ok-seen.ensures.sizes) c.row_terms-terms.ensures.value refl in
    let base = ap (λ (t : Terms). t.base) made.terms_are ∙ base_in a.request.now (load_in a.request.now a.change.now a.row.now a.candidates.now) in
    weighed a.request.now a.change.now a.row.now a.candidates.now a.coins.now a.amount c.row_terms-terms.result.base c.weight.result c.change_weight.result base c.weight.ensures c.change_weight.ensures.none c.change_weight.ensures.some
