use Rattle.std.proofs.Common.{◌∙◌, ap, arith, length, List, ℕ, subst, sym}
use Rattle.coin_candidates.specs.Candidates.{AreCandidates}
use Rattle.output_groups.specs.PlainGroups.{PlainGroups}
use Rattle.request_text.specs.PlainRequest.{PlainRequest}
use Rattle.walk_engine.specs.Search.{PlainSearch}
use Rattle.fund_steps.proofs.MakingLaws.{searched}
use Rattle.fund_steps.specs.Making.{KeepsFewOf}
use Rattle.fee_sharing.proofs.RowLaws.{unpriced_are}
use Rattle.fee_sharing.proofs.SharedLaws.{closed_shared, groups_with, is_made, opened, row_search, shared_pays}
use Rattle.fee_sharing.specs.Searching.{HasTried}
use Rattle.fee_sharing.proofs.row_shares.share_row.Goals as goal

pub new-requires-clause-candidates : goal.new-requires-clause-candidates
new-requires-clause-candidates c = subst AreCandidates (sym (c.deref.ensures.value ∙ c.in_ok-coins.ensures)) (unpriced_are c.args.candidates.now c.requires.candidates)

pub row_terms-terms-requires-clause-few : goal.row_terms-terms-requires-clause-few
row_terms-terms-requires-clause-few c =
    let seen = c.in_ok-seen.ensures in
    let both = searched c.in_ok-groups.groups c.args.row.now c.in_ok-seen.seen.items.items c.in_ok-seen.seen.sizes.items seen.items seen.sizes seen.fit seen.small in
    omega (arith, both.same, seen.fit.few, ap (λ (l : List ℕ). length l) c.deref-2.ensures.value)

pub returns-in-Open-clause-shared : goal.returns-in-Open-clause-shared
returns-in-Open-clause-shared c =
    let a = c.args in
    let groups = c.in_ok-groups.ensures ∙ ap (λ (q : PlainRequest). groups_with q c.deref.result.now) c.request.view_is in
    let made =
    is_made a.request.now a.change.now a.row.now a.candidates.now c.deref.result.now c.in_ok-groups.groups c.in_ok-seen.seen.items.items c.deref-2.result.now c.row_terms-terms.result c.in_ok-problem.problem (c.deref.ensures.value ∙ c.in_ok-coins.ensures) groups
    c.in_ok-seen.ensures.items (c.deref-2.ensures.value ∙ c.in_ok-seen.ensures.sizes) c.row_terms-terms.ensures.value c.in_ok-problem.ensures.value in
    let tried = subst (λ (s : PlainSearch). HasTried s c.try_all.new.search a.budget c.in_ok-try_all.field-0) c.in_ok-search.ensures.begins c.in_ok-try_all.ensures in
    opened c.in_ok-problem.problem _ c.try_all.new.search a.budget c.in_ok-try_all.field-0 c.tries.result made.problem_is tried c.in-Open.is c.tries.ensures.tries

pub returns-in-Open-clause-few : goal.returns-in-Open-clause-few
returns-in-Open-clause-few c =
    let a = c.args in
    let groups = c.in_ok-groups.ensures ∙ ap (λ (q : PlainRequest). groups_with q c.deref.result.now) c.request.view_is in
    let made =
    is_made a.request.now a.change.now a.row.now a.candidates.now c.deref.result.now c.in_ok-groups.groups c.in_ok-seen.seen.items.items c.deref-2.result.now c.row_terms-terms.result c.in_ok-problem.problem (c.deref.ensures.value ∙ c.in_ok-coins.ensures) groups
    c.in_ok-seen.ensures.items (c.deref-2.ensures.value ∙ c.in_ok-seen.ensures.sizes) c.row_terms-terms.ensures.value c.in_ok-problem.ensures.value in
    subst (λ (g : PlainGroups). KeepsFewOf g a.row.now) made.groups_are c.in_ok-seen.ensures.few

pub closed-requires-clause-search : goal.closed-requires-clause-search
closed-requires-clause-search c =
    let a = c.args in
    let groups = c.in_ok-groups.ensures ∙ ap (λ (q : PlainRequest). groups_with q c.deref.result.now) c.request.view_is in
    let made =
    is_made a.request.now a.change.now a.row.now a.candidates.now c.deref.result.now c.in_ok-groups.groups c.in_ok-seen.seen.items.items c.deref-2.result.now c.row_terms-terms.result c.in_ok-problem.problem (c.deref.ensures.value ∙ c.in_ok-coins.ensures) groups
    c.in_ok-seen.ensures.items (c.deref-2.ensures.value ∙ c.in_ok-seen.ensures.sizes) c.row_terms-terms.ensures.value c.in_ok-problem.ensures.value in
    let tried = subst (λ (s : PlainSearch). HasTried s c.try_all.new.search a.budget c.in_ok-try_all.field-0) c.in_ok-search.ensures.begins c.in_ok-try_all.ensures in
    row_search a.request.now a.change.now a.row.now a.candidates.now c.in_ok-groups.groups c.row_terms-terms.result c.in_ok-problem.problem c.try_all.new.search c.requires.candidates c.requires.worth made tried.problem

pub returns-clause-shared : goal.returns-clause-shared
returns-clause-shared c =
    let a = c.args in
    let groups = c.in_ok-groups.ensures ∙ ap (λ (q : PlainRequest). groups_with q c.deref.result.now) c.request.view_is in
    let made =
    is_made a.request.now a.change.now a.row.now a.candidates.now c.deref.result.now c.in_ok-groups.groups c.in_ok-seen.seen.items.items c.deref-2.result.now c.row_terms-terms.result c.in_ok-problem.problem (c.deref.ensures.value ∙ c.in_ok-coins.ensures) groups
    c.in_ok-seen.ensures.items (c.deref-2.ensures.value ∙ c.in_ok-seen.ensures.sizes) c.row_terms-terms.ensures.value c.in_ok-problem.ensures.value in
    let tried = subst (λ (s : PlainSearch). HasTried s c.try_all.new.search a.budget c.in_ok-try_all.field-0) c.in_ok-search.ensures.begins c.in_ok-try_all.ensures in
    closed_shared a.request.now a.change.now a.row.now a.candidates.now c.in_ok-groups.groups c.row_terms-terms.result c.in_ok-problem.problem c.try_all.new.search a.budget c.in_ok-try_all.field-0 c.in_ok-closed-in-Done.closed made c.in_ok-problem.ensures.fits tried c.in-Done.is c.in_ok-closed-in-Done.ensures

pub returns-clause-pays : goal.returns-clause-pays
returns-clause-pays c =
    let a = c.args in
    let groups = c.in_ok-groups.ensures ∙ ap (λ (q : PlainRequest). groups_with q c.deref.result.now) c.request.view_is in
    let made =
    is_made a.request.now a.change.now a.row.now a.candidates.now c.deref.result.now c.in_ok-groups.groups c.in_ok-seen.seen.items.items c.deref-2.result.now c.row_terms-terms.result c.in_ok-problem.problem (c.deref.ensures.value ∙ c.in_ok-coins.ensures) groups
    c.in_ok-seen.ensures.items (c.deref-2.ensures.value ∙ c.in_ok-seen.ensures.sizes) c.row_terms-terms.ensures.value c.in_ok-problem.ensures.value in
    let tried = subst (λ (s : PlainSearch). HasTried s c.try_all.new.search a.budget c.in_ok-try_all.field-0) c.in_ok-search.ensures.begins c.in_ok-try_all.ensures in
    shared_pays a.request.now a.change.now a.row.now a.candidates.now a.budget c.in_ok-closed-in-Done.closed c.requires.candidates c.requires.worth c.requires.row
    (closed_shared a.request.now a.change.now a.row.now a.candidates.now c.in_ok-groups.groups c.row_terms-terms.result c.in_ok-problem.problem c.try_all.new.search a.budget c.in_ok-try_all.field-0 c.in_ok-closed-in-Done.closed made c.in_ok-problem.ensures.fits tried c.in-Done.is c.in_ok-closed-in-Done.ensures)

pub returns-clause-few : goal.returns-clause-few
returns-clause-few c =
    let a = c.args in
    let groups = c.in_ok-groups.ensures ∙ ap (λ (q : PlainRequest). groups_with q c.deref.result.now) c.request.view_is in
    let made =
    is_made a.request.now a.change.now a.row.now a.candidates.now c.deref.result.now c.in_ok-groups.groups c.in_ok-seen.seen.items.items c.deref-2.result.now c.row_terms-terms.result c.in_ok-problem.problem (c.deref.ensures.value ∙ c.in_ok-coins.ensures) groups
    c.in_ok-seen.ensures.items (c.deref-2.ensures.value ∙ c.in_ok-seen.ensures.sizes) c.row_terms-terms.ensures.value c.in_ok-problem.ensures.value in
    subst (λ (g : PlainGroups). KeepsFewOf g a.row.now) made.groups_are c.in_ok-seen.ensures.few
