use Rattle.std.proofs.Common.{◌≡◌, ◌∙◌, List, Ok, ap, inl, inr, subst, sym}
use Rattle.std.proofs.lemmas.Result.{err_from_is_err_and}
use Rattle.closing_log.specs.Log.{PlainSection}
use Rattle.command_share.proofs.RowLaws.{crowded_row}
use Rattle.command_share.proofs.SearchLaws.{first_crowded, first_found, first_open, second_fault, second_means}
use Rattle.command_share.specs.Rows.{EndsRow, PlainRun, after_row, beginning, first_row, second_row}
use Rattle.command_share.specs.declared.rows.RowsEnd.TheVariants as ends
use Rattle.command_share.proofs.rows.search_rows.Goals as goal

pub returns-in_err-first-clause-fault : goal.returns-in_err-first-clause-fault
returns-in_err-first-clause-fault c =
    let a = c.args in
    let p = err_from_is_err_and c.from_residual.result c.from_residual.ensures.1 in
    let crowded = rw c.ladder-rows.ensures.rows at c.in_err-first.ensures.fault in
    rw (p.1, p.2) (first_crowded a.request.now a.change.now a.candidates.now c.in_err-first.field-0.0 (crowded_row a.request.now a.change.now first_row a.candidates.now beginning) crowded)

pub returns-in-Nothing-clause-means : goal.returns-in-Nothing-clause-means
returns-in-Nothing-clause-means c =
    let a = c.args in
    let first = c.in_ok-first.first in
    let none = ap (λ (l : List PlainSection). record { end = ends.Nothing; sections = l; tries = 0 }) c.new.ensures.items in
    let value = subst (λ (b : PlainRun). after_row a.request.now a.change.now first_row a.candidates.now b ≡ Ok first) none (rw c.ladder-rows.ensures.rows at c.in_ok-first.ensures.value) in
    let ended = subst (λ (b : PlainRun). EndsRow a.request.now a.change.now first_row a.candidates.now b first first.end) none (rw c.ladder-rows.ensures.rows at c.in_ok-first.ensures.ends) in
    let nothing = sym (ap (λ (x : PlainRun). x.end) c.first.view_is) ∙ c.in-Nothing.is in
    let view = c.first.view_is in
    let second = rw c.ladder-rows.ensures.rows at c.after_row-in-Nothing.ensures.value in
    let second_ends = rw c.ladder-rows.ensures.rows at c.after_row-in-Nothing.ensures.ends in
    second_means a.request.now a.change.now a.candidates.now first _ c.after_row-in-Nothing.result second second_ends (cc) nothing value ended

pub returns-in-Nothing-clause-fault : goal.returns-in-Nothing-clause-fault
returns-in-Nothing-clause-fault c =
    let a = c.args in
    let first = c.in_ok-first.first in
    let none = ap (λ (l : List PlainSection). record { end = ends.Nothing; sections = l; tries = 0 }) c.new.ensures.items in
    let value = subst (λ (b : PlainRun). after_row a.request.now a.change.now first_row a.candidates.now b ≡ Ok first) none (rw c.ladder-rows.ensures.rows at c.in_ok-first.ensures.value) in
    let ended = subst (λ (b : PlainRun). EndsRow a.request.now a.change.now first_row a.candidates.now b first first.end) none (rw c.ladder-rows.ensures.rows at c.in_ok-first.ensures.ends) in
    let nothing = sym (ap (λ (x : PlainRun). x.end) c.first.view_is) ∙ c.in-Nothing.is in
    let crowded = rw c.ladder-rows.ensures.rows at c.after_row-in-Nothing.ensures.fault in
    second_fault a.request.now a.change.now a.candidates.now first c.after_row-in-Nothing.result crowded (crowded_row a.request.now a.change.now second_row a.candidates.now first) nothing value ended

pub returns-in-Found : goal.returns-in-Found
returns-in-Found c =
    let a = c.args in
    let first = c.in_ok-first.first in
    let none = ap (λ (l : List PlainSection). record { end = ends.Nothing; sections = l; tries = 0 }) c.new.ensures.items in
    let value = subst (λ (b : PlainRun). after_row a.request.now a.change.now first_row a.candidates.now b ≡ Ok first) none (rw c.ladder-rows.ensures.rows at c.in_ok-first.ensures.value) in
    let ended = subst (λ (b : PlainRun). EndsRow a.request.now a.change.now first_row a.candidates.now b first first.end) none (rw c.ladder-rows.ensures.rows at c.in_ok-first.ensures.ends) in
    let view = sym (ap (λ (x : PlainRun). x.end) c.first.view_is) in
    elim c.in-Found.is [
      | inl found ↦
          let done = first_found a.request.now a.change.now a.candidates.now first _ value (view ∙ found.1) ended in
          record { value = done.0; means = done.1; tries = c.in_ok-first.ensures.tries; fault = tt }
      | inr unfinished ↦
          let done = first_open a.request.now a.change.now a.candidates.now first _ value (view ∙ unfinished.1) ended in
          record { value = done.0; means = done.1; tries = c.in_ok-first.ensures.tries; fault = tt }
    ]
