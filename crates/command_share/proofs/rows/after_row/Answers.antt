use Rattle.std.proofs.Common.{◌∙◌, ◌++◌, ◌∷◌, [], ap, arith, List, refl}
use Rattle.coin_candidates.specs.declared.candidate.Candidate.{Candidate}
use Rattle.fee_sharing.specs.RowShares.{load_in, problem_in}
use Rattle.fund_plan.specs.Pays.{payment_weight}
use Rattle.request_text.specs.PlainRequest.{PlainRequest}
use Rattle.command_share.proofs.RowLaws.{budget_is, found_now, none_now, open_now, tries_fit}
use Rattle.command_share.specs.Rows.{PlainRun}
use Rattle.command_share.proofs.rows.after_row.Goals as goal

pub overflow_add-result : goal.overflow_add-result
overflow_add-result c =
    let a = c.args in
    let shared = rw c.in-None.is at c.in_ok-section.ensures.shared in
    let own = ap (λ (x : PlainRun). x.tries) c.before-2.view_is in
    let asked = ap (λ (q : PlainRequest). q.tries) c.request.view_is in
    omega (arith, c.keeps_rules.ensures.tries.1, asked, own, c.requires.tries, tries_fit (problem_in a.request.now a.change.now a.row.now a.candidates.now) a.row.now.number c.before-2.inside.tries _ c.in-None.made c.request.inside.tries c.in-None.section shared.0 refl (omega (arith, own, asked, c.requires.tries)))

pub returns-in-None : goal.returns-in-None
returns-in-None c =
    let a = c.args in
    let shared = rw c.in-None.is at c.in_ok-section.ensures.shared in
    let own = ap (λ (x : PlainRun). x.tries) c.before-2.view_is in
    let all = budget_is _ _ _ _ (ap (λ (q : PlainRequest). q.tries) c.request.view_is) own in
    let are = c.in_ok-add-in-None.ensures ∙ ap (λ (x : PlainRun). x.sections ++ c.in-None.section ∷ []) c.before-2.view_is in
    let done = none_now a.request.now a.change.now a.row.now a.candidates.now a.before c.before-2.inside.tries _ c.in-None.section c.in-None.made c.add.new.sections.items own all c.requires.tries c.in_ok-section.ensures.few shared.0 shared.1 are in
    record { value = done.0; ends = done.1.0; tries = done.1.1; fault = tt }

pub overflow_add-result-in-Found : goal.overflow_add-result-in-Found
overflow_add-result-in-Found c =
    let a = c.args in
    let shared = rw c.in-Found.is at c.in_ok-section.ensures.shared in
    let own = ap (λ (x : PlainRun). x.tries) c.before-2.view_is in
    let asked = ap (λ (q : PlainRequest). q.tries) c.request.view_is in
    omega (arith, c.keeps_rules.ensures.tries.1, asked, own, c.requires.tries, tries_fit (problem_in a.request.now a.change.now a.row.now a.candidates.now) a.row.now.number c.before-2.inside.tries _ c.in-Found.made c.request.inside.tries c.in-Found.section shared.0 refl (omega (arith, own, asked, c.requires.tries)))

pub returns-in-Found : goal.returns-in-Found
returns-in-Found c =
    let a = c.args in
    let shared = rw c.in-Found.is at c.in_ok-section.ensures.shared in
    let pays = rw c.in-Found.is at c.in_ok-section.ensures.pays in
    let own = ap (λ (x : PlainRun). x.tries) c.before-2.view_is in
    let all = budget_is _ _ _ _ (ap (λ (q : PlainRequest). q.tries) c.request.view_is) own in
    let are = c.in_ok-add-in-Found.ensures ∙ ap (λ (x : PlainRun). x.sections ++ c.in-Found.section ∷ []) c.before-2.view_is in
    let weight = c.in_ok-weight-in-Found.ensures.value ∙ ap (λ (l : List Candidate). payment_weight (load_in a.request.now a.change.now a.row.now a.candidates.now) l c.in-Found.amount) c.deref.ensures.value in
    let done = found_now a.request.now a.change.now a.row.now a.candidates.now a.before c.before-2.inside.tries _ (record { row = a.row.now; coins = c.in-Found.coins.items; change = c.in-Found.amount; borne = c.in-Found.borne; weight = c.in_ok-weight-in-Found.weight }) c.in-Found.section c.in-Found.made c.add-in-Found.new.sections.items own all c.requires.tries c.in_ok-section.ensures.few shared.0 shared.1 pays refl weight are in
    record { value = done.0; ends = done.1.0; tries = done.1.1; fault = tt }

pub returns-clause-value : goal.returns-clause-value
returns-clause-value c =
    let a = c.args in
    let shared = rw c.in-Open.is at c.in_ok-section.ensures.shared in
    let own = ap (λ (x : PlainRun). x.tries) c.before-2.view_is in
    let all = budget_is _ _ _ _ (ap (λ (q : PlainRequest). q.tries) c.request.view_is) own in
    let are = ap (λ (x : PlainRun). x.sections) c.before-2.view_is in
    let done = open_now a.request.now a.change.now a.row.now a.candidates.now a.before c.before-2.inside.tries _ a.row.now.number c.in-Open.made c.before-2.inside.sections.items own all c.requires.tries c.in_ok-section.ensures.few shared.0 shared.1 refl are in
    done.0
